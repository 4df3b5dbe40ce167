use Rattle.std.proofs.Common.{ap, ◌∙◌}
use Rattle.hold_modes.specs.Uses.{uses_bar}
use Rattle.hold_modes.proofs.UsesLemmas.{bar-is}
use Rattle.hold_modes.proofs.indexed.Indexed.bars.Goals as goal

pub returns : goal.returns
returns g c =
    rw (← c.self.view_is) (c.bar.ensures ∙ (ap (uses_bar c.args.mode) c.at.ensures ∙ bar-is c.self.inside.pages.uses c.self.inside.taken c.self.invariant.1 c.args.page c.args.mode))
