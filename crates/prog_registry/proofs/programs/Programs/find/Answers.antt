use Rattle.std.proofs.Common.{List, IfSome, IfNone, ◌∙◌, subst}
use Rattle.bpf_verify.specs.Verified.{Accepted}
use Rattle.prog_registry.specs.Programs.{StandsAt, IsNew}
use Rattle.prog_registry.proofs.Numbers.{found_at, found_nowhere}
use Rattle.prog_registry.proofs.programs.Programs.find.Goals as goal

pub returns-clause-some : goal.returns-clause-some
returns-clause-some g c = subst (λ (s : List Accepted). IfSome c.copied.result (StandsAt s c.args.image.now)) c.self.view_is
    (found_at _ c.self.inside.numbers.entries c.args.image.now c.copied.result c.self.invariant (c.copied.ensures ∙ c.get.ensures.value))

pub returns-clause-none : goal.returns-clause-none
returns-clause-none g c = subst (λ (s : List Accepted). IfNone c.copied.result (IsNew s c.args.image.now)) c.self.view_is
    (found_nowhere _ c.self.inside.numbers.entries c.args.image.now c.copied.result c.self.invariant (c.copied.ensures ∙ c.get.ensures.value))
