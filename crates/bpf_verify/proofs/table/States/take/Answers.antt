use Rattle.std.proofs.Common.{◌∙◌, ap, None, slice_set}
use Rattle.std.specs.Option.{option_map}
use Rattle.std.specs.Box.{box_value}
use Rattle.std.proofs.lemmas.List.{map-set}
use Rattle.bpf_verify.specs.States.{States}
use Rattle.bpf_verify.proofs.table.States.take.Goals as goal

pub returns-clause-gone : goal.returns-clause-gone
returns-clause-gone g c =
    rw c.take.ensures.after (map-set (option_map box_value) c.self.inside.boxes.items c.args.at None)
    ∙ ap (λ (xs : States). slice_set xs c.args.at None) c.self.view_is
