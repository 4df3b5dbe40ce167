use Rattle.std.proofs.Common.{◌∙◌, ap, Some, slice_set}
use Rattle.std.specs.Option.{option_map}
use Rattle.std.specs.Box.{box_value}
use Rattle.std.proofs.lemmas.List.{map-set}
use Rattle.bpf_verify.specs.States.{States}
use Rattle.bpf_verify.proofs.table.States.put.Goals as goal

pub returns : goal.returns
returns g c =
    map-set (option_map box_value) c.self.inside.boxes.items c.args.at (Some c.args.state)
    ∙ ap (λ (xs : States). slice_set xs c.args.at (Some (box_value c.args.state))) c.self.view_is
