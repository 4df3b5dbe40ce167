use Rattle.std.proofs.Common.{Some, sym}
use Rattle.std.proofs.lemmas.Map.Text.{btree_map_updates_str}
use Rattle.bpf_asm.proofs.LabelTable.{inserted}
use Rattle.bpf_asm.proofs.labels.define.Goals as goal

pub returns-in_ok-insert-in-None : goal.returns-in_ok-insert-in-None
returns-in_ok-insert-in-None g c =
    inserted c.args.labels.now c.insert.new.self c.args.name.now c.args.place (sym c.in-None.ensures)
    (btree_map_updates_str c.args.name.now c.args.labels.now c.insert.new.self (Some c.args.place) c.in_ok-insert-in-None.ensures.updates)
