use Rattle.std.proofs.Common.{refl}
use Rattle.store_cmd.specs.declared.Command.TheVariants.{Store}
use Rattle.store_cmd.specs.declared.Reply.TheVariants.{Stored}
use Rattle.store_cmd.specs.declared.Entry.{Entry}
use Rattle.store_marks.proofs.Marked.{differ_done}
use Rattle.store_marks.proofs.changes.store_there.Goals as goal

pub returns-then-act_store_at-clause-done : goal.returns-then-act_store_at-clause-done
returns-then-act_store_at-clause-done g c = λ is. c.if-act_store_at.ensures.done refl 0

pub returns-then-act_store_at-clause-differ : goal.returns-then-act_store_at-clause-differ
returns-then-act_store_at-clause-differ g c = λ is.
    let p = c.place-place.ensures in
    let entry : Entry g.row.A.Denot = record { session = 0; command = Store c.args.key.now c.args.value.now c.args.mode; reply = Stored } in
    differ_done c.args.image.now c.act_store_at.new.image c.args.marks.now c.add.new.self c.in-Ok.ensures.more p.database entry tt c.place-place.result
    (record { depth = p.depth; shallow = p.shallow; low_bits = p.low_bits; bit = p.bit }) (c.if-act_store_at.ensures.done refl 0) (c.if-act_store_at.ensures.fills refl) c.in-Ok.ensures.ok
