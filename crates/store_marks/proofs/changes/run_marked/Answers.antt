use Rattle.store_cmd.specs.declared.Reply.TheVariants.{Ran}
use Rattle.store_cmd.specs.declared.Entry.{Entry}
use Rattle.store_moves.specs.Rewrites.{command_of}
use Rattle.store_marks.proofs.Marked.{differ_done}
use Rattle.store_marks.proofs.changes.run_marked.Goals as goal

pub returns-in-Some-clause-differ : goal.returns-in-Some-clause-differ
returns-in-Some-clause-differ g c =
    let p = c.place-place.ensures in
    let entry : Entry g.row.A.Denot = record { session = c.args.input.now.session; command = command_of c.args.input.now; reply = Ran c.in-Some.ended.code c.in-Some.ended.word } in
    differ_done c.args.image.now c.act_run_at.new.image c.args.marks.now c.add.new.self c.in-Ok.ensures.more p.database entry tt c.place-place.result
    (record { depth = p.depth; shallow = p.shallow; low_bits = p.low_bits; bit = p.bit }) c.in-Some.ensures.done c.in-Some.ensures.fills c.in-Ok.ensures.ok
