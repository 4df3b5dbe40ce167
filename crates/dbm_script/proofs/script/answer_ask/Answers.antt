use Rattle.std.proofs.Common.{◌≡◌, Some, rules}
use Rattle.std.proofs.lemmas.Result.{on_ok_weaker}
use Rattle.dbm_script.specs.declared.lines.Ask.TheVariants.{Program, Incr}
use Rattle.dbm_script.proofs.Numbered.{image_line, incr_line}
use Rattle.dbm_script.proofs.script.answer_ask.Goals as goal

pub returns-in-Program-clause-answer : goal.returns-in-Program-clause-answer
returns-in-Program-clause-answer g c =
    let is : Some c.args.ask ≡ Some (Program c.as_slice.result.now) = search rules in
    on_ok_weaker c.answer_image.result
    (image_line g.row.A.Denot c.args.notation.now c.args.image.now c.args.registry.now.programs c.answer_image.new.registry.programs _ c.as_slice.result.now c.args.text.now.items c.answer_image.new.text.items is)
    c.answer_image.ensures

pub returns-in-Incr-clause-answer : goal.returns-in-Incr-clause-answer
returns-in-Incr-clause-answer g c =
    on_ok_weaker c.answer_incr.result
    (incr_line g.row.A.Denot c.args.notation.now c.args.image.now c.answer_incr.new.image c.args.registry.now.programs c.answer_incr.new.registry.programs (Some c.args.ask)
    c.in-Incr.incr.key c.in-Incr.incr.amount c.args.text.now.items c.answer_incr.new.text.items (search rules))
    c.answer_incr.ensures.answer
