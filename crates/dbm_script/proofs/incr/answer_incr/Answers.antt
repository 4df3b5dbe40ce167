use Rattle.std.proofs.Common.{◌≡◌, rules}
use Rattle.std.proofs.lemmas.Result.{on_ok_weaker}
use Rattle.dbm_script.specs.Incr.{counter_image}
use Rattle.dbm_script.proofs.Numbered.{both_ok, incr_refused, incr_runs}
use Rattle.dbm_script.proofs.incr.answer_incr.Goals as goal

pub returns-in-Ok-clause-answer : goal.returns-in-Ok-clause-answer
returns-in-Ok-clause-answer g c =
    on_ok_weaker c.answer_run.result
    (incr_runs g.row.A.Denot c.args.notation.now c.args.image.now c.answer_run.new.image c.args.registry.now c.submit.new.self c.args.incr.key c.args.incr.amount
    c.as_slice.result.now c.in-Ok.id.0 c.args.text.now.items c.answer_run.new.text.items
    (search rules) (λ other stands. (c.in-Ok.ensures.known other stands).0) c.in-Ok.ensures.ok)
    (search rules)

pub returns-in-Err-clause-answer : goal.returns-in-Err-clause-answer
returns-in-Err-clause-answer g c =
    both_ok c.show_refusal.result
    (λ told is. incr_refused g.row.A.Denot c.args.notation.now c.args.image.now c.args.registry.now c.submit.new.self c.args.incr.key c.args.incr.amount
    c.as_slice.result.now c.in-Err.fault c.args.text.now.items c.show_refusal.new.text.items (search rules) told c.in-Err.ensures.err is)
    c.show_refusal.ensures.told c.show_refusal.ensures.text
