use Rattle.std.proofs.lemmas.Result.{on_ok_weaker}
use Rattle.dbm_script.proofs.Numbered.{answers_number, answers_refusal, both_ok}
use Rattle.dbm_script.proofs.images.answer_image.Goals as goal

pub returns-in-Ok : goal.returns-in-Ok
returns-in-Ok g c =
    on_ok_weaker c.show_number.result
    (answers_number c.args.registry.now c.submit.new.self c.args.image.now c.in-Ok.id.0 c.args.text.now.items c.show_number.new.text.items
    (λ other stands. (c.in-Ok.ensures.known other stands).0) c.in-Ok.ensures.ok)
    c.show_number.ensures

pub returns-in-Err : goal.returns-in-Err
returns-in-Err g c =
    both_ok c.show_refusal.result
    (λ told is. answers_refusal c.args.registry.now c.submit.new.self c.args.image.now c.in-Err.fault c.args.text.now.items c.show_refusal.new.text.items told c.in-Err.ensures.err is)
    c.show_refusal.ensures.told c.show_refusal.ensures.text
