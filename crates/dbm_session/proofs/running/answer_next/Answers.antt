use Rattle.std.proofs.Common.{◌≡◌, ◌∙◌, false, true, sym}
use Rattle.std.proofs.lemmas.Result.{IfOk-weaker}
use Rattle.dbm_script.specs.Script.{stage}
use Rattle.dbm_session.specs.Sessions.{is_own, is_save}
use Rattle.dbm_session.proofs.Turns.{answers_own, answers_scripted, any_err, saves_after_time}
use Rattle.dbm_session.proofs.running.answer_next.Goals as goal

pub returns-then-is_own-clause-answers : goal.returns-then-is_own-clause-answers
returns-then-is_own-clause-answers g c =
    let save : is_save c.args.line.now ≡ false = sym c.is_save.ensures ∙ c.if-is_save.false in
    let own : is_own c.args.line.now ≡ true = sym c.is_own.ensures ∙ c.if-is_own.true in
    IfOk-weaker c.answer_own.result _ _
    (λ after h. answers_own c.args.notation.now (stage c.args.session.image c.args.session.registry.programs) c.args.line.now c.answer_own.new.text.items (stage after.image after.registry.programs)
    (g.H.Host.log c.args.host.now) (g.H.Host.log c.answer_own.new.host) save own h)
    c.answer_own.ensures.answers

pub returns-in_err-save_if_due-clause-lost : goal.returns-in_err-save_if_due-clause-lost
returns-in_err-save_if_due-clause-lost g c =
    any_err c.from_residual-in_err-save_if_due.result _
    (saves_after_time c.args.notation.now _ _ c.args.line.now _ (g.H.Host.log c.args.host.now) (g.H.Host.log c.answer_scripted.new.host) (g.H.Host.log c.save_if_due.new.host)
    c.in_ok-image.ensures.answers c.in_err-save_if_due.ensures.lost)

pub returns-clause-answers : goal.returns-clause-answers
returns-clause-answers g c =
    let save : is_save c.args.line.now ≡ false = sym c.is_save.ensures ∙ c.if-is_save.false in
    let own : is_own c.args.line.now ≡ false = sym c.is_own.ensures ∙ c.if-is_own.false in
    answers_scripted c.args.notation.now (stage c.args.session.image c.args.session.registry.programs) c.args.line.now _ _
    (g.H.Host.log c.args.host.now) (g.H.Host.log c.answer_scripted.new.host) (g.H.Host.log c.save_if_due.new.host) save own c.in_ok-image.ensures.answers c.in_ok-save_if_due.ensures.kept
