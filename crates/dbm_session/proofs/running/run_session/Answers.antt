use Rattle.std.proofs.Common.{Bool, false, true, List, ℕ, refl, sym, ap, subst, ◌∙◌}
use Rattle.std.proofs.lemmas.Result.{IfErr-weaker, IfOk-weaker}
use Rattle.std.specs.Io.KnownBytes.{Appends}
use Rattle.dbm_script.specs.LineInput.{GivesEnded, lines_left}
use Rattle.dbm_script.specs.Script.{stage}
use Rattle.dbm_session.specs.Sessions.{WritesSome}
use Rattle.dbm_session.proofs.Turns.{all_answered, all_as_script, all_begun, all_ended, all_half, all_same, all_stopped, all_stopped_within, all_unread, any_err, saves_no_more}
use Rattle.dbm_session.proofs.Noting.{any_noted}
use Rattle.dbm_session.proofs.running.run_session.Goals as goal

pub returns-in_err-registry-clause-part : goal.returns-in_err-registry-clause-part
returns-in_err-registry-clause-part g c = any_err c.from_residual.result _ (all_unread c.args.notation.now c.args.image (g.R.Read.remaining c.args.reader.now) _ _)

pub returns-in_err-next_ended-clause-part : goal.returns-in_err-next_ended-clause-part
returns-in_err-next_ended-clause-part g c =
    any_err c.from_residual-in_err-next_ended.result _
    (all_stopped c.args.notation.now c.args.image (g.R.Read.remaining c.args.reader.now) c.loop-count.count _ _ _ _ _ _ _ c.loop-count.invariant.known (saves_no_more _ _ c.ask.ensures.same))

pub returns-then-not-branch-clause-ok : goal.returns-then-not-branch-clause-ok
returns-then-not-branch-clause-ok g c =
    let left = lines_left c.loop-count.lines (g.R.Read.remaining c.loop-count.reader) in
    let left' = lines_left c.next_ended.new.self (g.R.Read.remaining c.next_ended.new.reader) in
    let gives : GivesEnded left false c.next_ended.new.line.items left' = subst (λ (b : Bool). GivesEnded left b c.next_ended.new.line.items left') c.if-not-branch.true c.in_ok-next_ended.ensures.given in
    IfOk-weaker c.end.result _ _
    (λ ended h. all_ended c.args.notation.now c.args.image (g.R.Read.remaining c.args.reader.now) c.loop-count.count left (g.W.Write.contents c.args.writer.now) (g.W.Write.contents c.loop-count.writer)
    (g.H.Host.log c.args.host.now) (g.H.Host.log c.ask.new.self) (g.H.Host.log c.end.new.host) c.loop-count.session.image c.loop-count.session.registry.programs c.next_ended.new.line.items left' ended.image
    (all_same c.args.notation.now c.args.image (g.R.Read.remaining c.args.reader.now) c.loop-count.count left _ _ _ _ _ _ c.ask.ensures.same c.loop-count.invariant.known) gives h.0 h.1)
    c.end.ensures.ok

pub returns-then-not-branch-clause-half : goal.returns-then-not-branch-clause-half
returns-then-not-branch-clause-half g c =
    let left = lines_left c.loop-count.lines (g.R.Read.remaining c.loop-count.reader) in
    let left' = lines_left c.next_ended.new.self (g.R.Read.remaining c.next_ended.new.reader) in
    let gives : GivesEnded left false c.next_ended.new.line.items left' = subst (λ (b : Bool). GivesEnded left b c.next_ended.new.line.items left') c.if-not-branch.true c.in_ok-next_ended.ensures.given in
    IfOk-weaker c.end.result _ _
    (λ ended h. all_half c.args.notation.now c.args.image (g.R.Read.remaining c.args.reader.now) c.loop-count.count left _ _ _ _ _ c.next_ended.new.line.items left' ended.half_line
    c.loop-count.invariant.known gives (h ∙ c.half_after.ensures))
    c.end.ensures.half

pub returns-then-not-branch-clause-part : goal.returns-then-not-branch-clause-part
returns-then-not-branch-clause-part g c =
    let left = lines_left c.loop-count.lines (g.R.Read.remaining c.loop-count.reader) in
    IfErr-weaker c.end.result _ _
    (λ f h. all_stopped c.args.notation.now c.args.image (g.R.Read.remaining c.args.reader.now) c.loop-count.count left (g.W.Write.contents c.args.writer.now) (g.W.Write.contents c.loop-count.writer)
    (g.H.Host.log c.args.host.now) (g.H.Host.log c.ask.new.self) (g.H.Host.log c.end.new.host) _
    (all_same c.args.notation.now c.args.image (g.R.Read.remaining c.args.reader.now) c.loop-count.count left _ _ _ _ _ _ c.ask.ensures.same c.loop-count.invariant.known) h)
    c.end.ensures.lost

pub returns-in_err-session-clause-part : goal.returns-in_err-session-clause-part
returns-in_err-session-clause-part g c =
    let left = lines_left c.loop-count.lines (g.R.Read.remaining c.loop-count.reader) in
    any_err c.from_residual-in_err-session.result _
    (all_stopped c.args.notation.now c.args.image (g.R.Read.remaining c.args.reader.now) c.loop-count.count left (g.W.Write.contents c.args.writer.now) (g.W.Write.contents c.loop-count.writer)
    (g.H.Host.log c.args.host.now) (g.H.Host.log c.ask.new.self) (g.H.Host.log c.answer_next.new.host) _
    (all_same c.args.notation.now c.args.image (g.R.Read.remaining c.args.reader.now) c.loop-count.count left _ _ _ _ _ _ c.ask.ensures.same c.loop-count.invariant.known) c.in_err-session.ensures.lost)

pub returns-in_err-say-clause-part : goal.returns-in_err-say-clause-part
returns-in_err-say-clause-part g c =
    let left = lines_left c.loop-count.lines (g.R.Read.remaining c.loop-count.reader) in
    let left' = lines_left c.next_ended.new.self (g.R.Read.remaining c.next_ended.new.reader) in
    let items : GivesEnded left true c.next_ended.new.line.items left' = subst (λ (b : Bool). GivesEnded left b c.next_ended.new.line.items left') c.if-not-branch.false c.in_ok-next_ended.ensures.given in
    let gives : GivesEnded left true c.as_slice.result.now left' = subst (λ (l : List ℕ). GivesEnded left true l left') (sym c.as_slice.ensures.value) items in
    let now = g.W.Write.contents c.loop-count.writer in
    let now' = g.W.Write.contents c.say.new.writer in
    let writes : WritesSome now now' c.answer_next.new.text.items = subst (λ (t : List ℕ). WritesSome now now' t) c.as_slice-in-loop-count.ensures.value c.in_err-say.ensures.part in
    any_err c.from_residual-in_err-say.result _
    (all_stopped_within c.args.notation.now c.args.image (g.R.Read.remaining c.args.reader.now) c.loop-count.count left (g.W.Write.contents c.args.writer.now) now now'
    (g.H.Host.log c.args.host.now) (g.H.Host.log c.ask.new.self) (g.H.Host.log c.answer_next.new.host) _ _ c.as_slice.result.now c.answer_next.new.text.items left'
    (all_same c.args.notation.now c.args.image (g.R.Read.remaining c.args.reader.now) c.loop-count.count left _ _ _ _ _ _ c.ask.ensures.same c.loop-count.invariant.known) gives c.in_ok-session.ensures.answers writes)

pub loop-count-preserved : goal.loop-count-preserved
loop-count-preserved g c =
    let before = c.loop-count.invariant in
    let left = lines_left c.loop-count.lines (g.R.Read.remaining c.loop-count.reader) in
    let left' = lines_left c.next_ended.new.self (g.R.Read.remaining c.next_ended.new.reader) in
    let items : GivesEnded left true c.next_ended.new.line.items left' = subst (λ (b : Bool). GivesEnded left b c.next_ended.new.line.items left') c.if-not-branch.false c.in_ok-next_ended.ensures.given in
    let gives : GivesEnded left true c.as_slice.result.now left' = subst (λ (l : List ℕ). GivesEnded left true l left') (sym c.as_slice.ensures.value) items in
    let now = g.W.Write.contents c.loop-count.writer in
    let now' = g.W.Write.contents c.say.new.writer in
    let writes : Appends now now' c.answer_next.new.text.items = subst (λ (t : List ℕ). Appends now now' t) c.as_slice-in-loop-count.ensures.value c.in_ok-say.ensures.ok in
    record {
      known = all_answered c.args.notation.now c.args.image (g.R.Read.remaining c.args.reader.now) c.loop-count.count left (g.W.Write.contents c.args.writer.now) now now'
          (g.H.Host.log c.args.host.now) (g.H.Host.log c.ask.new.self) (g.H.Host.log c.answer_next.new.host) _ _ c.as_slice.result.now c.answer_next.new.text.items left'
          (all_same c.args.notation.now c.args.image (g.R.Read.remaining c.args.reader.now) c.loop-count.count left _ _ _ _ _ _ c.ask.ensures.same before.known) gives c.in_ok-session.ensures.answers writes;
      kind = c.in_ok-session.ensures.kept.0 ∙ before.kind;
      size = c.in_ok-session.ensures.kept.1 ∙ before.size;
      noted = c.in_ok-session.ensures.noted;
    }

pub returns-clause-part : goal.returns-clause-part
returns-clause-part g c = all_stopped c.args.notation.now c.args.image (g.R.Read.remaining c.args.reader.now) c.loop-count.count _ _ _ _ _ _ _ c.loop-count.invariant.known (saves_no_more _ _ refl)

pub returns-then-not-branch-clause-script : goal.returns-then-not-branch-clause-script
returns-then-not-branch-clause-script g c =
    IfOk-weaker c.end.result _ _
    (λ ended e. all_as_script c.args.notation.now c.args.image (g.R.Read.remaining c.args.reader.now) (g.W.Write.contents c.args.writer.now) (g.W.Write.contents c.loop-count.writer)
    (g.H.Host.log c.args.host.now) (g.H.Host.log c.end.new.host) ended.image e)
    (returns-then-not-branch-clause-ok g c)

pub loop-count-init : goal.loop-count-init
loop-count-init g c = record {
  known = all_begun c.args.notation.now c.args.image (g.R.Read.remaining c.args.reader.now) c.new-lines.result _ _ _ c.new-lines.ensures.rest c.new-lines.ensures.open (ap (λ r. stage c.args.image r.programs) c.in_ok-registry.ensures);
  kind = refl;
  size = refl;
  noted = any_noted (g.H.Host.saved c.args.host.now) c.args.image;
}
