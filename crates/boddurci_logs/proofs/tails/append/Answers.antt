use Rattle.std.proofs.Common.{◌≡◌, ◌≤◌, ◌+◌, Option, IfSome, ◌-◌, ◌∙◌, ap, subst, refl, arith, ℕ, List, length, take, drop, length-drop, inl}
use Rattle.std.proofs.lemmas.List.{take_all}
use Rattle.boddurci_handles.specs.declared.status.Status.TheVariants.{Done, BadFiles, ShortRoom, Stale, TooLong}
use Rattle.sdbm_saves.specs.Redo.{count_of}
use Rattle.sdbm_log.specs.Log.{record_of}
use Rattle.sdbm_log.specs.Saving.{CanTake}
use Rattle.sdbm_log.specs.Steps.{acts_of, with_head}
use Rattle.sdbm_log.specs.declared.log.Log.{Log}
use Rattle.sdbm_tail.specs.Tail.{append_acts}
use Rattle.sdbm_tail.specs.declared.steps.AppendSteps.{AppendSteps}
use Rattle.boddurci_logs.specs.Answers.{IsFilled, log_at}
use Rattle.boddurci_logs.specs.Words.{words_of}
use Rattle.boddurci_logs.proofs.tails.append.Goals as goal

pub returns-in-Done : goal.returns-in-Done
returns-in-Done c =
    let save = c.in-Some.save in
    let bytes : List ℕ = c.args.bytes.now in
    let plan : List ℕ = take (length bytes - 18) (drop 18 bytes) in
    let all : plan ≡ drop 18 bytes = take_all (length bytes - 18) (drop 18 bytes) (omega (arith, length-drop 18 bytes)) in
    let buffer : c.copy_from_slice.new.self ≡ save.bytes.items = c.copy_from_slice.ensures.after ∙ c.as_slice-in-Done.ensures.value in
    let words : c.as_slice-2.result.now ≡ words_of save.steps.items = c.as_slice-2.ensures.value ∙ c.in-Ok-words_of.ensures ∙ ap words_of c.as_slice.ensures.value in
    let place : Log = c.log.result in
    let calls : acts_of save.bytes.items save.steps.items ≡ append_acts place.end (record_of plan) =
    subst (λ (o : Option AppendSteps). IfSome o (λ s. acts_of s.bytes.items s.steps.items ≡ append_acts place.end (record_of plan))) c.in-Some.is c.in-Ok.ensures.calls in
    let made : (save.log.end ≡ place.end + (8 + length plan)) × ((save.log.room ≡ place.room) × (save.log.count ≡ place.count + count_of plan)) =
    subst (λ (o : Option AppendSteps). IfSome o (λ s. (s.log.end ≡ place.end + (8 + length plan)) × ((s.log.room ≡ place.room) × (s.log.count ≡ place.count + count_of plan)))) c.in-Some.is c.in-Ok.ensures.log in
    let takes : (1 ≤ place.end) × CanTake place plan = subst (λ (o : Option AppendSteps). IfSome o (λ s. (1 ≤ place.end) × CanTake place plan)) c.in-Some.is c.in-Ok.ensures.takes in
    let has_buffer : save.bytes.items ≡ with_head (record_of plan) = subst (λ (o : Option AppendSteps). IfSome o (λ s. s.bytes.items ≡ with_head (record_of plan))) c.in-Some.is c.in-Ok.ensures.buffer in
    let ask : c.log.result ≡ log_at c.args.log.now = c.log.ensures in
    record {
      done = λ is. (
        save.steps.items,
        (
          record {
            calls = ap (λ (l : List ℕ). acts_of l save.steps.items) buffer ∙ calls ∙ ap (λ (l : Log). append_acts l.end (record_of plan)) ask ∙ ap (λ (l : List ℕ). append_acts c.args.log.now.end (record_of l)) all;
            some = omega (arith, takes.0, ap (λ (l : Log). l.end) ask);
            takes = subst (λ (l : List ℕ). CanTake (log_at c.args.log.now) l) all (subst (λ (l : Log). CanTake l plan) ask takes.1);
            end = ap (λ (l : Log). l.end) c.of.ensures ∙ made.0 ∙ ap (λ (l : Log). l.end + (8 + length plan)) ask ∙ ap (λ (l : List ℕ). c.args.log.now.end + (8 + length l)) all;
            room = ap (λ (l : Log). l.room) c.of.ensures ∙ made.1.0 ∙ ap (λ (l : Log). l.room) ask;
            count = ap (λ (l : Log). l.count) c.of.ensures ∙ made.1.1 ∙ ap (λ (l : Log). l.count + count_of plan) ask ∙ ap (λ (l : List ℕ). c.args.log.now.count + count_of l) all;
          },
          (
            subst (λ (l : List ℕ). IsFilled l c.args.words.now c.copy_out.new.room) words (c.copy_out.ensures.done c.in-Done.is),
            c.copy_out.ensures.len ∙ ap (λ (l : List ℕ). length l) words,
          ),
        ),
      );
      plan = ap (λ (l : List ℕ). drop 18 l) (buffer ∙ has_buffer) ∙ all;
      untouched = λ isnt. absurd (isnt refl);
      short = λ is. absurd (let wrong : Done ≡ ShortRoom = is in cc);
      refused = λ is. absurd (let wrong : Done ≡ BadFiles = is in cc);
      full = λ is. absurd (let wrong : Done ≡ Stale = is in cc);
      too_long = λ is. absurd (let wrong : Done ≡ TooLong = is in cc);
      only = inl refl;
    }
