use Rattle.std.proofs.Common.{◌≡◌, ◌++◌, ◌-◌, ◌∙◌, ap, subst, sym, refl, arith, ℕ, List, length, take, drop, length-drop, inl}
use Rattle.std.proofs.lemmas.List.{take_all}
use Rattle.boddurci_handles.specs.declared.status.Status.TheVariants.{Done, BadFiles, ShortRoom, TooLong}
use Rattle.sdbm_log.specs.Saving.{AreSaveCalls}
use Rattle.sdbm_log.specs.Steps.{acts_of}
use Rattle.sdbm_log.specs.declared.log.Log.{Log}
use Rattle.boddurci_logs.specs.Answers.{IsFilled, log_at}
use Rattle.boddurci_logs.specs.Words.{words_of}
use Rattle.boddurci_logs.proofs.saving.save.Goals as goal

pub returns-in-Done : goal.returns-in-Done
returns-in-Done c =
    let made = c.in-Ok.save in
    let bytes : List ℕ = c.args.bytes.now in
    let plan : List ℕ = take (length bytes - 18) (drop 18 bytes) in
    let all : plan ≡ drop 18 bytes = take_all (length bytes - 18) (drop 18 bytes) (omega (arith, length-drop 18 bytes)) in
    let buffer : c.copy_from_slice.new.self ≡ made.bytes.items = c.copy_from_slice.ensures.after ∙ c.as_slice-in-Done.ensures.value in
    let commit : c.in-Ok-words_of.commit.items ≡ words_of made.commit.items = c.in-Ok-words_of.ensures ∙ ap words_of c.as_slice.ensures.value in
    let apply : c.in-Ok-words_of-2.apply.items ≡ words_of made.apply.items = c.in-Ok-words_of-2.ensures ∙ ap words_of c.as_slice-2.ensures.value in
    record {
      done = λ is. (
        made.commit.items,
        made.apply.items,
        (
          record {
            calls = subst (λ (l : List ℕ). AreSaveCalls (log_at c.args.log.now) (log_at c.of.result) (drop 18 bytes) (acts_of l made.commit.items) (acts_of l made.apply.items)) (sym buffer)
                (subst (λ (l : List ℕ). AreSaveCalls (log_at c.args.log.now) (log_at c.of.result) l (acts_of made.bytes.items made.commit.items) (acts_of made.bytes.items made.apply.items)) all
                (subst (λ (l : Log). AreSaveCalls (log_at c.args.log.now) l plan (acts_of made.bytes.items made.commit.items) (acts_of made.bytes.items made.apply.items)) (sym c.of.ensures)
                (subst (λ (l : Log). AreSaveCalls l made.log plan (acts_of made.bytes.items made.commit.items) (acts_of made.bytes.items made.apply.items)) c.log.ensures c.in-Ok.ensures.calls)));
          },
          (
            subst (λ (l : List ℕ). IsFilled l c.args.words.now c.copy_joined.new.room) (λ i. (c.as_slice-first.ensures.value ∙ commit) i ++ (c.as_slice-3.ensures.value ∙ apply) i) (c.copy_joined.ensures.done c.in-Done.is),
            (
              ap (λ (l : List ℕ). length l) (c.as_slice-first.ensures.value ∙ commit),
              c.copy_joined.ensures.len c.in-Done.is ∙ (λ i. length ((c.as_slice-first.ensures.value ∙ commit) i ++ (c.as_slice-3.ensures.value ∙ apply) i)),
            ),
          ),
        ),
      );
      plan = ap (λ (l : List ℕ). drop 18 l) (buffer ∙ c.in-Ok.ensures.buffer) ∙ all;
      untouched = λ isnt. absurd (isnt refl);
      short = λ is. absurd (let wrong : Done ≡ ShortRoom = is in cc);
      refused = λ is. absurd (let wrong : Done ≡ BadFiles = is in cc);
      too_long = λ is. absurd (let wrong : Done ≡ TooLong = is in cc);
      only = inl refl;
    }
