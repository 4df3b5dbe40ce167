use Rattle.std.proofs.Common.{◌≡◌, ⊎_elim, ◌∙◌, ap, subst, sym, refl, ◌≤◌, ℕ, List, length, inl}
use Rattle.boddurci_handles.specs.declared.status.Status.TheVariants.{Done, BadFiles, ShortRoom, Stale, NoMemory, TooLong}
use Rattle.sdbm_log.specs.Saving.{AreOpenCalls}
use Rattle.sdbm_log.specs.Steps.{acts_of}
use Rattle.sdbm_log.specs.declared.log.Log.{Log}
use Rattle.sdbm_log.specs.declared.steps.Step.{Step}
use Rattle.boddurci_logs.specs.Answers.{AreHandedOut}
use Rattle.boddurci_logs.specs.Words.{words_of}
use Rattle.boddurci_logs.proofs.opening.open.Goals as goal

pub returns-in-Done : goal.returns-in-Done
returns-in-Done c =
    let made = c.in-Ok.opened in
    let log = c.of.ensures in
    let handed = c.hand_out.ensures.done c.in-Done.is in
    let told = c.hand_out.ensures.told (λ is. let wrong : Done ≡ NoMemory = sym c.in-Done.is ∙ is in cc) in
    record {
      done = λ is. (
        made.bytes.items,
        made.steps.items,
        (
          record {
            can = λ image reads. c.in-Ok.ensures.can_recover image (record { redo = reads.redo; both = reads.both });
            enough = subst (λ (k : ℕ). c.args.room ≤ k) (ap (λ (l : Log). l.room) (sym log)) c.in-Ok.ensures.log.1.1;
            calls = λ image reads. subst (λ (k : ℕ). AreOpenCalls image k (acts_of made.bytes.items made.steps.items)) (ap (λ (l : Log). l.room) (sym log)) (c.in-Ok.ensures.calls image (record { redo = reads.redo; both = reads.both }));
            end = ap (λ (l : Log). l.end) log ∙ c.in-Ok.ensures.log.0;
            count = ap (λ (l : Log). l.count) log ∙ c.in-Ok.ensures.log.1.0;
          },
          (
            subst (λ (l : List ℕ). AreHandedOut l made.steps.items c.args.bytes.now c.hand_out.new.bytes c.args.words.now c.hand_out.new.words) c.as_slice.ensures.value
                (subst (λ (l : List Step). AreHandedOut c.as_slice.result.now l c.args.bytes.now c.hand_out.new.bytes c.args.words.now c.hand_out.new.words) c.as_slice-2.ensures.value handed),
            (
              told.0 ∙ ap (λ (l : List ℕ). length l) c.as_slice.ensures.value,
              told.1 ∙ ap (λ (l : List Step). length (words_of l)) c.as_slice-2.ensures.value,
            ),
          ),
        ),
      );
      untouched = λ isnt. absurd (isnt refl);
      only = inl refl;
      refused = λ which. ⊎_elim (λ is. absurd (let wrong : Done ≡ BadFiles = is in cc)) (λ is. absurd (let wrong : Done ≡ Stale = is in cc)) which;
      short = λ is. absurd (let wrong : Done ≡ ShortRoom = is in cc);
      too_long = λ is. absurd (let wrong : Done ≡ TooLong = is in cc);
    }
