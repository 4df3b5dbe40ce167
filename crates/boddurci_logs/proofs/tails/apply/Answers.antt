use Rattle.std.proofs.Common.{◌≡◌, ⊎_elim, ◌-◌, ◌∙◌, ap, subst, sym, refl, ℕ, List, length, take, drop, arith, length-drop, inl, inr}
use Rattle.std.proofs.lemmas.List.{take_all}
use Rattle.boddurci_handles.specs.declared.status.Status.TheVariants.{Done, BadFiles, ShortRoom, TooLong}
use Rattle.sdbm_saves.specs.Redo.{IsPlan}
use Rattle.sdbm_log.specs.Protocol.{apply_acts}
use Rattle.boddurci_logs.specs.Answers.{IsFilled}
use Rattle.boddurci_logs.specs.Words.{words_of}
use Rattle.boddurci_logs.proofs.tails.apply.Goals as goal

pub returns : goal.returns
returns c =
    let bytes : List ℕ = c.args.bytes.now in
    let plan : List ℕ = take (length bytes - 18) (drop 18 bytes) in
    let all : plan ≡ drop 18 bytes = take_all (length bytes - 18) (drop 18 bytes) (omega (arith, length-drop 18 bytes)) in
    let words : c.as_slice-2.result.now ≡ words_of c.in-Ok.steps.items = c.as_slice-2.ensures.value ∙ c.in-Ok-words_of.ensures ∙ ap words_of c.as_slice.ensures.value in
    record {
      done = λ is. (
        c.in-Ok.steps.items,
        (
          subst (λ (l : List ℕ). IsFilled l c.args.words.now c.copy_out.new.room) words (c.copy_out.ensures.done is),
          (
            c.copy_out.ensures.len ∙ ap (λ (l : List ℕ). length l) words,
            (subst (λ (l : List ℕ). IsPlan l) all (c.if-not-is_plan.ensures.0 refl), c.in-Ok.ensures bytes (sym all) ∙ ap apply_acts all),
          ),
        ),
      );
      untouched = c.copy_out.ensures.untouched;
      short = λ is. omega (arith, c.copy_out.ensures.short is, c.copy_out.ensures.len);
      refused = λ is. ⊎_elim
          (λ done. absurd (let wrong : Done ≡ BadFiles = sym done ∙ is in cc))
          (λ short. absurd (let wrong : ShortRoom ≡ BadFiles = sym short ∙ is in cc))
          c.copy_out.ensures.only;
      too_long = λ is. ⊎_elim
          (λ done. absurd (let wrong : Done ≡ TooLong = sym done ∙ is in cc))
          (λ short. absurd (let wrong : ShortRoom ≡ TooLong = sym short ∙ is in cc))
          c.copy_out.ensures.only;
      only = ⊎_elim (λ done. inl done) (λ short. inr (inl short)) c.copy_out.ensures.only;
    }
