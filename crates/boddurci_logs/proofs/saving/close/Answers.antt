use Rattle.std.proofs.Common.{◌≡◌, ◌∙◌, ap, subst, ℕ, List, length, arith, inl, inr, ⊎_elim}
use Rattle.boddurci_logs.specs.Answers.{IsFilled}
use Rattle.boddurci_logs.specs.Words.{words_of}
use Rattle.boddurci_logs.proofs.saving.close.Goals as goal

pub returns : goal.returns
returns c =
    let words : c.as_slice-2.result.now ≡ words_of c.in-Ok.steps.items = c.as_slice-2.ensures.value ∙ c.in-Ok-words_of.ensures ∙ ap words_of c.as_slice.ensures.value in
    record {
      done = λ is. (c.in-Ok.steps.items, (subst (λ (l : List ℕ). IsFilled l c.args.words.now c.copy_out.new.room) words (c.copy_out.ensures.done is), (c.copy_out.ensures.len ∙ ap (λ (l : List ℕ). length l) words, c.in-Ok.ensures.calls)));
      untouched = c.copy_out.ensures.untouched;
      short = λ is. omega (arith, c.copy_out.ensures.short is, c.copy_out.ensures.len);
      only = ⊎_elim (λ done. inl done) (λ short. inr (inl short)) c.copy_out.ensures.only;
    }
