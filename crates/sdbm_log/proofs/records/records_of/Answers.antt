use Rattle.std.proofs.Common.{◌≡◌, ℕ, ◌-◌, List, length, drop, min, sym, ◌∙◌, ap, ⊎_elim, arith, length-drop}
use Rattle.std.proofs.lemmas.Bool.{cases_lt}
use Rattle.std.proofs.lemmas.List.{take_all, drop_all}
use Rattle.sdbm_log.proofs.records.records_of.Goals as goal

cut : (n : ℕ) (redo : List ℕ) → drop (min (length redo) n) redo ≡ drop n redo
cut n redo = ⊎_elim
    (λ short. drop_all (min (length redo) n) redo (omega (arith, short)) ∙ sym (drop_all n redo (omega (arith, short))))
    (λ long. let is : min (length redo) n ≡ n = omega (arith, long) in ap (λ k. drop k redo) is)
    (cases_lt (length redo) n)

pub returns : goal.returns
returns c =
    let redo = c.args.redo.now in
    take_all (length redo - c.min.result) (drop c.min.result redo) (omega (arith, length-drop c.min.result redo)) ∙ ap (λ k. drop k redo) c.min.ensures ∙ cut 4096 redo
