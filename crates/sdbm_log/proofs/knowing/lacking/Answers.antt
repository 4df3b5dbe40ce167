use Rattle.std.proofs.Common.{◌≡◌, ◌⊎◌, inl, inr, ⊎_elim, ◌<◌, ◌+◌, ℕ, List, get_or, true, nat_eq, sym, ◌∙◌, ap, subst, arith, length-drop, below_more}
use Rattle.std.proofs.lemmas.List.{take_all}
use Rattle.std.specs.HashSet.{contains}
use Rattle.sdbm_saves.specs.Redo.{file_of, offset_of, size_of, rest_of, changes_of, count_of}
use Rattle.sdbm_saves.proofs.Replays.{rest_next}
use Rattle.sdbm_log.specs.Places.{HasOwn}
use Rattle.sdbm_log.proofs.Places.{none_in}
use Rattle.sdbm_log.proofs.knowing.lacking.Goals as goal

pub loop-index-init : goal.loop-index-init
loop-index-init c = record {
  rest = take_all _ (changes_of c.args.plan.now) (omega (arith, length-drop 28 c.args.plan.now));
  so_far = λ k lt. absurd (omega (arith, lt));
  only = λ at is. absurd (none_in c.new-places.result at c.new-places.ensures.len is);
}

pub loop-index-preserved : goal.loop-index-preserved
loop-index-preserved c =
    let file = c.args.file in
    let bytes : List ℕ = c.args.bytes.now in
    let rest = c.loop-index.rest.now in
    let lt : c.loop-index.index < count_of c.args.plan.now = omega (arith, c.loop-index-test.true, c.number-count.ensures.value) in
    record {
      rest = c.rest_of-rest.ensures ∙ ap rest_of c.loop-index.invariant.rest ∙ sym (rest_next c.loop-index.index (changes_of c.args.plan.now));
      so_far = below_more _ _
          (λ k before touches i below. ⊎_elim (λ was. inl (c.in_ok-add_lacking.ensures.kept _ was)) (λ own. inr own) (c.loop-index.invariant.so_far k before touches i below))
          (subst
          (λ (l : List ℕ). file_of l ≡ file → (i : ℕ) → i < size_of l → (contains nat_eq c.add_lacking.new.places (offset_of l + i) ≡ true) ⊎ HasOwn l i (get_or bytes (offset_of l + i) 0))
          c.loop-index.invariant.rest c.in_ok-add_lacking.ensures.all);
      only = λ at is. ⊎_elim
          (λ was. c.loop-index.invariant.only at was)
          (λ here. record { change = rest; one = record { index = c.loop-index.index; counted = lt; is = c.loop-index.invariant.rest }; touches = here.0; inside = here.1 })
          (c.in_ok-add_lacking.ensures.only at is);
    }
