use Rattle.std.proofs.Common.{inl, inr, ⊎_elim, ◌<◌, ℕ, List, get_or, sym, ◌∙◌, ap, subst, arith, length-drop, below_more}
use Rattle.std.proofs.lemmas.List.{take_all}
use Rattle.sdbm_saves.specs.Redo.{rest_of, changes_of, count_of, Offers}
use Rattle.sdbm_saves.proofs.Replays.{rest_next}
use Rattle.sdbm_saves.proofs.Knowing.{none_has}
use Rattle.sdbm_log.proofs.knowing.strike.Goals as goal

pub loop-index-init : goal.loop-index-init
loop-index-init c = record {
  rest = take_all _ (changes_of c.args.plan.now) (omega (arith, length-drop 28 c.args.plan.now));
  kept = λ at is. is;
  so_far = λ k lt. absurd (omega (arith, lt));
  some = λ at is. inl is;
}

pub loop-index-preserved : goal.loop-index-preserved
loop-index-preserved c =
    let lt : c.loop-index.index < count_of c.args.plan.now = omega (arith, c.loop-index-test.true, c.number-count.ensures.value) in
    record {
      rest = c.rest_of-rest.ensures ∙ ap rest_of c.loop-index.invariant.rest ∙ sym (rest_next c.loop-index.index (changes_of c.args.plan.now));
      kept = λ at is. c.loop-index.invariant.kept at (c.strike_own.ensures.only at is).0;
      so_far = below_more _ _
          (λ k before at is. c.loop-index.invariant.so_far k before at (c.strike_own.ensures.only at is).0)
          (λ at is offers. (c.strike_own.ensures.only at is).1 (subst (λ (l : List ℕ). Offers l c.args.file at (get_or c.args.bytes.now at 0)) (sym c.loop-index.invariant.rest) offers));
      some = λ at was. ⊎_elim
          (λ now. ⊎_elim
          (λ still. inl still)
          (λ offers. inr (record { change = c.loop-index.rest.now; one = record { index = c.loop-index.index; counted = lt; is = c.loop-index.invariant.rest }; offers = offers }))
          (c.strike_own.ensures.rest at now))
          (λ has. inr has)
          (c.loop-index.invariant.some at was);
    }

pub returns-clause-only : goal.returns-clause-only
returns-clause-only c = λ at is. (
  c.loop-index.invariant.kept at is,
  none_has c.args.plan.now c.args.file at (get_or c.args.bytes.now at 0) c.loop-index.index (omega (arith, c.loop-index-test.false, c.number-count.ensures.value)) (λ k lt. c.loop-index.invariant.so_far k lt at is),
)
