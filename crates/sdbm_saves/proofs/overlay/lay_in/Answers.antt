use Rattle.std.proofs.Common.{◌≡◌, ◌<◌, ◌∙◌, List, ℕ, length, refl, sym, ap, subst, arith, length-drop}
use Rattle.std.proofs.lemmas.List.{take_all}
use Rattle.sdbm_saves.specs.Redo.{file_of, rest_of, rest_after, changes_of, count_of, new_length, effect, replayed, Fits}
use Rattle.sdbm_saves.proofs.PageDrafts.{resized_own}
use Rattle.sdbm_saves.proofs.Replays.{rest_next, replayed_next, length-replayed}
use Rattle.sdbm_saves.proofs.overlay.lay_in.Goals as goal

pub loop-index-init : goal.loop-index-init
loop-index-init c = record {
  rest = take_all _ (changes_of c.args.plan.now) (omega (arith, length-drop 28 c.args.plan.now));
  laid = refl;
}

pub lay_change-requires-clause-inside : goal.lay_change-requires-clause-inside
lay_change-requires-clause-inside c = λ is.
    let plan = c.args.plan.now in
    let kept = c.loop-index.invariant in
    let lt : c.loop-index.index < count_of plan = omega (arith, c.loop-index-test.true, c.number-count.ensures.value) in
    let fit : Fits plan c.loop-index.rest.now = subst (λ r. Fits plan r) (sym kept.rest) (c.requires.plan.fits c.loop-index.index lt) in
    let long : length c.loop-index.laid ≡ new_length c.args.file plan =
    ap (λ (l : List ℕ). length l) kept.laid
    ∙ length-replayed c.args.file plan c.loop-index.index (changes_of plan) c.args.laid.now (λ k below. c.requires.plan.fits k (omega (arith, below, lt))) c.requires.long in
    omega (arith, fit.inside, ap (λ f. new_length f plan) is, long)

pub loop-index-preserved : goal.loop-index-preserved
loop-index-preserved c =
    let plan = c.args.plan.now in
    let kept = c.loop-index.invariant in
    let here = rest_after c.loop-index.index (changes_of plan) in
    record {
      rest = c.rest_of-rest.ensures ∙ ap rest_of kept.rest ∙ sym (rest_next c.loop-index.index (changes_of plan));
      laid = c.lay_change.ensures
          ∙ ap (λ (r : List ℕ). effect (file_of r) c.args.file r c.loop-index.laid) kept.rest
          ∙ ap (λ (l : List ℕ). effect (file_of here) c.args.file here l) kept.laid
          ∙ sym (replayed_next c.args.file c.loop-index.index (changes_of plan) c.args.laid.now);
    }

pub returns : goal.returns
returns c =
    let plan = c.args.plan.now in
    let file = c.args.file in
    let laid = c.args.laid.now in
    let end : c.loop-index.index ≡ count_of plan = omega (arith, c.loop-index.auto.index-end, c.loop-index-test.false, c.number-count.ensures.value) in
    c.loop-index.invariant.laid
    ∙ ap (λ n. replayed file n (changes_of plan) laid) end
    ∙ ap (λ (l : List ℕ). replayed file (count_of plan) (changes_of plan) l) (sym (resized_own (new_length file plan) laid (sym c.requires.long)))
