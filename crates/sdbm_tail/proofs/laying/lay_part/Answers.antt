use Rattle.std.proofs.Common.{◌≡◌, ◌<◌, List, ℕ, length, refl, sym, ◌∙◌, ap, subst, arith, length-drop}
use Rattle.std.proofs.lemmas.List.{take_all}
use Rattle.sdbm_saves.specs.Disk.{resized}
use Rattle.sdbm_saves.specs.Redo.{file_of, rest_of, changes_of, count_of, new_length, effect, replayed, Fits}
use Rattle.sdbm_saves.proofs.Lists.{length-resized}
use Rattle.sdbm_saves.proofs.Replays.{rest_next, replayed_next, length-replayed}
use Rattle.sdbm_log.proofs.Header.{never_both}
use Rattle.sdbm_tail.specs.Tail.{IsPartFrom}
use Rattle.sdbm_tail.proofs.laying.lay_part.Goals as goal
use Rattle.sdbm_tail.proofs.laying.lay_part.Goals.{then-lay_change, else-lay_change}

pub loop-index-init : goal.loop-index-init
loop-index-init c = record {
  rest = take_all _ (changes_of c.args.plan.now) (omega (arith, length-drop 28 c.args.plan.now));
  laid = λ old is. is;
  long = refl;
  same = λ is. refl;
}

pub loop-index-preserved : goal.loop-index-preserved
loop-index-preserved c =
    let plan : List ℕ = c.args.plan.now in
    let changes : List ℕ = changes_of plan in
    let file = c.args.file in
    let k : ℕ = c.loop-index.index in
    let kept = c.loop-index.invariant in
    let lt : k < count_of plan = omega (arith, c.loop-index-test.true, c.number-count.ensures.value) in
    let fit : Fits plan c.loop-index.rest.now = subst (λ r. Fits plan r) (sym kept.rest) (c.requires.plan.fits k lt) in
    record {
      rest = c.rest_of-rest.ensures ∙ ap rest_of kept.rest ∙ sym (rest_next k changes);
      laid = λ old is.
          let whole : List ℕ = resized (new_length file plan) old in
          let long : length (replayed file k changes whole) ≡ new_length file plan =
          length-replayed file plan k changes whole (λ j below. c.requires.plan.fits j (omega (arith, below, lt))) (length-resized (new_length file plan) old) in
          subst (λ (l : List ℕ). IsPartFrom c.args.from c.lay_change.new.part l)
          (ap (λ (r : List ℕ). effect (file_of r) file r (replayed file k changes whole)) kept.rest ∙ sym (replayed_next file k changes whole))
          (c.lay_change.ensures.laid (replayed file k changes whole) (λ touches. omega (arith, fit.inside, ap (λ f. new_length f plan) touches, long)) (kept.laid old is));
      long = c.lay_change.ensures.same_length ∙ kept.long;
      same = elim c.if-lay_change.branch [
        | then-lay_change w ↦ λ is. absurd (never_both c.if-lay_change.is_touched w.is_touched-is is)
        | else-lay_change w ↦ λ is. c.lay_change.ensures.untouched w.if-lay_change.false ∙ kept.same (sym w.is_touched-is ∙ is)
      ];
    }
