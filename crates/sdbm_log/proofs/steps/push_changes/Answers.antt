use Rattle.std.proofs.Common.{◌≡◌, ◌≤◌, ◌<◌, ◌+◌, ◌-◌, ◌++◌, ℕ, List, length, take, drop, sym, ◌∙◌, ap, subst, arith, length-drop}
use Rattle.std.proofs.lemmas.List.{take_all, drop-drop}
use Rattle.sdbm_saves.specs.Redo.{span_of, rest_of, count_of, changes_of, Fits}
use Rattle.sdbm_saves.proofs.Replays.{rest_next}
use Rattle.sdbm_log.specs.Steps.{acts_of}
use Rattle.sdbm_log.specs.Protocol.{change_acts}
use Rattle.sdbm_log.proofs.Stepping.{next_change}
use Rattle.sdbm_log.proofs.Weights.{one_less}
use Rattle.sdbm_log.proofs.steps.push_changes.Goals as goal

pub loop-index-init : goal.loop-index-init
loop-index-init c =
    let none : c.number-count.result - 0 ≡ c.number-count.result = omega arith in
    let first : List ℕ = take (length c.args.plan.now - 28) (changes_of c.args.plan.now) in
    let all : first ≡ changes_of c.args.plan.now = take_all (length c.args.plan.now - 28) (changes_of c.args.plan.now) (omega (arith, length-drop 28 c.args.plan.now)) in
    record {
      rest = all;
      place = omega (arith, ap (λ (l : List ℕ). length l) all, length-drop 28 c.args.plan.now, c.requires.plan.header);
      buffer = λ bytes is. sym (drop-drop 28 c.args.from bytes) ∙ ap (λ (l : List ℕ). drop 28 l) is ∙ sym all;
      acts = λ bytes is. subst (λ k. acts_of bytes c.args.steps.now.items ++ change_acts k first ≡ acts_of bytes c.args.steps.now.items ++ change_acts c.number-count.result (changes_of c.args.plan.now)) (sym none)
          (ap (λ (l : List ℕ). acts_of bytes c.args.steps.now.items ++ change_acts c.number-count.result l) all);
    }

pub push_change-requires-clause-near : goal.push_change-requires-clause-near
push_change-requires-clause-near c = omega (arith, c.loop-index.invariant.place, c.requires.short, c.requires.near)

pub loop-index-preserved : goal.loop-index-preserved
loop-index-preserved c =
    let rest = c.loop-index.rest.now in
    let lt : c.loop-index.index < count_of c.args.plan.now = omega (arith, c.loop-index-test.true, c.number-count.ensures.value) in
    let fit : Fits c.args.plan.now rest = subst (λ r. Fits c.args.plan.now r) (sym c.loop-index.invariant.rest) (c.requires.plan.fits c.loop-index.index lt) in
    let whole : span_of rest ≤ length rest = fit.whole in
    let less : length (rest_of rest) ≡ length rest - span_of rest = length-drop (span_of rest) rest in
    record {
      rest = c.rest_of-rest.ensures ∙ ap rest_of c.loop-index.invariant.rest ∙ sym (rest_next c.loop-index.index (changes_of c.args.plan.now));
      place = omega (arith, c.loop-index.invariant.place, whole, less, c.span_of-here.ensures, ap (λ (l : List ℕ). length l) c.rest_of-rest.ensures);
      buffer = λ bytes is. ap (λ k. drop (c.loop-index.here + k) bytes) c.span_of-here.ensures ∙ sym (drop-drop (span_of rest) c.loop-index.here bytes) ∙ ap (λ (l : List ℕ). drop (span_of rest) l) (c.loop-index.invariant.buffer bytes is) ∙ sym c.rest_of-rest.ensures;
      acts = λ bytes is. subst (λ (l : List ℕ). acts_of bytes c.push_change.new.steps.items ++ change_acts (c.number-count.result - (c.loop-index.index + 1)) l ≡ acts_of bytes c.args.steps.now.items ++ change_acts c.number-count.result (changes_of c.args.plan.now)) (sym c.rest_of-rest.ensures)
          (next_change (acts_of bytes c.loop-index.steps.items) _ _ (c.number-count.result - c.loop-index.index) _ rest (one_less c.number-count.result c.loop-index.index c.loop-index-test.true) (c.loop-index.invariant.acts bytes is)
          (c.in_ok-push_change.ensures bytes (c.loop-index.invariant.buffer bytes is)));
    }
