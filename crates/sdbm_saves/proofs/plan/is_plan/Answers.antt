use Rattle.std.proofs.Common.{rules, sym, ◌∙◌, ap, subst, arith, length-drop, below_more}
use Rattle.std.proofs.lemmas.List.{take_all}
use Rattle.sdbm_saves.specs.Redo.{rest_of, changes_of, Fits}
use Rattle.sdbm_saves.proofs.Replays.{rest_next}
use Rattle.sdbm_saves.proofs.plan.is_plan.Goals as goal

pub loop-index-init : goal.loop-index-init
loop-index-init c = record { rest = take_all _ (changes_of c.args.plan.now) (omega (arith, length-drop 28 c.args.plan.now)); so_far = λ k lt. absurd (omega (arith, lt)) }

pub loop-index-preserved : goal.loop-index-preserved
loop-index-preserved c =
    let here : Fits c.args.plan.now c.loop-index.rest.now = search rules in
    record {
      rest = c.rest_of-rest.ensures ∙ ap rest_of c.loop-index.invariant.rest ∙ sym (rest_next c.loop-index.index (changes_of c.args.plan.now));
      so_far = below_more _ _ c.loop-index.invariant.so_far (subst (λ r. Fits c.args.plan.now r) c.loop-index.invariant.rest here);
    }
