use Rattle.std.proofs.Common.{false, ◌≡◌, ◌∙◌, ◌++◌, inl, inr, ◌+◌, ℕ, refl, ap, arith, length, List}
use Rattle.sdbm_saves.specs.Acts.{Act}
use Rattle.sdbm_log.specs.Protocol.{apply_acts, close_acts, clear_acts}
use Rattle.sdbm_log.specs.Steps.{acts_of}
use Rattle.sdbm_log.specs.declared.log.Log.{Log}
use Rattle.sdbm_log.proofs.Header.{never_both}
use Rattle.sdbm_log.proofs.Stepping.{then_acts}
use Rattle.sdbm_log.proofs.saving.push_rest.Goals as goal

pub returns-then-is_growing : goal.returns-then-is_growing
returns-then-is_growing c =
    let end : c.args.log.end + 8 + length c.args.plan.now ≡ c.args.log.end + (8 + length c.args.plan.now) = omega arith in
    let same : Log = record { end = c.args.log.end + 8 + length c.args.plan.now; room = c.args.log.room; count = c.args.log.count + c.number.result } in (
      apply_acts c.args.plan.now,
      (λ bytes is. c.in_ok-push_apply.ensures bytes is, inl (c.if-is_growing.ensures.0 refl, (refl, λ i. record { end = end i; room = c.args.log.room; count = c.args.log.count + c.number.ensures.value i }))),
    )

pub returns : goal.returns
returns c =
    let end : c.args.log.end + 8 + length c.args.plan.now ≡ c.args.log.end + (8 + length c.args.plan.now) = omega arith in
    let old : List ℕ → List Act = λ bytes. acts_of bytes c.args.apply.now.items in (
      apply_acts c.args.plan.now ++ (close_acts ++ clear_acts (c.args.log.end + (8 + length c.args.plan.now))),
      (
        λ bytes is.
            then_acts (old bytes) (apply_acts c.args.plan.now) (acts_of bytes c.push_apply.new.steps.items) _ (close_acts ++ clear_acts (c.args.log.end + (8 + length c.args.plan.now))) (c.in_ok-push_apply.ensures bytes is)
            (then_acts (acts_of bytes c.push_apply.new.steps.items) close_acts (acts_of bytes c.push_close.new.steps.items) _ (clear_acts (c.args.log.end + (8 + length c.args.plan.now))) (c.in_ok-push_close.ensures bytes)
            (c.in_ok-push_clear.ensures bytes ∙ ap (λ k. acts_of bytes c.push_close.new.steps.items ++ clear_acts k) end)),
        inr ((λ growing. never_both false (c.if-is_growing.ensures.1 growing) refl), (refl, refl)),
      ),
    )
