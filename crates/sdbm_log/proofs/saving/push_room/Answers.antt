use Rattle.std.proofs.Common.{false, ◌++◌, inl, inr, ◌+◌, ◌*◌, ◌/◌, ◌≤◌, ℕ, length, refl, arith}
use Rattle.sdbm_log.specs.Protocol.{close_acts, clear_acts, start_acts}
use Rattle.sdbm_log.specs.Steps.{acts_of, with_head}
use Rattle.sdbm_log.proofs.Header.{never_both}
use Rattle.sdbm_log.proofs.Stepping.{small_count, then_acts}
use Rattle.sdbm_log.proofs.saving.push_room.Goals as goal

pub returns-then-len-log : goal.returns-then-len-log
returns-then-len-log c = (
  close_acts ++ clear_acts c.args.log.end,
  (
    λ rest. then_acts (acts_of (with_head rest) c.args.commit.now.items) close_acts (acts_of (with_head rest) c.push_close.new.steps.items) _ (clear_acts c.args.log.end)
        (c.in_ok-push_close.ensures (with_head rest)) (c.in_ok-push_clear.ensures (with_head rest)),
    record {
      how = inr (inl (record { full = λ can. never_both false (c.if-has_room.ensures.1 can) refl; cleared = refl; room = refl; end = refl; count = refl }));
      fits = omega (arith, c.if-len-log.true);
      few = omega (arith, small_count c.args.plan.now (λ i. omega (arith, c.type_inv.plan i)));
    },
  ),
)

pub returns : goal.returns
returns c =
    let size : ℕ = 8 + length c.args.plan.now in
    let room : ℕ = size / 1048576 * 1048576 + 1048576 in
    let above : size ≤ room = omega arith in
    let below : room ≤ size + 1048576 = omega arith in (
      close_acts ++ start_acts (4096 + room),
      (
        λ rest. then_acts (acts_of (with_head rest) c.args.commit.now.items) close_acts (acts_of (with_head rest) c.push_close.new.steps.items) _ (start_acts (4096 + room))
            (c.in_ok-push_close.ensures (with_head rest)) (c.in_ok-push_start.ensures rest),
        record {
          how = inr (inr (record { short = omega (arith, c.if-len-log.false); started = refl; small = omega (arith, below); near = omega (arith, below, c.requires.short); end = refl; count = refl }));
          fits = omega (arith, above);
          few = omega (arith, small_count c.args.plan.now (λ i. omega (arith, c.type_inv.plan i)));
        },
      ),
    )
