use Rattle.std.proofs.Common.{arith, length}
use Rattle.bpf_flow.proofs.Calling.{copy_called}
use Rattle.bpf_flow.proofs.calls.call_copy.Goals as goal

pub returns : goal.returns
returns c =
    copy_called c.args.state.now c.answered.new.state c.in-Some-number_of.number c.result.result c.in-Some.to.region c.in-Some-place_of.from.region c.in-Some.to.lo c.in-Some.to.hi c.in-Some-place_of.from.lo c.in-Some-place_of.from.hi
    (record { by = c.answered.ensures }) (λ n h. (c.result.ensures.exact n).1 h) (rw c.range-most.ensures.is at c.if-most-gt-COPY_LIMIT.false) c.in_ok-writable.ensures
    (λ d f. c.in-Some.ensures (length d.bytes) (length d.argument) _ (rw c.kind-first.ensures (f.kinds 1 (omega arith))))
    (λ d f. c.in-Some-place_of.ensures (length d.bytes) (length d.argument) _ (rw c.kind-second.ensures (f.kinds 2 (omega arith))))
    (λ d f. c.in-Some-number_of.ensures (length d.bytes) (length d.argument) _ f.bytes f.argument (rw c.kind-third.ensures (f.kinds 3 (omega arith))))
    (rw c.range-most.ensures.is at c.in_ok-inside.ensures) (rw c.range-most.ensures.is at c.in_ok-inside-2.ensures)
