use Rattle.std.proofs.Common.{◌%◌}
use Rattle.std.proofs.Math.Nat.{mod-lt}
use Rattle.bpf_insn.specs.Arithmetic.{modulus, result_of}
use Rattle.bpf_range.specs.Sets.{In, IsOnly}
use Rattle.bpf_range.proofs.Results.{NotEnd, result_is, modulus_pos}
use Rattle.bpf_range.proofs.RangeFacts.{only_within}
use Rattle.bpf_range.proofs.transferring.transfer.Goals as goal

pub returns-in-Little-clause-contains : goal.returns-in-Little-clause-contains
returns-in-Little-clause-contains c = λ x y p q.
    c.settle.ensures.keeps _ (c.transfer_range-range.ensures.covers x y (c.range.ensures.covers x p) (c.range-2.ensures.covers y q)) (c.any_bits.ensures _)

pub returns-in_default-clause-contains : goal.returns-in_default-clause-contains
returns-in_default-clause-contains c = λ x y p q.
    let n : NotEnd c.args.op = record { little = c.in_default.not-Little; big = c.in_default.not-Big; swap = c.in_default.not-Swap } in
    let inside : In c.transfer_range-range.result (result_of c.args.op c.args.width x y) = c.transfer_range-range.ensures.covers x y (c.range.ensures.covers x p) (c.range-2.ensures.covers y q) in
    let count : In c.at_width-count.result (y % modulus c.args.width) = c.at_width-count.ensures.covers y (c.range-in_default.ensures.covers y q) in
    c.settle-in_default.ensures.keeps _ inside
    (rw (result_is c.args.op c.args.width x y n) (c.transfer_bits.ensures (x % modulus c.args.width) (y % modulus c.args.width)
    (mod-lt x (modulus_pos c.args.width)) (mod-lt y (modulus_pos c.args.width))
    (c.low_bits-low_a.ensures x (c.bits.ensures.has x p)) (c.low_bits-low_b.ensures y (c.bits-in_default.ensures.has y q)) count))

pub returns-in_default-clause-single : goal.returns-in_default-clause-single
returns-in_default-clause-single c = λ x y p q.
    let only : IsOnly c.transfer_range-range.result (result_of c.args.op c.args.width x y) = c.transfer_range-range.ensures.single x y (rw c.range.ensures.is p) (rw c.range-2.ensures.is q) in
    only_within _ _ _ c.settle-in_default.ensures.within only
