use Rattle.std.proofs.Common.{◌<◌, ◌^◌, arith}
use Rattle.sdbm_dir.proofs.WalkLemmas.{small_bit, low_four, round}
use Rattle.sdbm_dir.proofs.fours.bit_of_fours.Goals as goal

pub overflow_mul-bit : goal.overflow_mul-bit
overflow_mul-bit c = let small : c.loop-i.bit < 2 ^ 25 = small_bit c.loop-i.i c.args.hash c.loop-i.bit (omega arith) c.loop-i.invariant in omega arith

pub overflow_add-bit : goal.overflow_add-bit
overflow_add-bit c = let small : c.loop-i.bit < 2 ^ 25 = small_bit c.loop-i.i c.args.hash c.loop-i.bit (omega arith) c.loop-i.invariant in omega arith

pub overflow_add-bit-in-loop-i : goal.overflow_add-bit-in-loop-i
overflow_add-bit-in-loop-i c =
    let small : c.loop-i.bit < 2 ^ 25 = small_bit c.loop-i.i c.args.hash c.loop-i.bit (omega arith) c.loop-i.invariant in
    omega (arith, low_four)

pub loop-i-preserved : goal.loop-i-preserved
loop-i-preserved c = round c.loop-i.i c.args.hash c.loop-i.bit c.loop-i.invariant
