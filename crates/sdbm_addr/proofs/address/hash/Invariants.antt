use Rattle.std.proofs.Common.{◌≡◌, ◌+◌, ◌*◌, ◌%◌, ◌^◌, drop, length}
use Rattle.sdbm_addr.specs.Hash.{weighted_sum}
use Rattle.sdbm_addr.proofs.address.hash.Given as goal

-- the sum so far times 65599 to the number of bytes left, plus the sum of the bytes left, is the whole sum modulo 2^32
abbrev pub invariant-loop-i : goal.invariant-loop-i
invariant-loop-i l = (l.sum * 65599 ^ length (drop l.i l.key) + weighted_sum l.kind (drop l.i l.key)) % 2 ^ 32 ≡ weighted_sum l.kind l.key % 2 ^ 32
