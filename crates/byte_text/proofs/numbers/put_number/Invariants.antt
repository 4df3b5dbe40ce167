use Rattle.std.proofs.Common.{◌≡◌, ◌++◌}
use Rattle.byte_text.specs.Numbers.{low_bytes}
use Rattle.byte_text.proofs.numbers.put_number.Given as goal

abbrev pub invariant-loop-places : goal.invariant-loop-places
invariant-loop-places g l = l.bytes.items ++ low_bytes l.places l.left ≡ l.fn.bytes.items ++ low_bytes l.width l.number

abbrev pub decreases-loop-places : goal.decreases-loop-places
decreases-loop-places g l = l.places
