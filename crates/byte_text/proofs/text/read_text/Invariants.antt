use Rattle.std.proofs.Common.{◌≡◌, Some, length}
use Rattle.byte_text.specs.Text.{all_bytes, bytes_of_text, joined, parts_left}
use Rattle.byte_text.proofs.text.read_text.Given as goal

abbrev pub invariant-loop-rest : goal.invariant-loop-rest
invariant-loop-rest g l = bytes_of_text l.fn.text ≡ joined (Some l.bytes.items) (all_bytes (parts_left l.rest))

abbrev pub decreases-loop-rest : goal.decreases-loop-rest
decreases-loop-rest g l = length (parts_left l.rest)
