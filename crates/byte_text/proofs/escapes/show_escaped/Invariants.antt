use Rattle.std.proofs.Common.{◌≡◌, ◌++◌, drop}
use Rattle.byte_text.specs.Escapes.{escaped}
use Rattle.byte_text.proofs.escapes.show_escaped.Given as goal

abbrev pub invariant-loop-byte : goal.invariant-loop-byte
invariant-loop-byte g l = l.text.items ++ escaped (drop l.byte-index l.bytes) ≡ l.fn.text.items ++ escaped l.bytes
