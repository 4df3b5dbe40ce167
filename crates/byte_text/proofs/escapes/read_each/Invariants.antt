use Rattle.std.proofs.Common.{◌≡◌, ◌++◌, List, ℕ, Some, drop}
use Rattle.byte_text.specs.Escapes.{IsReading, bytes_left}
use Rattle.byte_text.specs.Text.{joined}
use Rattle.byte_text.specs.declared.escapes.Reading.TheVariants.{Plain}
use Rattle.byte_text.proofs.escapes.read_each.Given as goal

-- the bytes so far, and the bytes of the remaining text
abbrev pub invariant-loop-c : goal.invariant-loop-c
invariant-loop-c g l = record {
  added : List ℕ;
  items : l.bytes.items ≡ l.fn.bytes.items ++ added;
  left : bytes_left Plain l.text ≡ joined (Some added) (bytes_left l.reading (drop l.c-index l.text));
  small : IsReading l.reading;
}
