-- Numbers of 8 bytes, little-endian, in a list of bytes.
use Rattle.std.specs.Prelude.{ℕ, List, drop}
use Rattle.byteorder.specs.Endian.{little_bytes, little_number}
use Rattle.bpf_helpers.specs.Machine.{splice}

-- The number whose first byte is at this place.
unfoldable pub number_at : ℕ → List ℕ → ℕ
number_at place bytes = little_number 8 (drop place bytes)

-- The bytes after writing a number at this place.
unfoldable pub with_number : List ℕ → ℕ → ℕ → List ℕ
with_number bytes place number = splice bytes place (little_bytes 8 number)
