-- The lines of the rest of a text.
use Rattle.std.proofs.Common.{ℕ, ◌+◌, [], List, Option, Some, None, length, Bor}
use Rattle.bpf_asm.specs.Text.{lines}

abbrev pub lines_left : Option (Bor (List ℕ)) → List (List ℕ)
lines_left None = []
lines_left (Some rest) = lines rest.now

abbrev pub room_left : Option (Bor (List ℕ)) → ℕ
room_left None = 0
room_left (Some rest) = length rest.now + 1
