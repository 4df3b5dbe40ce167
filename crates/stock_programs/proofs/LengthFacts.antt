-- The tests of the lengths of a record and an argument.
use Rattle.std.proofs.Common.{ℕ, ◌≡◌, ◌<◌, ◌≤◌, ◌^◌, ◌%◌, List, length, arith}
use Rattle.std.specs.Prelude.{true, false, nat_lt, nat_le}
use Rattle.std.proofs.lemmas.Bool.{le-leb, le-ltb, lt-ltb}

pub few : (bytes : List ℕ) (n : ℕ) → length bytes < n → n < 2 ^ 64 → nat_lt (length bytes % 2 ^ 64) n ≡ true
few bytes n h small = lt-ltb _ _ (omega arith)

pub many : (bytes : List ℕ) (n : ℕ) → length bytes ≤ 8008 → n ≤ length bytes → nat_lt (length bytes % 2 ^ 64) n ≡ false
many bytes n limit h = le-ltb _ _ (omega arith)

-- An access that ends at this place is inside the bytes.
pub in_bytes : (bytes : List ℕ) (n end : ℕ) → n ≤ length bytes → end ≤ n → nat_le end (length bytes) ≡ true
in_bytes bytes n end h low = le-leb _ _ (omega arith)
