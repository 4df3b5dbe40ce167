-- The head of a key: its length and first bytes, which a fault reports.
use Rattle.std.specs.Prelude.{◌≡◌, ℕ, List, length, take, Option, Some, None, ⊤}
use Rattle.dbm_dump.specs.declared.key_head.KeyHead.{KeyHead}

-- the head has the length of this key, and its first 32 bytes
pub record IsHead (key : List ℕ) (head : KeyHead) : Type 0 where
  pub len_is : head.len ≡ length key
  pub bytes_are : take (length key) head.bytes ≡ take 32 key

-- the fault reports the head of the key if the key is known
abbrev pub IsReported : Option (List ℕ) → Option KeyHead → Type 0
IsReported None None = ⊤
IsReported None (Some head) = ⊥
IsReported (Some key) None = ⊥
IsReported (Some key) (Some head) = IsHead key head
