-- The words that directory bits represent (Yigit, sdbm 1990: sdbm.c, `getpage`): a binary tree stored level by level in an array.
use Rattle.std.specs.Prelude.{◌≡◌, ℕ, zero, suc, ◌/◌, ◌%◌, ◌-◌, ◌==◌, true, [], ◌∷◌, ◌⊎◌}
use Rattle.std.specs.FinSet as set
use Rattle.sdbm_addr.specs.Directory.{Word, Splits}

-- word number n; if this word has more than `most` letters, its last `most` letters
abbrev pub word_from : ℕ → ℕ → Word
word_from zero n = []
word_from (suc most) zero = []
word_from (suc most) (suc n) = ((n % 2) == 1) ∷ word_from most (n / 2)

-- the word whose `word_number` is n
unfoldable pub word_of : ℕ → Word
word_of n = word_from n n

-- the word of this bit is empty (bit 0), or its parent is split
abbrev pub HasParent : Splits → ℕ → Type 0
HasParent d bit = (bit ≡ 0) ⊎ (set.contains d (word_of ((bit - 1) / 2)) ≡ true)
