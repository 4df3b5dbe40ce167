-- The number of words whose bit is 1.
use Rattle.std.proofs.Common.{◌≡◌, ◌≢◌, ℕ, zero, suc, ◌+◌, ◌*◌, ◌/◌, ◌^◌, ◌<◌, ◌≤◌, ◌||◌, List, length, get_or, Bool, true, false, cond, inl, inr, ◌⊎◌, refl, sym, ap, ◌∙◌, subst, arith, lit<, add-one}
use Rattle.std.proofs.lemmas.Bool.{cases_lt, true≢false, false_from_ne_true}
use Rattle.std.proofs.Math.Nat.{pow-le-pow_right}
use Rattle.std.specs.Ordering.{eq_by_cmp}
use Rattle.std.specs.FinSet as set
use Rattle.sdbm_addr.specs.Directory.{Word, word_cmp, Splits, word_number}
use Rattle.sdbm_addr.specs.DirectoryFile.{bit_of, SpellsDirectory, AreDirectoryBytes}
use Rattle.sdbm_addr.proofs.DirectoryLemmas.{words_total, same_word, eq_word, contains-insert, word_number-lt}
use Rattle.sdbm_dir.specs.Words.{word_of}
use Rattle.sdbm_dir.specs.Bitmap.{splits_below, splits_of}
use Rattle.sdbm_dir.proofs.BitmapLemmas.{word_number-word_of, contains-splits_of}
use Rattle.sdbm_dir.proofs.FileLemmas.{unset_zero}

-- a word with a number of at least n is not among the words below n
unlike_above : (bytes : List ℕ) (w : Word) (n : ℕ) → n ≤ word_number w → set.contains (splits_below bytes n) w ≡ false
unlike_above bytes w zero h = set.contains-empty word_cmp w
unlike_above bytes w (suc n) h = at (bit_of bytes n) (unlike_above bytes w n (omega arith))
  where
    other : eq_by_cmp word_cmp w (word_of n) ≡ false
    other = false_from_ne_true _ (λ t. let same : word_number w ≡ n = ap word_number (eq_word w (word_of n) t) ∙ word_number-word_of n in omega arith)

    at : (b : Bool) → set.contains (splits_below bytes n) w ≡ false → set.contains (cond b (set.insert (splits_below bytes n) (word_of n)) (splits_below bytes n)) w ≡ false
    at true rest = contains-insert _ _ _ ∙ ap (λ b. b || set.contains (splits_below bytes n) w) other ∙ rest
    at false rest = rest

pub one_bit : (bytes : List ℕ) (n count : ℕ) (b : Bool) → b ≡ bit_of bytes n → count ≡ cond b 1 0
    → set.len (splits_below bytes n) + count ≡ set.len (splits_below bytes (n + 1))
one_bit bytes n count true is many =
    let new = unlike_above bytes (word_of n) n (let same : word_number (word_of n) ≡ n = word_number-word_of n in omega arith) in
    let more : set.len (set.insert (splits_below bytes n) (word_of n)) ≡ set.len (splits_below bytes n) + 1 =
    set.len-insert words_total (splits_below bytes n) (word_of n) ∙ ap (λ b. cond b (set.len (splits_below bytes n)) (set.len (splits_below bytes n) + 1)) new in
    let next : set.len (splits_below bytes (n + 1)) ≡ set.len (set.insert (splits_below bytes n) (word_of n)) =
    ap (λ k. set.len (splits_below bytes k)) (add-one n) ∙ ap (λ b. set.len (cond b (set.insert (splits_below bytes n) (word_of n)) (splits_below bytes n))) (sym is) in
    omega arith
one_bit bytes n count false is many =
    let next : set.len (splits_below bytes (n + 1)) ≡ set.len (splits_below bytes n) =
    ap (λ k. set.len (splits_below bytes k)) (add-one n) ∙ ap (λ b. set.len (cond b (set.insert (splits_below bytes n) (word_of n)) (splits_below bytes n))) (sym is) in
    omega arith

none_more : (bytes : List ℕ) (m k : ℕ) → ((j : ℕ) → j < k → bit_of bytes (m + j) ≡ false) → splits_below bytes (m + k) ≡ splits_below bytes m
none_more bytes m zero none = ap (splits_below bytes) (omega arith)
none_more bytes m (suc k) none =
    let on : m + suc k ≡ suc (m + k) = omega arith in
    ap (splits_below bytes) on
    ∙ ap (λ b. cond b (set.insert (splits_below bytes (m + k)) (word_of (m + k))) (splits_below bytes (m + k))) (none k (omega arith))
    ∙ none_more bytes m k (λ j h. none j (omega arith))

-- a zero byte has no bit that is 1
pub no_bits : (bytes : List ℕ) (i : ℕ) → get_or bytes i 0 ≡ 0 → splits_below bytes (8 * i + 8) ≡ splits_below bytes (8 * i)
no_bits bytes i zeros = none_more bytes (8 * i) 8 (λ j h. let byte : (8 * i + j) / 8 ≡ i = omega arith in unset_zero bytes (8 * i + j) (ap (λ k. get_or bytes k 0) byte ∙ zeros))

pub all_bits : (bytes : List ℕ) (d : Splits) → SpellsDirectory bytes d → set.len (splits_below bytes (8 * length bytes)) ≡ set.len d
unfolding splits_of
all_bits bytes d spells = ap (λ (s : Splits). set.len s) (set.same_set words_total same_word (splits_of bytes) d (λ w. contains-splits_of bytes w ∙ spells.bits w))

pub directory_short : (d : Splits) (bytes : List ℕ) → AreDirectoryBytes d bytes → length bytes < 2 ^ 32
directory_short d bytes are = at (cases_lt 0 (length bytes))
  where
    at : (0 < length bytes) ⊎ (length bytes ≤ 0) → length bytes < 2 ^ 32
    at (inl some) =
        let last = are.last some in
        let long : length last.0 ≤ 30 = are.spells.directory.short last.0 last.1.0 in
        let low : word_number last.0 + 1 < 2 ^ (length last.0 + 1) = word_number-lt last.0 in
        let power : 2 ^ (length last.0 + 1) ≤ 2 ^ 31 = pow-le-pow_right {n = 2} (lit< tt) (let few : length last.0 + 1 ≤ 31 = omega arith in few) in
        let bound : length bytes ≤ word_number last.0 / 8 + 4096 = last.1.1 in
        omega arith
    at (inr none) = omega arith
