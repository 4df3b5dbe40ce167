-- Laws of a search through a directory that begins at any depth.
use Rattle.std.proofs.Common.{◌≡◌, ℕ, zero, suc, ◌+◌, ◌*◌, ◌/◌, ◌%◌, ◌^◌, ◌-◌, ◌<◌, ◌≤◌, ◌==◌, Bool, true, false, cond, refl, sym, ap, ◌∙◌, subst, arith, bit_and, lit<, length}
use Rattle.std.proofs.lemmas.Bool.{true≢false}
use Rattle.std.proofs.lemmas.Nat.{and_mask, mod_below}
use Rattle.std.proofs.Math.Nat.{pow-le-pow_right}
use lib.Pow.{shr-shr}
use Rattle.std.specs.FinSet as set
use Rattle.sdbm_addr.specs.Directory.{IsDirectory, Splits, Word, word_number, hash_bit, hash_prefix}
use Rattle.sdbm_addr.proofs.DirectoryLemmas.{length-hash_prefix, unsplit_past, word_number-more, word_number-lt}
use Rattle.sdbm_dir.specs.Words.{word_of}
use Rattle.sdbm_dir.proofs.BitmapLemmas.{word_of-word_number}

-- testing a bit is testing its word
pub tested : (d : Splits) (bit : ℕ) (w : Word) (r b : Bool) → bit ≡ word_number w → r ≡ set.contains d (word_of bit) → r ≡ b → set.contains d w ≡ b
tested d bit w r b n is e = ap (set.contains d) (sym (word_of-word_number w) ∙ ap word_of (sym n)) ∙ sym is ∙ e

pub few : (d : Splits) (n hash : ℕ) → IsDirectory d → set.contains d (hash_prefix n hash) ≡ true → n ≤ 30
few d n hash dir t = let short : length (hash_prefix n hash) ≤ 30 = dir.short _ t in let long : length (hash_prefix n hash) ≡ n = length-hash_prefix n hash in omega arith

-- all prefixes of a split prefix are split
pub split_before : (d : Splits) → IsDirectory d → (m n hash : ℕ) → m ≤ n → set.contains d (hash_prefix n hash) ≡ true → set.contains d (hash_prefix m hash) ≡ true
split_before d dir m n hash l t = elim (set.contains d (hash_prefix m hash)) as (λ b. set.contains d (hash_prefix m hash) ≡ b → b ≡ true) [
  | true ↦ λ e. refl
  | false ↦ λ e. absurd (true≢false (sym t ∙ unsplit_past d dir m n hash l e))
] refl

-- a nonempty prefix has a parent
pub parent_number : (n m hash bit : ℕ) → n ≡ suc m → bit ≡ word_number (hash_prefix n hash) → (0 < bit) × ((bit - 1) / 2 ≡ word_number (hash_prefix m hash))
parent_number n m hash bit more e = halved (hash_bit m hash) (e ∙ ap (λ (k : ℕ). word_number (hash_prefix k hash)) more)
  where
    halved : (b : Bool) → bit ≡ 2 * word_number (hash_prefix m hash) + cond b 2 1 → (0 < bit) × ((bit - 1) / 2 ≡ word_number (hash_prefix m hash))
    halved true e = (omega arith, omega arith)
    halved false e = (omega arith, omega arith)

-- the table reverses four bits
pub turned_round : (q : ℕ) → q < 16 → bit_and (17848844570815808640 / 2 ^ (4 * q)) 15 ≡ 8 * (q % 2) + (4 * (q / 2 % 2) + (2 * (q / 4 % 2) + q / 8))
turned_round zero l = refl
turned_round (suc zero) l = refl
turned_round (suc (suc zero)) l = refl
turned_round (suc (suc (suc zero))) l = refl
turned_round (suc (suc (suc (suc zero)))) l = refl
turned_round (suc (suc (suc (suc (suc zero))))) l = refl
turned_round (suc (suc (suc (suc (suc (suc zero)))))) l = refl
turned_round (suc (suc (suc (suc (suc (suc (suc zero))))))) l = refl
turned_round (suc (suc (suc (suc (suc (suc (suc (suc zero)))))))) l = refl
turned_round (suc (suc (suc (suc (suc (suc (suc (suc (suc zero))))))))) l = refl
turned_round (suc (suc (suc (suc (suc (suc (suc (suc (suc (suc zero)))))))))) l = refl
turned_round (suc (suc (suc (suc (suc (suc (suc (suc (suc (suc (suc zero))))))))))) l = refl
turned_round (suc (suc (suc (suc (suc (suc (suc (suc (suc (suc (suc (suc zero)))))))))))) l = refl
turned_round (suc (suc (suc (suc (suc (suc (suc (suc (suc (suc (suc (suc (suc zero))))))))))))) l = refl
turned_round (suc (suc (suc (suc (suc (suc (suc (suc (suc (suc (suc (suc (suc (suc zero)))))))))))))) l = refl
turned_round (suc (suc (suc (suc (suc (suc (suc (suc (suc (suc (suc (suc (suc (suc (suc zero))))))))))))))) l = refl
turned_round (suc (suc (suc (suc (suc (suc (suc (suc (suc (suc (suc (suc (suc (suc (suc (suc x)))))))))))))))) l = absurd (omega arith)

-- four letters more
letter : (n hash : ℕ) → cond (hash_bit n hash) 2 1 ≡ 1 + hash / 2 ^ n % 2
letter n hash = by_bit (hash / 2 ^ n % 2) (mod_below (hash / 2 ^ n) 2 (lit< tt))
  where
    by_bit : (x : ℕ) → x < 2 → cond (x == 1) 2 1 ≡ 1 + x
    by_bit zero l = refl
    by_bit (suc zero) l = refl
    by_bit (suc (suc x)) l = absurd (omega arith)

halves : (n k hash : ℕ) → hash / 2 ^ (n + k) ≡ hash / 2 ^ n / 2 ^ k
halves n k hash = sym (shr-shr hash n k)

pub four_more : (n hash q bit : ℕ) → q ≡ hash / 2 ^ n % 16 → bit ≡ word_number (hash_prefix n hash)
    → 16 * bit + 15 + (8 * (q % 2) + (4 * (q / 2 % 2) + (2 * (q / 4 % 2) + q / 8))) ≡ word_number (hash_prefix (n + 4) hash)
four_more n hash q bit is e =
    let one : word_number (hash_prefix (n + 1) hash) ≡ 2 * word_number (hash_prefix n hash) + (1 + hash / 2 ^ n % 2) = word_number-more n hash ∙ ap (λ x. 2 * word_number (hash_prefix n hash) + x) (letter n hash) in
    let two : word_number (hash_prefix (n + 1 + 1) hash) ≡ 2 * word_number (hash_prefix (n + 1) hash) + (1 + hash / 2 ^ (n + 1) % 2) = word_number-more (n + 1) hash ∙ ap (λ x. 2 * word_number (hash_prefix (n + 1) hash) + x) (letter (n + 1) hash) in
    let three : word_number (hash_prefix (n + 1 + 1 + 1) hash) ≡ 2 * word_number (hash_prefix (n + 1 + 1) hash) + (1 + hash / 2 ^ (n + 1 + 1) % 2) = word_number-more (n + 1 + 1) hash ∙ ap (λ x. 2 * word_number (hash_prefix (n + 1 + 1) hash) + x) (letter (n + 1 + 1) hash) in
    let four : word_number (hash_prefix (n + 1 + 1 + 1 + 1) hash) ≡ 2 * word_number (hash_prefix (n + 1 + 1 + 1) hash) + (1 + hash / 2 ^ (n + 1 + 1 + 1) % 2) = word_number-more (n + 1 + 1 + 1) hash ∙ ap (λ x. 2 * word_number (hash_prefix (n + 1 + 1 + 1) hash) + x) (letter (n + 1 + 1 + 1) hash) in
    let h1 : hash / 2 ^ (n + 1) ≡ hash / 2 ^ n / 2 = halves n 1 hash in
    let e2 : n + 1 + 1 ≡ n + 2 = omega arith in
    let e3 : n + 1 + 1 + 1 ≡ n + 3 = omega arith in
    let e4 : n + 1 + 1 + 1 + 1 ≡ n + 4 = omega arith in
    let h2 : hash / 2 ^ (n + 1 + 1) ≡ hash / 2 ^ n / 4 = ap (λ (k : ℕ). hash / 2 ^ k) e2 ∙ halves n 2 hash in
    let h3 : hash / 2 ^ (n + 1 + 1 + 1) ≡ hash / 2 ^ n / 8 = ap (λ (k : ℕ). hash / 2 ^ k) e3 ∙ halves n 3 hash in
    put (hash / 2 ^ n) _ _ _ _ one (two ∙ ap (λ x. 2 * word_number (hash_prefix (n + 1) hash) + (1 + x % 2)) h1) (three ∙ ap (λ x. 2 * word_number (hash_prefix (n + 1 + 1) hash) + (1 + x % 2)) h2) (four ∙ ap (λ x. 2 * word_number (hash_prefix (n + 1 + 1 + 1) hash) + (1 + x % 2)) h3) is
    ∙ ap (λ (k : ℕ). word_number (hash_prefix k hash)) e4
  where
    put : (h w1 w2 w3 w4 : ℕ) → w1 ≡ 2 * word_number (hash_prefix n hash) + (1 + h % 2) → w2 ≡ 2 * w1 + (1 + h / 2 % 2) → w3 ≡ 2 * w2 + (1 + h / 4 % 2) → w4 ≡ 2 * w3 + (1 + h / 8 % 2)
        → q ≡ h % 16 → 16 * bit + 15 + (8 * (q % 2) + (4 * (q / 2 % 2) + (2 * (q / 4 % 2) + q / 8))) ≡ w4
    put h w1 w2 w3 w4 a b c d is = omega arith

pub small_bit : (i hash bit : ℕ) → i ≤ 6 → bit ≡ word_number (hash_prefix (4 * i) hash) → bit < 2 ^ 25
small_bit i hash bit l e =
    let below : word_number (hash_prefix (4 * i) hash) + 1 < 2 ^ (length (hash_prefix (4 * i) hash) + 1) = word_number-lt (hash_prefix (4 * i) hash) in
    let below' : word_number (hash_prefix (4 * i) hash) + 1 < 2 ^ (4 * i + 1) = subst (λ (k : ℕ). word_number (hash_prefix (4 * i) hash) + 1 < 2 ^ (k + 1)) (length-hash_prefix (4 * i) hash) below in
    let at_most : 2 ^ (4 * i + 1) ≤ 2 ^ 25 = pow-le-pow_right {n = 2} (lit< tt) (let few : 4 * i + 1 ≤ 25 = omega arith in few) in
    omega arith

pub low_four : (h : ℕ) → bit_and h 15 ≤ 15
low_four h = let is : bit_and h 15 ≡ h % 16 = and_mask h 4 in omega arith

pub letters_is : (h : ℕ) → (bit_and h 15 ≡ h % 16) × (bit_and h 15 < 16)
letters_is h = let is : bit_and h 15 ≡ h % 16 = and_mask h 4 in (is, omega arith)

-- one step of the search by four letters
pub round : (i hash bit : ℕ) → bit ≡ word_number (hash_prefix (4 * i) hash)
    → 16 * bit + 15 + bit_and (17848844570815808640 / 2 ^ (4 * bit_and (hash / 2 ^ (4 * i)) 15)) 15 ≡ word_number (hash_prefix (4 * (i + 1)) hash)
round i hash bit e =
    let letters = letters_is (hash / 2 ^ (4 * i)) in
    let next : 4 * i + 4 ≡ 4 * (i + 1) = omega arith in
    ap (λ x. 16 * bit + 15 + x) (turned_round (bit_and (hash / 2 ^ (4 * i)) 15) letters.1) ∙ four_more (4 * i) hash (bit_and (hash / 2 ^ (4 * i)) 15) bit letters.0 e
    ∙ ap (λ (k : ℕ). word_number (hash_prefix k hash)) next
