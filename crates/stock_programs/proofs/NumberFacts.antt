-- Reading numbers that were written, and the machine's own words for reading and writing.
use Rattle.std.proofs.Common.{ℕ, zero, suc, ◌≡◌, ◌+◌, ◌-◌, ◌*◌, ◌^◌, ◌%◌, ◌<◌, ◌≤◌, ◌++◌, refl, sym, ap, ◌∙◌, List, [], ◌∷◌, length, take, drop, replicate, slice_index, arith, lit<}
use Rattle.std.proofs.lemmas.List.{length-take, length-drop, length-append, get_or-take, get_or-drop, get_or-append_right}
use Rattle.std.proofs.Math.ListN.{get_or-append}
use Rattle.std.proofs.Math.Seq.{drop-append_seam}
use Rattle.std.specs.Int.{bytes_low_first}
use Rattle.std.proofs.Math.Nat.{div-one}
use Rattle.std.proofs.Math.Nat.{pow-succ'}
use Rattle.std.specs.Prelude.{true, nat_le}
use Rattle.std.proofs.lemmas.Bool.{le-leb}
use Rattle.byteorder.specs.Endian.{little_bytes, little_number, little_from}
use Rattle.byteorder.specs.Numbers.{little_from-bytes, length-bytes_low_first}
use Rattle.bpf_helpers.specs.Machine.{splice}
use Rattle.bpf_helpers.specs.Runs.{AreBytes}
use Rattle.stock_programs.specs.Numbers.{number_at, with_number}

-- ---- in the machine's words

pub reads : (p : ℕ) (bytes : List ℕ) → little_number 8 (drop p bytes) ≡ number_at p bytes
unfolding number_at
reads p bytes = refl

pub reads_first : (bytes : List ℕ) → little_number 8 bytes ≡ number_at 0 bytes
unfolding number_at
reads_first bytes = refl

-- A number below 2 ^ 64 is its own remainder.
pub small : (n : ℕ) → n < 2 ^ 64 → n % 2 ^ 64 ≡ n
small n h = omega arith

pub writes : (bytes : List ℕ) (p x : ℕ) → splice bytes p (little_bytes 8 x) ≡ with_number bytes p x
unfolding with_number
writes bytes p x = refl

-- ---- laws

fits_from : (i n : ℕ) (xs : List ℕ) → AreBytes xs → little_from i n xs < 256 ^ n
fits_from i zero xs h = lit< tt
fits_from i (suc n) xs h =
    let a : slice_index xs i < 256 = h i in
    let b : little_from (suc i) n xs < 256 ^ n = fits_from (suc i) n xs h in
    let e : 256 ^ suc n ≡ 256 * 256 ^ n = pow-succ' 256 n in
    omega arith

drop_bytes : (k : ℕ) (xs : List ℕ) → AreBytes xs → AreBytes (drop k xs)
drop_bytes zero xs p i = p i
drop_bytes (suc k) [] p i = lit< tt
drop_bytes (suc k) (x ∷ xs) p i = drop_bytes k xs (λ j. p (suc j)) i

-- a number is below 2 ^ 64
pub fits : (p : ℕ) (bytes : List ℕ) → AreBytes bytes → number_at p bytes < 2 ^ 64
unfolding number_at
fits p bytes h = fits_from 0 8 (drop p bytes) (drop_bytes p bytes h)

-- Reading gives the number that was written.
read_back : (n p x : ℕ) (bytes rest : List ℕ) → p ≤ length bytes → little_from 0 n (drop p (take p bytes ++ (bytes_low_first 0 n x ++ rest))) ≡ x % 256 ^ n
read_back n p x bytes rest low =
    let len : length (take p bytes) ≡ p = simp length-take (omega arith) in
    let e : drop p (take p bytes ++ (bytes_low_first 0 n x ++ rest)) ≡ bytes_low_first 0 n x ++ rest = ap (λ (k : ℕ). drop k (take p bytes ++ (bytes_low_first 0 n x ++ rest))) (sym len) ∙ drop-append_seam (take p bytes) (bytes_low_first 0 n x ++ rest) in
    rw e (little_from-bytes n 0 x rest ∙ ap (λ (y : ℕ). y % 256 ^ n) (div-one x))

pub read_written : (bytes : List ℕ) (p x : ℕ) → p ≤ length bytes → x < 2 ^ 64 → number_at p (with_number bytes p x) ≡ x
unfolding number_at with_number
read_written bytes p x low small = read_back 8 p x bytes (drop (p + 8) bytes) low ∙ omega arith

pub read_spliced : (bytes : List ℕ) (p x : ℕ) → p ≤ length bytes → x < 2 ^ 64 → number_at p (splice bytes p (little_bytes 8 x)) ≡ x
unfolding number_at
read_spliced bytes p x low small = read_back 8 p x bytes (drop (p + 8) bytes) low ∙ omega arith

-- A byte before or after a number that was written is unchanged.
byte_before : (p k : ℕ) (bytes new : List ℕ) → p ≤ length bytes → k < p → slice_index (take p bytes ++ new) k ≡ slice_index bytes k
byte_before p k bytes new low before =
    let len : length (take p bytes) ≡ p = simp length-take (omega arith) in
    get_or-append (take p bytes) new 0 k (omega arith) ∙ get_or-take p bytes k 0 before

byte_after : (n p k : ℕ) (bytes mid : List ℕ) → p + n ≤ length bytes → length mid ≡ n → p + n ≤ k → slice_index (take p bytes ++ (mid ++ drop (p + n) bytes)) k ≡ slice_index bytes k
byte_after n p k bytes mid low count behind =
    let len : length (take p bytes) ≡ p = simp length-take (omega arith) in
    let place : p + n + (k - p - n) ≡ k = omega arith in
    get_or-append_right (take p bytes) (mid ++ drop (p + n) bytes) p k 0 len (omega arith)
    ∙ get_or-append_right mid (drop (p + n) bytes) n (k - p) 0 count (omega arith)
    ∙ get_or-drop (p + n) bytes (k - p - n) 0
    ∙ ap (λ (j : ℕ). slice_index bytes j) place

same_number : (i n p : ℕ) (xs ys : List ℕ) → ((k : ℕ) → k < p + i + n → p + i ≤ k → slice_index xs k ≡ slice_index ys k) → little_from i n (drop p xs) ≡ little_from i n (drop p ys)
same_number i zero p xs ys same = refl
same_number i (suc n) p xs ys same =
    let byte : slice_index (drop p xs) i ≡ slice_index (drop p ys) i = get_or-drop p xs i 0 ∙ same (p + i) (omega arith) (omega arith) ∙ sym (get_or-drop p ys i 0) in
    let rest = same_number (suc i) n p xs ys (λ k l m. same k (omega arith) (omega arith)) in
    rw (byte, rest) refl

-- A number at another place is unchanged.
pub read_before : (bytes : List ℕ) (p q x : ℕ) → p + 8 ≤ length bytes → q + 8 ≤ p → number_at q (with_number bytes p x) ≡ number_at q bytes
unfolding number_at with_number
read_before bytes p q x low below = same_number 0 8 q (with_number bytes p x) bytes (λ k l m. byte_before p k bytes (bytes_low_first 0 8 x ++ drop (p + 8) bytes) (omega arith) (omega arith))

pub read_after : (bytes : List ℕ) (p q x : ℕ) → p + 8 ≤ length bytes → p + 8 ≤ q → number_at q (with_number bytes p x) ≡ number_at q bytes
unfolding number_at with_number
read_after bytes p q x low above = same_number 0 8 q (with_number bytes p x) bytes (λ k l m. byte_after 8 p k bytes (bytes_low_first 0 8 x) low (length-bytes_low_first 0 8 x) (omega arith))

-- Writing keeps the length.
written_length : (n p : ℕ) (bytes mid : List ℕ) → p + n ≤ length bytes → length mid ≡ n → length (take p bytes ++ (mid ++ drop (p + n) bytes)) ≡ length bytes
written_length n p bytes mid low count = simp (length-append, length-take, length-drop) (omega arith)

-- The same in the machine's words.
pub length_spliced : (bytes : List ℕ) (p x : ℕ) → p + 8 ≤ length bytes → length (splice bytes p (little_bytes 8 x)) ≡ length bytes
length_spliced bytes p x low = written_length 8 p bytes (bytes_low_first 0 8 x) low (length-bytes_low_first 0 8 x)

-- A place inside the bytes is inside them after a number was written.
pub still_inside : (bytes : List ℕ) (p x k : ℕ) → p + 8 ≤ length bytes → k ≤ length bytes → nat_le k (length (splice bytes p (little_bytes 8 x))) ≡ true
still_inside bytes p x k low h = le-leb _ _ (omega (arith, length_spliced bytes p x low))

pub length_written : (bytes : List ℕ) (p x : ℕ) → p + 8 ≤ length bytes → length (with_number bytes p x) ≡ length bytes
unfolding with_number
length_written bytes p x low = written_length 8 p bytes (bytes_low_first 0 8 x) low (length-bytes_low_first 0 8 x)

-- The numbers in the first n bytes stay if other bytes follow.
pub read_taken : (bytes rest : List ℕ) (n p : ℕ) → n ≤ length bytes → p + 8 ≤ n → number_at p (take n bytes ++ rest) ≡ number_at p bytes
unfolding number_at
read_taken bytes rest n p low inside = same_number 0 8 p (take n bytes ++ rest) bytes (λ k l m. byte_before n k bytes rest low (omega arith))

-- Zeros are the number 0.
zero_at : (n k : ℕ) → slice_index (replicate n 0) k ≡ 0
zero_at zero k = refl
zero_at (suc n) zero = refl
zero_at (suc n) (suc k) = zero_at n k

zero_from : (i n : ℕ) (xs : List ℕ) → ((k : ℕ) → slice_index xs k ≡ 0) → little_from i n xs ≡ 0
zero_from i zero xs h = refl
zero_from i (suc n) xs h =
    let a : slice_index xs i ≡ 0 = h i in
    let b : little_from (suc i) n xs ≡ 0 = zero_from (suc i) n xs h in
    omega arith

pub read_zeros : (n p : ℕ) → number_at p (replicate n 0) ≡ 0
unfolding number_at
read_zeros n p = zero_from 0 8 (drop p (replicate n 0)) (λ k. get_or-drop p (replicate n 0) k 0 ∙ zero_at n (p + k))
