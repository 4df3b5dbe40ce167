-- Comparison of keys by their last eight bytes.
use Rattle.std.proofs.Common.{◌≡◌, ℕ, zero, suc, ◌+◌, ◌*◌, ◌-◌, ◌<◌, ◌≤◌, ◌==◌, List, [], ◌∷◌, ◌++◌, length, take, drop, slice_range, slice_index, Bool, true, false, refl, sym, ap, ◌∙◌, subst, inl, inr, arith}
use Rattle.std.proofs.lemmas.Bool.{cases_eq, eq-eqb, ne_eqb}
use Rattle.std.proofs.lemmas.List.{drop-take, drop-drop, get_or-drop, get_or_past, length-take-le, length-drop, take-append-drop}
use lib.Seq.{take_all}
use Rattle.std.proofs.lemmas.Slice.Eq.{bytes_eq-Decides}
use Rattle.std.specs.Str.{bytes_eq}
use Rattle.byteorder.specs.Endian.{little_number, little_from}
use Rattle.byteorder.specs.Numbers.{little_from-cons, little_from-take}
use Rattle.sdbm_addr.specs.Pairs.{Content, key_at}
use Rattle.sdbm_page.specs.Fields.{number_at, end_at, IsInside}
use Rattle.sdbm_page.specs.Tails.{IsTail}
use Rattle.sdbm_page.proofs.Reading.{Holds}
use Rattle.sdbm_page.proofs.Parts.{holds_inside, holds_key}

-- the last bytes of a part are those of the whole
last_of : (bytes key : List ℕ) (start end n : ℕ) → end - start ≡ length key → n ≤ length key → 0 < n → slice_range bytes start end ≡ key
    → slice_range bytes (end - n) end ≡ drop (length key - n) key
last_of bytes key start end n long few some is =
    let m = length key - n in
    let sum : end - start ≡ m + n = omega arith in
    let from : start + m ≡ end - n = omega arith in
    let all : end - (end - n) ≡ n = omega arith in
    ap (λ (k : ℕ). take k (drop (end - n) bytes)) all ∙ ap (λ (k : ℕ). take n (drop k bytes)) (sym from) ∙ ap (take n) (sym (drop-drop m start bytes))
    ∙ sym (drop-take m n (drop start bytes)) ∙ ap (λ (k : ℕ). drop m (take k (drop start bytes))) (sym sum) ∙ ap (drop m) is

false_where_not : (b : Bool) → (b ≡ true → ⊥) → b ≡ false
false_where_not true other = absurd (other refl)
false_where_not false other = refl

-- a part with another tail is not the key
pub other_tail : (bytes key : List ℕ) (start end tail : ℕ) → end - start ≡ length key → IsTail key tail → (little_number 8 (slice_range bytes (end - 8) end) ≡ tail → ⊥)
    → false ≡ bytes_eq (slice_range bytes start end) key
other_tail bytes key start end tail long is other =
    sym (false_where_not (bytes_eq (slice_range bytes start end) key)
    (λ same. other (ap (little_number 8) (last_of bytes key start end 8 long is.long (omega arith) ((bytes_eq-Decides (slice_range bytes start end) key).0 same)) ∙ sym is.is)))

-- a list of bytes
abbrev AreBytes : List ℕ → Type 0
AreBytes xs = (k : ℕ) → slice_index xs k < 256

bytes_drop : (n : ℕ) (xs : List ℕ) → AreBytes xs → AreBytes (drop n xs)
bytes_drop n xs f = λ k. subst (λ (x : ℕ). x < 256) (sym (get_or-drop n xs k 0)) (f (n + k))

bytes_take : (n : ℕ) (xs : List ℕ) → AreBytes xs → AreBytes (take n xs)
bytes_take zero xs f k = subst (λ (x : ℕ). x < 256) (sym (get_or_past [] k 0 (omega arith))) (omega arith)
bytes_take (suc n) [] f k = f k
bytes_take (suc n) (x ∷ xs) f zero = f 0
bytes_take (suc n) (x ∷ xs) f (suc k) = bytes_take n xs (λ j. f (suc j)) k

-- two lists of bytes that read as the same number are equal
same_bytes : (n : ℕ) (xs ys : List ℕ) → n ≤ length xs → n ≤ length ys → AreBytes xs → AreBytes ys → little_from 0 n xs ≡ little_from 0 n ys → take n xs ≡ take n ys
same_bytes zero xs ys a b f g e = refl
same_bytes (suc n) [] ys a b f g e = absurd (omega arith)
same_bytes (suc n) (x ∷ xs) [] a b f g e = absurd (omega arith)
same_bytes (suc n) (x ∷ xs) (y ∷ ys) a b f g e =
    let all : x + 256 * little_from 0 n xs ≡ y + 256 * little_from 0 n ys =
    ap (λ r. x + 256 * r) (sym (little_from-cons 0 n x xs)) ∙ e ∙ ap (λ r. y + 256 * r) (little_from-cons 0 n y ys) in
    let fx : x < 256 = f 0 in
    let gy : y < 256 = g 0 in
    let head : x ≡ y = omega arith in
    let rest : little_from 0 n xs ≡ little_from 0 n ys = omega arith in
    ap (λ h. h ∷ take n xs) head ∙ ap (λ t. y ∷ t) (same_bytes n xs ys (omega arith) (omega arith) (λ k. f (suc k)) (λ k. g (suc k)) rest)

-- two lists of at most sixteen bytes are equal if their first eight and last eight bytes are
joined : (p q : List ℕ) (m : ℕ) → length p ≡ m → length q ≡ m → 8 ≤ m → m ≤ 16 → take 8 p ≡ take 8 q → drop (m - 8) p ≡ drop (m - 8) q → p ≡ q
joined p q m lp lq long few heads tails =
    let sum : m - 8 + (16 - m) ≡ 8 = omega arith in
    let behind : drop 8 p ≡ drop 8 q =
    ap (λ (k : ℕ). drop k p) (sym sum) ∙ sym (drop-drop (16 - m) (m - 8) p) ∙ ap (drop (16 - m)) tails ∙ drop-drop (16 - m) (m - 8) q ∙ ap (λ (k : ℕ). drop k q) sum in
    sym (take-append-drop 8 p) ∙ ap (λ l. l ++ drop 8 p) heads ∙ ap (λ l. take 8 q ++ l) behind ∙ take-append-drop 8 q

same_part : (p key : List ℕ) (tail : ℕ) → AreBytes p → AreBytes key → length p ≡ length key → length key ≤ 16 → IsTail key tail
    → little_number 8 (drop (length p - 8) p) ≡ tail → little_number 8 p ≡ little_number 8 key → p ≡ key
same_part p key tail f g long few is last first =
    let many : 8 ≤ length key = is.long in
    let ends : length (drop (length p - 8) p) ≡ 8 = length-drop (length p - 8) p ∙ omega arith in
    let ends' : length (drop (length key - 8) key) ≡ 8 = length-drop (length key - 8) key ∙ omega arith in
    let tails : take 8 (drop (length p - 8) p) ≡ take 8 (drop (length key - 8) key) =
    same_bytes 8 (drop (length p - 8) p) (drop (length key - 8) key) (omega arith) (omega arith) (bytes_drop (length p - 8) p f) (bytes_drop (length key - 8) key g) (last ∙ is.is) in
    let heads : take 8 p ≡ take 8 key = same_bytes 8 p key (omega arith) (omega arith) f g first in
    let less : length p - 8 ≡ length key - 8 = omega arith in
    joined p key (length key) long refl many few heads
    (ap (λ (k : ℕ). drop k p) (sym less) ∙ sym (take_all 8 (drop (length p - 8) p) (omega arith)) ∙ tails ∙ take_all 8 (drop (length key - 8) key) (omega arith))

-- if the last eight bytes match and there are at most sixteen, the first eight decide whether the key matches
pub first_tells : (bytes key : List ℕ) (start end tail r s : ℕ) → ((k : ℕ) → slice_index bytes k < 256) → ((k : ℕ) → slice_index key k < 256)
    → start ≤ end → end ≤ length bytes → end - start ≡ length key → length key ≤ 16 → IsTail key tail → little_number 8 (slice_range bytes (end - 8) end) ≡ tail
    → r ≡ little_number 8 (slice_range bytes start (start + 8)) → s ≡ little_number 8 (take 8 key)
    → (r == s) ≡ bytes_eq (slice_range bytes start end) key
first_tells bytes key start end tail r s f g order inside long few is last first second =
    let p : List ℕ = slice_range bytes start end in
    let many : 8 ≤ length key = is.long in
    let count : length (slice_range bytes start end) ≡ end - start = length-take-le (end - start) (drop start bytes) (omega (arith, length-drop start bytes)) in
    let eight : start + 8 - start ≡ 8 = omega arith in
    let reads_p : little_number 8 (slice_range bytes start end) ≡ little_number 8 (drop start bytes) = little_from-take 0 8 (end - start) (drop start bytes) (omega arith) in
    let reads_r : r ≡ little_number 8 (slice_range bytes start end) =
    first ∙ ap (λ (n : ℕ). little_number 8 (take n (drop start bytes))) eight ∙ little_from-take 0 8 8 (drop start bytes) (omega arith) ∙ sym reads_p in
    let reads_s : s ≡ little_number 8 key = second ∙ little_from-take 0 8 8 key (omega arith) in
    let last_p : little_number 8 (drop (length (slice_range bytes start end) - 8) (slice_range bytes start end)) ≡ tail =
    ap (little_number 8) (sym (last_of bytes (slice_range bytes start end) start end 8 (sym count) (omega arith) (omega arith) refl)) ∙ last in
    elim (cases_eq r s) as (λ _. (r == s) ≡ bytes_eq (slice_range bytes start end) key) [
      | inl e ↦ eq-eqb r s e ∙ sym ((bytes_eq-Decides (slice_range bytes start end) key).1
          (same_part (slice_range bytes start end) key tail (bytes_take (end - start) (drop start bytes) (bytes_drop start bytes f)) g (count ∙ long) few is last_p (sym reads_r ∙ e ∙ reads_s)))
      | inr d ↦ ne_eqb r s d ∙ sym (false_where_not (bytes_eq (slice_range bytes start end) key)
          (λ same. d (reads_r ∙ ap (little_number 8) ((bytes_eq-Decides (slice_range bytes start end) key).0 same) ∙ sym reads_s)))
    ]

-- a pair of a page whose bytes are borrowed
pub lent_inside : (bytes slice : List ℕ) (content : Content) (i : ℕ) → Holds bytes content → i < length content.pairs → slice ≡ bytes → IsInside slice i
lent_inside bytes slice content i h below same = rw same (holds_inside bytes content i h below)

pub lent_key : (bytes slice : List ℕ) (content : Content) (i start end : ℕ) → Holds bytes content → i < length content.pairs → slice ≡ bytes
    → start ≡ number_at slice (4 * i + 2) → end ≡ end_at slice i → slice_range slice start end ≡ key_at content.pairs i
lent_key bytes slice content i start end h below same starts ends = rw (starts, ends, same) (holds_key bytes content i h below)
