-- Decoding sixteen digits at once, lane by lane.
use Rattle.std.proofs.Common.{◌≡◌, ◌∙◌, ℕ, zero, suc, ◌+◌, ◌-◌, ◌*◌, ◌%◌, ◌^◌, ◌<◌, ◌≤◌, List, [], ◌∷◌, ◌++◌, Bool, true, false, cond, length, map, replicate, refl, sym, ap, subst, arith}
use Rattle.std.specs.Prelude.{bit_or, nat_lt, ◌&&◌}
use Rattle.std.specs.Simd.Lanes.{Each1, zip2, sel_l, mask_l, pick_l, top}
use Rattle.dbm_script.specs.Digits.{is_same, joined_digits, lane_passes, lane_value, value_read}
use Rattle.hex.specs.Hex.{hex_digit_value}
use Rattle.std.proofs.lemmas.Bool.{and_parts}
use Rattle.std.proofs.lemmas.Simd.{mask_l-mod}
use Rattle.dbm_script.proofs.DigitLemmas.{same_so}

-- subtraction and comparison of lanes
abbrev pub less : ℕ → ℕ → ℕ
less a b = (a + (256 - b)) % 256

abbrev pub is_below : ℕ → ℕ → ℕ
is_below a b = cond (nat_lt a b) 255 0

-- the vector operations compute lane_value in each lane, for any length
pub lanes : (n : ℕ) (v : List ℕ) → length v ≡ n
    → sel_l (map (top 7) (zip2 is_below (zip2 less v (replicate n 48)) (replicate n 10))) (zip2 less v (replicate n 48))
    (sel_l (map (top 7) (zip2 is_below (zip2 less (zip2 bit_or v (replicate n 32)) (replicate n 97)) (replicate n 6)))
    (zip2 (λ a b. (a + b) % 256) (zip2 less (zip2 bit_or v (replicate n 32)) (replicate n 97)) (replicate n 10)) (replicate n 255))
    ≡ map lane_value v
lanes zero [] long = refl
lanes zero (c ∷ cs) long = absurd (omega arith)
lanes (suc n) [] long = absurd (omega arith)
lanes (suc n) (c ∷ cs) long = ap (λ rest. lane_value c ∷ rest) (lanes n cs (omega arith))

-- lane_value agrees with hex_digit_value on k bytes from c on
abbrev pub agree : ℕ → ℕ → Bool
agree zero c = true
agree (suc k) c = is_same (value_read (lane_value c)) (hex_digit_value c) && agree k (c + 1)

agree_in : (k c i : ℕ) → agree k c ≡ true → i < k → value_read (lane_value (c + i)) ≡ hex_digit_value (c + i)
agree_in zero c i all within = absurd (omega arith)
agree_in (suc k) c zero all within =
    let parts = and_parts (is_same (value_read (lane_value c)) (hex_digit_value c)) (agree k (c + 1)) all in
    let same : c + 0 ≡ c = omega arith in
    subst (λ (x : ℕ). value_read (lane_value x) ≡ hex_digit_value x) (sym same) (same_so _ _ parts.0)
agree_in (suc k) c (suc i) all within =
    let parts = and_parts (is_same (value_read (lane_value c)) (hex_digit_value c)) (agree k (c + 1)) all in
    let next : c + 1 + i ≡ c + suc i = omega arith in
    subst (λ (x : ℕ). value_read (lane_value x) ≡ hex_digit_value x) next (agree_in k (c + 1) i parts.1 (omega arith))

pub lane_reads : (c : ℕ) → c < 256 → value_read (lane_value c) ≡ hex_digit_value c
lane_reads c small =
    let same : 0 + c ≡ c = omega arith in
    subst (λ (x : ℕ). value_read (lane_value x) ≡ hex_digit_value x) same (agree_in 256 0 c refl small)

-- P holds for every list of n elements
abbrev pub OfAny : ℕ → (List ℕ → Type 0) → Type 0
OfAny zero P = P []
OfAny (suc n) P = (x : ℕ) → OfAny n (λ xs. P (x ∷ xs))

of_all : (n : ℕ) (P : List ℕ → Type 0) → OfAny n P → (xs : List ℕ) → length xs ≡ n → P xs
of_all zero P holds [] long = holds
of_all zero P holds (x ∷ xs) long = absurd (omega arith)
of_all (suc n) P holds [] long = absurd (omega arith)
of_all (suc n) P holds (x ∷ xs) long = of_all n (λ more. P (x ∷ more)) (holds x) xs (omega arith)

-- the even lanes times 16, plus the odd lanes
pub paired : (v : List ℕ) → length v ≡ 16
    → zip2 (λ a b. (a + b) % 256) (zip2 (λ a b. a * b % 256) (pick_l 0 (v ++ v) (0 ∷ 2 ∷ 4 ∷ 6 ∷ 8 ∷ 10 ∷ 12 ∷ 14 ∷ [])) (replicate 8 16)) (pick_l 0 (v ++ v) (1 ∷ 3 ∷ 5 ∷ 7 ∷ 9 ∷ 11 ∷ 13 ∷ 15 ∷ []))
    ≡ joined_digits v
paired v long =
    of_all 16
    (λ w. zip2 (λ a b. (a + b) % 256) (zip2 (λ a b. a * b % 256) (pick_l 0 (w ++ w) (0 ∷ 2 ∷ 4 ∷ 6 ∷ 8 ∷ 10 ∷ 12 ∷ 14 ∷ [])) (replicate 8 16)) (pick_l 0 (w ++ w) (1 ∷ 3 ∷ 5 ∷ 7 ∷ 9 ∷ 11 ∷ 13 ∷ 15 ∷ [])) ≡ joined_digits w)
    (λ a b c d e f g h i j k l m n o p. refl) v long

pub length-joined : (v : List ℕ) → length v ≡ 16 → length (joined_digits v) ≡ 8
length-joined v long = of_all 16 (λ w. length (joined_digits w) ≡ 8) (λ a b c d e f g h i j k l m n o p. refl) v long

-- ---- which lanes are above 15

-- the test of all lanes
abbrev pub above : ℕ → List ℕ → List Bool
above n v = map (top 7) (zip2 is_below (replicate n 15) v)

length-above : (n : ℕ) (v : List ℕ) → length v ≡ n → length (above n v) ≡ n
length-above zero [] long = refl
length-above zero (x ∷ xs) long = absurd (omega arith)
length-above (suc n) [] long = absurd (omega arith)
length-above (suc n) (x ∷ xs) long = ap suc (length-above n xs (omega arith))

small_head : (x m : ℕ) (b : Bool) → nat_lt 15 x ≡ b → cond (lane_passes b) 1 0 + 2 * m ≡ 0 → (x ≤ 15) × (m ≡ 0)
small_head x m true e none = absurd (omega arith)
small_head x m false e none = (grind arith, omega arith)

all_small : (n : ℕ) (v : List ℕ) → length v ≡ n → mask_l (above n v) ≡ 0 → Each1 (λ x. x ≤ 15) v
all_small zero [] long none = tt
all_small zero (x ∷ xs) long none = absurd (omega arith)
all_small (suc n) [] long none = absurd (omega arith)
all_small (suc n) (x ∷ xs) long none =
    let head = small_head x (mask_l (above n xs)) (nat_lt 15 x) refl none in
    (head.0, all_small n xs (omega arith) head.1)

zero_head : (x m : ℕ) → x ≤ 15 → m ≡ 0 → cond (lane_passes (nat_lt 15 x)) 1 0 + 2 * m ≡ 0
zero_head x m small none =
    let no : nat_lt 15 x ≡ false = grind arith in
    rw (no, none) refl

none_above : (n : ℕ) (v : List ℕ) → length v ≡ n → Each1 (λ x. x ≤ 15) v → mask_l (above n v) ≡ 0
none_above zero [] long small = refl
none_above zero (x ∷ xs) long small = absurd (omega arith)
none_above (suc n) [] long small = absurd (omega arith)
none_above (suc n) (x ∷ xs) long small = zero_head x (mask_l (above n xs)) small.0 (none_above n xs (omega arith) small.1)

whole_mask : (v : List ℕ) → length v ≡ 16 → mask_l (above 16 v) % 2 ^ 64 ≡ mask_l (above 16 v)
whole_mask v long = mask_l-mod (above 16 v) 64 (let e = length-above 16 v long in omega arith)

pub small_by_mask : (v : List ℕ) → length v ≡ 16 → mask_l (above 16 v) % 2 ^ 64 ≡ 0 → Each1 (λ x. x ≤ 15) v
small_by_mask v long none = all_small 16 v long (sym (whole_mask v long) ∙ none)

pub mask_by_small : (v : List ℕ) → length v ≡ 16 → Each1 (λ x. x ≤ 15) v → mask_l (above 16 v) % 2 ^ 64 ≡ 0
mask_by_small v long small = whole_mask v long ∙ none_above 16 v long small
