-- A record that is written over zeros is complete exactly if its number of bytes that are not zero is the one that its weight says. The
-- weight itself has no zero bytes. So a record commits itself by one write and one sync, with no checksum that could match by chance.
use Rattle.std.proofs.Common.{Bool, true, false, if◌then◌else◌, ◌==◌, ◌≡◌, ◌≢◌, ◌⊎◌, inl, inr, ⊎_elim, ℕ, zero, suc, ◌+◌, ◌-◌, ◌<◌, ◌≤◌, min, List, [], ◌∷◌, ◌++◌, length, take, drop, get_or, refl, sym, ◌∙◌, ap, arith, length-append, length-drop}
use Rattle.std.proofs.lemmas.Bool.Decides.{nat_tests}
use Rattle.std.proofs.lemmas.Bool.{cases_lt}
use Rattle.std.proofs.lemmas.List.{take_more, ext_get_or, get_or_append_left, get_or-append_right, get_or-take, get_or-drop, length-take, length-take-le, take-append-le, drop-append-le, take-append-drop, take_all, drop_all, drop-drop}
use Rattle.sdbm_log.specs.Log.{nonzero, digits, weight_at, body_of, record_of, is_whole, first_plan, later_records, wholes, number_in, AreRecords, after_records, MayBeTorn, end_in, HasRecords, size_at}
use Rattle.sdbm_saves.specs.Disk.{Torn}
use Rattle.sdbm_log.proofs.Header.{test_is, test_not, both_true, nonzero_drop}

-- the result of an interrupted write over zeros: each byte is zero or the byte that was written
abbrev pub OverZeros : List ℕ → List ℕ → Type 0
OverZeros [] [] = Unit {0}
OverZeros [] (c ∷ cs) = ⊥
OverZeros (b ∷ bs) [] = ⊥
OverZeros (b ∷ bs) (c ∷ cs) = ((c ≡ 0) ⊎ (c ≡ b)) × OverZeros bs cs

pub no_more : (bytes left : List ℕ) → OverZeros bytes left → nonzero left ≤ nonzero bytes
no_more [] [] torn = omega arith
no_more [] (c ∷ cs) torn = absurd torn
no_more (b ∷ bs) [] torn = absurd torn
no_more (zero ∷ bs) (zero ∷ cs) torn = no_more bs cs torn.1
no_more (zero ∷ bs) (suc c ∷ cs) torn = absurd (⊎_elim (λ none. omega (arith, none)) (λ same. omega (arith, same)) torn.0)
no_more (suc b ∷ bs) (zero ∷ cs) torn = omega (arith, no_more bs cs torn.1)
no_more (suc b ∷ bs) (suc c ∷ cs) torn = omega (arith, no_more bs cs torn.1)

pub all_there : (bytes left : List ℕ) → OverZeros bytes left → nonzero left ≡ nonzero bytes → left ≡ bytes
all_there [] [] torn as_many = refl
all_there [] (c ∷ cs) torn as_many = absurd torn
all_there (b ∷ bs) [] torn as_many = absurd torn
all_there (zero ∷ bs) (zero ∷ cs) torn as_many = ap (λ (l : List ℕ). 0 ∷ l) (all_there bs cs torn.1 as_many)
all_there (zero ∷ bs) (suc c ∷ cs) torn as_many = absurd (⊎_elim (λ none. omega (arith, none)) (λ same. omega (arith, same)) torn.0)
all_there (suc b ∷ bs) (zero ∷ cs) torn as_many = absurd (omega (arith, as_many, no_more bs cs torn.1))
all_there (suc b ∷ bs) (suc c ∷ cs) torn as_many = ⊎_elim
    (λ none. absurd (omega (arith, none)))
    (λ same. let more : nonzero cs ≡ nonzero bs = omega (arith, as_many) in λ i. same i ∷ all_there bs cs torn.1 more i)
    torn.0

pub nonzero_append : (xs ys : List ℕ) → nonzero (xs ++ ys) ≡ nonzero xs + nonzero ys
nonzero_append [] ys = omega arith
nonzero_append (zero ∷ xs) ys = nonzero_append xs ys
nonzero_append (suc x ∷ xs) ys = omega (arith, nonzero_append xs ys)

pub nonzero_take : (k : ℕ) (xs : List ℕ) → nonzero (take k xs) ≤ nonzero xs
nonzero_take k xs = omega (arith, nonzero_append (take k xs) (drop k xs), ap nonzero (take-append-drop k xs))

pub nonzero_length : (xs : List ℕ) → nonzero xs ≤ length xs
nonzero_length [] = omega arith
nonzero_length (zero ∷ xs) = omega (arith, nonzero_length xs)
nonzero_length (suc x ∷ xs) = omega (arith, nonzero_length xs)

pub zeros_are : (xs : List ℕ) → ((i : ℕ) → get_or xs i 0 ≡ 0) → nonzero xs ≡ 0
zeros_are [] zeros = refl
zeros_are (zero ∷ xs) zeros = zeros_are xs (λ i. zeros (suc i))
zeros_are (suc x ∷ xs) zeros = absurd (omega (arith, zeros 0))

pub zero_at : (xs : List ℕ) → nonzero xs ≡ 0 → (i : ℕ) → get_or xs i 0 ≡ 0
zero_at [] none i = refl
zero_at (zero ∷ xs) none zero = refl
zero_at (zero ∷ xs) none (suc i) = zero_at xs none i
zero_at (suc x ∷ xs) none i = absurd (omega (arith, none))

pub over_zeros : (bytes left : List ℕ) → length left ≡ length bytes → ((i : ℕ) → i < length bytes → (get_or left i 0 ≡ 0) ⊎ (get_or left i 0 ≡ get_or bytes i 0)) → OverZeros bytes left
over_zeros [] [] same each = tt
over_zeros [] (c ∷ cs) same each = absurd (omega (arith, same))
over_zeros (b ∷ bs) [] same each = absurd (omega (arith, same))
over_zeros (b ∷ bs) (c ∷ cs) same each = (each 0 (omega arith), over_zeros bs cs (omega (arith, same)) (λ i lt. each (suc i) (omega (arith, lt))))

are_true : (p q : ℕ) (x : Bool) → p ≡ q → x ≡ true → (if p == q then x else false) ≡ true
are_true p q x same is = grind (arith, nat_tests)

pub same_true : (p q : ℕ) → (p == q) ≡ true → p ≡ q
same_true p q is = grind (arith, nat_tests)

true_same : (p q : ℕ) → p ≡ q → (p == q) ≡ true
true_same p q is = grind (arith, nat_tests)

weight_digits : (n : ℕ) (ys : List ℕ) → n < 4228250625 → weight_at (digits n ++ ys) ≡ n
unfolding weight_at
weight_digits n ys small = omega (arith, small)

-- an interrupted record is complete only if all its bytes were written
whole_is : (body t slack : List ℕ) → nonzero body < 4228250625 → OverZeros (digits (nonzero body) ++ body) t → nonzero slack ≡ 0 → is_whole (t ++ slack) ≡ true → t ≡ digits (nonzero body) ++ body
unfolding is_whole
whole_is body [] slack small torn zeros whole = absurd torn
whole_is body (a ∷ []) slack small torn zeros whole = absurd torn.1
whole_is body (a ∷ b ∷ []) slack small torn zeros whole = absurd torn.1.1
whole_is body (a ∷ b ∷ c ∷ []) slack small torn zeros whole = absurd torn.1.1.1
whole_is body (a ∷ b ∷ c ∷ d ∷ t) slack small torn zeros whole =
    let w = nonzero body in
    let tests = both_true (nonzero (a ∷ b ∷ c ∷ d ∷ [])) 4 _ whole in
    let head : a ∷ b ∷ c ∷ d ∷ [] ≡ digits w = all_there (digits w) (a ∷ b ∷ c ∷ d ∷ []) (torn.0, (torn.1.0, (torn.1.1.0, (torn.1.1.1.0, tt)))) tests.0 in
    let all : a ∷ b ∷ c ∷ d ∷ (t ++ slack) ≡ digits w ++ (t ++ slack) = ap (λ (l : List ℕ). l ++ (t ++ slack)) head in
    let k = 4 + size_at (a ∷ b ∷ c ∷ d ∷ (t ++ slack)) in
    let count : nonzero (take k (t ++ slack)) ≡ w = same_true _ _ tests.1 ∙ ap weight_at all ∙ weight_digits w (t ++ slack) small in
    let rest : t ≡ body = all_there body t torn.1.1.1.1 (omega (arith, count, nonzero_take k (t ++ slack), nonzero_append t slack, zeros, no_more body t torn.1.1.1.1)) in
    ap (λ (l : List ℕ). l ++ t) head ∙ ap (λ (l : List ℕ). digits w ++ l) rest

four_no : (p : ℕ) (x : Bool) → p < 4 → (if p == 4 then x else false) ≡ false
four_no p x less = grind (arith, nat_tests)

-- zeros are not a record, nor are bytes that start with a zero
pub zeros_no : (log : List ℕ) → nonzero log ≡ 0 → is_whole log ≡ false
unfolding is_whole
zeros_no log none = four_no (nonzero (take 4 log)) _ (omega (arith, nonzero_take 4 log, none))

pub zero_no : (rest : List ℕ) → is_whole (0 ∷ rest) ≡ false
unfolding is_whole
zero_no rest = four_no (nonzero (take 3 rest)) _ (omega (arith, nonzero_length (take 3 rest), length-take 3 rest))

-- an interrupted record may be torn, and so may zeros
torn_body : (body t z : List ℕ) → nonzero body < 4228250625 → OverZeros (digits (nonzero body) ++ body) t → nonzero z ≡ 0 → nonzero (take 4 (t ++ z)) ≡ 4 → nonzero (drop 4 (t ++ z)) ≤ weight_at (t ++ z)
torn_body body [] z small torn zeros four = absurd torn
torn_body body (a ∷ []) z small torn zeros four = absurd torn.1
torn_body body (a ∷ b ∷ []) z small torn zeros four = absurd torn.1.1
torn_body body (a ∷ b ∷ c ∷ []) z small torn zeros four = absurd torn.1.1.1
torn_body body (a ∷ b ∷ c ∷ d ∷ t) z small torn zeros four =
    let w = nonzero body in
    let head : a ∷ b ∷ c ∷ d ∷ [] ≡ digits w = all_there (digits w) (a ∷ b ∷ c ∷ d ∷ []) (torn.0, (torn.1.0, (torn.1.1.0, (torn.1.1.1.0, tt)))) four in
    let all : a ∷ b ∷ c ∷ d ∷ (t ++ z) ≡ digits w ++ (t ++ z) = ap (λ (l : List ℕ). l ++ (t ++ z)) head in
    omega (arith, ap weight_at all, weight_digits w (t ++ z) small, nonzero_append t z, zeros, no_more body t torn.1.1.1.1)

pub same_length : (bytes left : List ℕ) → OverZeros bytes left → length left ≡ length bytes
same_length [] [] torn = refl
same_length [] (c ∷ cs) torn = absurd torn
same_length (b ∷ bs) [] torn = absurd torn
same_length (b ∷ bs) (c ∷ cs) torn = ap (λ n. suc n) (same_length bs cs torn.1)

torn_size : (w : ℕ) (plan t z : List ℕ) → length plan < 4000000000 → OverZeros (digits w ++ (digits (length plan) ++ plan)) t → nonzero z ≡ 0 → nonzero (take 4 (drop 4 (t ++ z))) ≡ 4
    → nonzero (drop (8 + size_at (t ++ z)) (t ++ z)) ≡ 0
torn_size w plan [] z short torn zeros four = absurd torn
torn_size w plan (a ∷ []) z short torn zeros four = absurd torn.1
torn_size w plan (a ∷ b ∷ []) z short torn zeros four = absurd torn.1.1
torn_size w plan (a ∷ b ∷ c ∷ []) z short torn zeros four = absurd torn.1.1.1
torn_size w plan (a ∷ b ∷ c ∷ d ∷ []) z short torn zeros four = absurd torn.1.1.1.1
torn_size w plan (a ∷ b ∷ c ∷ d ∷ e ∷ []) z short torn zeros four = absurd torn.1.1.1.1.1
torn_size w plan (a ∷ b ∷ c ∷ d ∷ e ∷ f ∷ []) z short torn zeros four = absurd torn.1.1.1.1.1.1
torn_size w plan (a ∷ b ∷ c ∷ d ∷ e ∷ f ∷ g ∷ []) z short torn zeros four = absurd torn.1.1.1.1.1.1.1
torn_size w plan (a ∷ b ∷ c ∷ d ∷ e ∷ f ∷ g ∷ h ∷ t) z short torn zeros four =
    let n = length plan in
    let behind = torn.1.1.1.1 in
    let head : e ∷ f ∷ g ∷ h ∷ [] ≡ digits n = all_there (digits n) (e ∷ f ∷ g ∷ h ∷ []) (behind.0, (behind.1.0, (behind.1.1.0, (behind.1.1.1.0, tt)))) four in
    let size : weight_at (e ∷ f ∷ g ∷ h ∷ (t ++ z)) ≡ n = ap (λ (l : List ℕ). weight_at (l ++ (t ++ z))) head ∙ weight_digits n (t ++ z) (omega (arith, short)) in
    let long : length t ≡ n = same_length plan t behind.1.1.1.1 in
    let all : List ℕ = a ∷ b ∷ c ∷ d ∷ e ∷ f ∷ g ∷ h ∷ (t ++ z) in
    let none : drop n t ≡ [] = drop_all n t (omega (arith, long)) in
    ap (λ k. nonzero (drop (8 + k) all)) size
    ∙ ap (λ (l : List ℕ). nonzero l) (sym (drop-drop n 8 all) ∙ drop-append-le n t z (omega (arith, long)) ∙ ap (λ (l : List ℕ). l ++ z) none)
    ∙ zeros

pub zeros_may : (rest : List ℕ) → nonzero rest ≡ 0 → MayBeTorn rest
zeros_may rest none = record {
  weight = λ four. absurd (omega (arith, four, none, nonzero_take 4 rest));
  size = λ four. absurd (omega (arith, four, nonzero_take 4 (drop 4 rest), nonzero_drop 4 rest none));
}

pub weight_front : (xs ys : List ℕ) → 4 ≤ length xs → weight_at (xs ++ ys) ≡ weight_at xs
unfolding weight_at
weight_front xs ys long =
    let first = get_or_append_left xs ys 0 0 (omega (arith, long)) in
    let second = get_or_append_left xs ys 0 1 (omega (arith, long)) in
    let third = get_or_append_left xs ys 0 2 (omega (arith, long)) in
    let fourth = get_or_append_left xs ys 0 3 (omega (arith, long)) in
    omega (arith, first, second, third, fourth)

-- bytes after a record do not change it
module _ (xs ys : List ℕ) (whole : 8 + size_at xs ≤ length xs) where
  pub number_more : size_at (xs ++ ys) ≡ size_at xs
  number_more = ap (λ (l : List ℕ). weight_at l) (drop-append-le 4 xs ys (omega (arith, whole))) ∙ weight_front (drop 4 xs) ys (omega (arith, whole, length-drop 4 xs))

  pub first_more : first_plan (xs ++ ys) ≡ first_plan xs
  first_more = ap (λ n. take n (drop 8 (xs ++ ys))) number_more
      ∙ ap (λ (l : List ℕ). take (size_at xs) l) (drop-append-le 8 xs ys (omega (arith, whole)))
      ∙ take-append-le (size_at xs) (drop 8 xs) ys (omega (arith, whole, length-drop 8 xs))

  pub later_more : later_records (xs ++ ys) ≡ later_records xs ++ ys
  later_more = ap (λ n. drop (8 + n) (xs ++ ys)) number_more ∙ drop-append-le (8 + size_at xs) xs ys whole

  weight_more : weight_at (xs ++ ys) ≡ weight_at xs
  weight_more = weight_front xs ys (omega (arith, whole))

  body_more : take (4 + size_at (xs ++ ys)) (drop 4 (xs ++ ys)) ≡ take (4 + size_at xs) (drop 4 xs)
  body_more = ap (λ n. take (4 + n) (drop 4 (xs ++ ys))) number_more
      ∙ ap (λ (l : List ℕ). take (4 + size_at xs) l) (drop-append-le 4 xs ys (omega (arith, whole)))
      ∙ take-append-le (4 + size_at xs) (drop 4 xs) ys (omega (arith, whole, length-drop 4 xs))

  pub whole_more : is_whole (xs ++ ys) ≡ is_whole xs
  unfolding is_whole
  whole_more = λ i. if nonzero (take-append-le 4 xs ys (omega (arith, whole)) i) == 4 then nonzero (body_more i) == weight_more i else false

one_more : (b : Bool) (p q : ℕ) → b ≡ true → p ≡ q → (if b then suc p else 0) ≡ suc q
one_more true p q is same = ap (λ k. suc k) same
one_more false p q is same = cc

none_more : (b : Bool) (p : ℕ) → b ≡ false → (if b then suc p else 0) ≡ 0
none_more true p is = cc
none_more false p is = refl

pub wholes_are : (n : ℕ) (xs rest : List ℕ) (fuel : ℕ) → AreRecords n xs → is_whole rest ≡ false → n ≤ fuel → wholes fuel (xs ++ rest) ≡ n
wholes_are zero xs rest zero are none le = refl
wholes_are zero xs rest (suc fuel) are none le = ap (λ (l : List ℕ). wholes (suc fuel) (l ++ rest)) are ∙ none_more (is_whole rest) (wholes fuel (later_records rest)) none
wholes_are (suc n) xs rest zero are none le = absurd (omega (arith, le))
wholes_are (suc n) xs rest (suc fuel) are none le =
    one_more (is_whole (xs ++ rest)) (wholes fuel (later_records (xs ++ rest))) n (whole_more xs rest are.1.0 ∙ are.0)
    (ap (λ (l : List ℕ). wholes fuel l) (later_more xs rest are.1.0) ∙ wholes_are n (later_records xs) rest fuel are.1.1 none (omega (arith, le)))

-- the bytes after all records
pub after_append : (n : ℕ) (xs ys : List ℕ) → AreRecords n xs → after_records n (xs ++ ys) ≡ ys
after_append zero xs ys are = ap (λ (l : List ℕ). l ++ ys) are
after_append (suc n) xs ys are = ap (λ (l : List ℕ). after_records n l) (later_more xs ys are.1.0) ∙ after_append n (later_records xs) ys are.1.1

pub plans_long : (n : ℕ) (xs : List ℕ) → AreRecords n xs → n ≤ length xs
plans_long zero xs are = omega arith
plans_long (suc n) xs are = omega (arith, plans_long n (later_records xs) are.1.1, are.1.0, length-drop (8 + size_at xs) xs)

pub number_log : (n : ℕ) (xs rest : List ℕ) → AreRecords n xs → is_whole rest ≡ false → number_in (xs ++ rest) ≡ n
number_log n xs rest are none = wholes_are n xs rest (length (xs ++ rest)) are none (omega (arith, plans_long n xs are, length-append xs rest))

pub after_short : (n : ℕ) (log : List ℕ) → length (after_records n log) ≤ length log
after_short zero log = omega arith
after_short (suc n) log = omega (arith, after_short n (later_records log), length-drop (8 + size_at log) log)

-- the end of the records is found
pub end_of : (end : ℕ) (log : List ℕ) → HasRecords end log → end_in log ≡ end
end_of end log place =
    let number : number_in log ≡ place.number = ap (λ (l : List ℕ). number_in l) place.is ∙ number_log place.number place.records place.slack place.are (zeros_no place.slack place.zeros) in
    let rest : after_records (number_in log) log ≡ place.slack =
    ap (λ k. after_records k log) number ∙ ap (λ (l : List ℕ). after_records place.number l) place.is ∙ after_append place.number place.records place.slack place.are in
    let long : length (after_records (number_in log) log) ≡ length place.slack = ap (λ (l : List ℕ). length l) rest in
    let whole : length log ≡ length (place.records ++ place.slack) = ap (λ (l : List ℕ). length l) place.is in
    omega (arith, long, whole, length-append place.records place.slack, place.ends)

pub number_zero : (redo : List ℕ) → is_whole redo ≡ false → number_in redo ≡ 0
number_zero redo none = number_log 0 [] redo refl none

-- a record
module _ (plan : List ℕ) (short : length plan < 4000000000) where
  small : nonzero (body_of plan) < 4228250625
  small = omega (arith, nonzero_length (body_of plan), short)

  size_record : size_at (record_of plan) ≡ length plan
  size_record = weight_digits (length plan) plan (omega (arith, short))

  pub first_record : first_plan (record_of plan) ≡ plan
  first_record = ap (λ n. take n plan) size_record ∙ take_all (length plan) plan (omega arith)

  pub later_record : later_records (record_of plan) ≡ []
  later_record = ap (λ n. drop (8 + n) (record_of plan)) size_record ∙ drop_all (8 + length plan) (record_of plan) (omega arith)

  pub record_fits : 8 + size_at (record_of plan) ≤ length (record_of plan)
  record_fits = omega (arith, size_record)

  pub record_whole : is_whole (record_of plan) ≡ true
  unfolding is_whole
  record_whole = are_true 4 4 _ refl (true_same _ _
      (ap (λ n. nonzero (take (4 + n) (body_of plan))) size_record
      ∙ ap nonzero (take_all (4 + length plan) (body_of plan) (omega arith))
      ∙ sym (weight_digits (nonzero (body_of plan)) (body_of plan) small)))

  pub record_may : (t z : List ℕ) → OverZeros (record_of plan) t → nonzero z ≡ 0 → MayBeTorn (t ++ z)
  record_may t z torn zeros = record { weight = torn_body (body_of plan) t z small torn zeros; size = torn_size (nonzero (body_of plan)) plan t z short torn zeros }

  pub record_is : (t slack : List ℕ) → OverZeros (record_of plan) t → nonzero slack ≡ 0 → is_whole (t ++ slack) ≡ true → t ≡ record_of plan
  record_is t slack torn zeros whole = whole_is (body_of plan) t slack small torn zeros whole

-- a log after an interrupted write over its zeros
module _ (end : ℕ) (bytes xs slack old new : List ℕ) (is : old ≡ xs ++ slack) (ends : end ≡ length xs) (zeros : nonzero slack ≡ 0) (inside : end + length bytes ≤ length old) (torn : Torn end bytes old new) where
  long : length new ≡ length old
  long = omega (arith, torn.no_shorter, torn.no_longer, inside)

  old_slack : (i : ℕ) → get_or old (end + i) 0 ≡ 0
  old_slack i = ap (λ (l : List ℕ). get_or l (end + i) 0) is
      ∙ get_or-append_right xs slack end (end + i) 0 (sym ends) (omega arith) ∙ zero_at slack zeros (end + i - end)

  abbrev pub left : List ℕ
  left = take (length bytes) (drop end new)

  abbrev pub behind : List ℕ
  behind = drop (length bytes) (drop end new)

  front : take end new ≡ xs
  front = ext_get_or 0 (take end new) xs (length-take-le end new (omega (arith, long, inside)) ∙ ends)
      (λ i below. let lt : i < end = omega (arith, below, length-take-le end new (omega (arith, long, inside))) in
      get_or-take end new i 0 lt ∙ torn.before i lt ∙ ap (λ (l : List ℕ). get_or l i 0) is ∙ get_or_append_left xs slack 0 i (omega (arith, lt, ends)))

  pub left_is : new ≡ xs ++ (left ++ behind)
  left_is = sym (take-append-drop end new) ∙ ap (λ (l : List ℕ). l ++ drop end new) front ∙ ap (λ (l : List ℕ). xs ++ l) (sym (take-append-drop (length bytes) (drop end new)))

  pub left_torn : OverZeros bytes left
  left_torn = over_zeros bytes left (length-take-le (length bytes) (drop end new) (omega (arith, length-drop end new, long, inside)))
      (λ i lt. let same : get_or left i 0 ≡ get_or new (end + i) 0 = get_or-take (length bytes) (drop end new) i 0 lt ∙ get_or-drop end new i 0 in
      ⊎_elim (λ was. inl (same ∙ was ∙ old_slack i)) (λ now. inr (same ∙ now)) (torn.within i lt))

  pub behind_zeros : nonzero behind ≡ 0
  behind_zeros = zeros_are behind (λ i. let on : end + (length bytes + i) ≡ end + (length bytes + i) = refl in
      get_or-drop (length bytes) (drop end new) i 0 ∙ get_or-drop end new (length bytes + i) 0 ∙ torn.after (end + (length bytes + i)) (omega arith) ∙ old_slack (length bytes + i))

-- loops over bytes and over records
pub one_less : (count index : ℕ) → index < count → count - index ≡ suc (count - (index + 1))
one_less count index lt = omega (arith, lt)

pub nonzero_next : (i : ℕ) (bytes : List ℕ) → i < length bytes → nonzero (take (i + 1) bytes) ≡ nonzero (take i bytes) + nonzero (get_or bytes i 0 ∷ [])
nonzero_next i bytes lt = ap nonzero (take_more bytes i 0 lt) ∙ nonzero_append (take i bytes) (get_or bytes i 0 ∷ [])

pub wholes_stop : (k : ℕ) (rest : List ℕ) → is_whole rest ≡ false → wholes k rest ≡ 0
wholes_stop zero rest none = refl
wholes_stop (suc k) rest none = none_more (is_whole rest) (wholes k (later_records rest)) none

pub wholes_go : (n k : ℕ) (rest : List ℕ) → n ≡ suc k → is_whole rest ≡ true → wholes n rest ≡ suc (wholes k (later_records rest))
wholes_go n k rest is whole = ap (λ j. wholes j rest) is ∙ one_more (is_whole rest) (wholes k (later_records rest)) (wholes k (later_records rest)) whole refl

pub short_no : (log : List ℕ) → length log < 4 → is_whole log ≡ false
unfolding is_whole
short_no log short = four_no (nonzero (take 4 log)) _ (omega (arith, nonzero_length (take 4 log), length-take 4 log, short))

pub head_no : (log : List ℕ) → nonzero (take 4 log) ≢ 4 → is_whole log ≡ false
unfolding is_whole
head_no log isnt = test_not (nonzero (take 4 log)) 4 _ isnt

pub whole_by : (log : List ℕ) → nonzero (take 4 log) ≡ 4 → is_whole log ≡ (nonzero (take (4 + size_at log) (drop 4 log)) == weight_at log)
unfolding is_whole
whole_by log is = test_is (nonzero (take 4 log)) 4 _ is

pub take_cut : (n : ℕ) (log : List ℕ) → 4 ≤ length log → take (min (length log) (8 + n) - 4) (drop 4 log) ≡ take (4 + n) (drop 4 log)
take_cut n log long = ⊎_elim
    (λ cut. take_all (min (length log) (8 + n) - 4) (drop 4 log) (omega (arith, cut, length-drop 4 log)) ∙ sym (take_all (4 + n) (drop 4 log) (omega (arith, cut, length-drop 4 log))))
    (λ fits. let is : min (length log) (8 + n) - 4 ≡ 4 + n = omega (arith, fits) in ap (λ k. take k (drop 4 log)) is)
    (cases_lt (length log) (8 + n))
