-- The elements at the indices that pass a test, in a list that grows. A share is the elements at a worker's indices.
use Rattle.std.proofs.Common.{inl, inr, suc, zero, ◌≡◌, ◌∙◌, sym, ap, ◌∷◌, [], Bool, false, true, length, ◌<◌, ◌≤◌, ◌+◌, ℕ, ◌++◌, arith, List, refl}
use Rattle.std.specs.Prelude.{◌-◌, take, drop, slice_index_or, ◌==◌, ◌%◌, if◌then◌else◌, map}
use Rattle.std.specs.List.{filter, enumerate_from}
use Rattle.std.proofs.lemmas.List.{take-append-drop, length-append, take_more, take_all, append-nil, length-take-le}
use Rattle.std.proofs.Math.Nat.{mod-add-mod, mod-eq_of_lt, add-mod_left}
use Rattle.std.proofs.lemmas.Nat.{mod_below}
use Rattle.std.proofs.lemmas.Bool.{eqb-true, cases_lt, false_from_ne_true}
use Rattle.worker_pool.specs.Shares.{at_places, share_of}

-- an element of a list that isn't empty
pub some_of : {X : Type 0} (xs : List X) (n : ℕ) → n < length xs → X
some_of [] n within = absurd (omega arith)
some_of (x ∷ xs) n within = x

-- `at_places` by recursion, if the first element has index i
abbrev picked : {X : Type 0} → (ℕ → Bool) → ℕ → List X → List X
picked p i [] = []
picked p i (x ∷ xs) = if p i then x ∷ picked p (i + 1) xs else picked p (i + 1) xs

filtered : {X : Type 0} (p : ℕ → Bool) (i : ℕ) (xs : List X) → map (λ (placed : ℕ × X). placed.1) (filter (λ (placed : ℕ × X). p placed.0) (enumerate_from i xs)) ≡ picked p i xs
filtered p i [] = refl
filtered {X} p i (x ∷ xs) =
    let rest = filtered p (i + 1) xs in
    let second : ℕ × X → X = λ placed. placed.1 in
    let others = filter (λ (placed : ℕ × X). p placed.0) (enumerate_from (i + 1) xs) in
    elim (p i) as (λ b. map second (if b then (i, x) ∷ others else others) ≡ (if b then x ∷ picked p (i + 1) xs else picked p (i + 1) xs)) [
      | true ↦ ap (λ ys. x ∷ ys) rest
      | false ↦ rest
    ]

places_are : {X : Type 0} (p : ℕ → Bool) (xs : List X) → at_places p xs ≡ picked p 0 xs
unfolding at_places
places_are p xs = filtered p 0 xs

picked_push : {X : Type 0} (p : ℕ → Bool) (i : ℕ) (xs : List X) (x : X) → picked p i (xs ++ x ∷ []) ≡ picked p i xs ++ (if p (i + length xs) then x ∷ [] else [])
picked_push p i [] x = let e : i ≡ i + 0 = omega arith in ap (λ n. if p n then x ∷ [] else []) e
picked_push {X} p i (y ∷ ys) x =
    let e : (i + 1) + length ys ≡ i + length (y ∷ ys) = omega arith in
    let rest : picked p (i + 1) (ys ++ x ∷ []) ≡ picked p (i + 1) ys ++ (if p (i + length (y ∷ ys)) then x ∷ [] else []) = picked_push p (i + 1) ys x ∙ ap (λ n. picked p (i + 1) ys ++ (if p n then x ∷ [] else [])) e in
    elim (p i) as (λ b. (if b then y ∷ picked p (i + 1) (ys ++ x ∷ []) else picked p (i + 1) (ys ++ x ∷ [])) ≡ (if b then y ∷ picked p (i + 1) ys else picked p (i + 1) ys) ++ (if p (i + length (y ∷ ys)) then x ∷ [] else [])) [
      | true ↦ ap (λ zs. y ∷ zs) rest
      | false ↦ rest
    ]

picked_length : {X Y : Type 0} (p : ℕ → Bool) (i : ℕ) (xs : List X) (ys : List Y) → length xs ≡ length ys → length (picked p i xs) ≡ length (picked p i ys)
picked_length p i [] [] same = refl
picked_length p i [] (y ∷ ys) same = absurd (omega arith)
picked_length p i (x ∷ xs) [] same = absurd (omega arith)
picked_length p i (x ∷ xs) (y ∷ ys) same =
    let rest = picked_length p (i + 1) xs ys (omega arith) in
    elim (p i) as (λ b. length (if b then x ∷ picked p (i + 1) xs else picked p (i + 1) xs) ≡ length (if b then y ∷ picked p (i + 1) ys else picked p (i + 1) ys)) [
      | true ↦ omega arith
      | false ↦ rest
    ]

picked_append : {X : Type 0} (p : ℕ → Bool) (i : ℕ) (xs ys : List X) → picked p i (xs ++ ys) ≡ picked p i xs ++ picked p (i + length xs) ys
picked_append p i [] ys = let e : i ≡ i + 0 = omega arith in ap (λ n. picked p n ys) e
picked_append {X} p i (x ∷ xs) ys =
    let e : (i + 1) + length xs ≡ i + length (x ∷ xs) = omega arith in
    let behind = picked p (i + length (x ∷ xs)) ys in
    let rest : picked p (i + 1) (xs ++ ys) ≡ picked p (i + 1) xs ++ behind = picked_append p (i + 1) xs ys ∙ ap (λ n. picked p (i + 1) xs ++ picked p n ys) e in
    elim (p i) as (λ b. (if b then x ∷ picked p (i + 1) (xs ++ ys) else picked p (i + 1) (xs ++ ys)) ≡ (if b then x ∷ picked p (i + 1) xs else picked p (i + 1) xs) ++ behind) [
      | true ↦ ap (λ zs. x ∷ zs) rest
      | false ↦ rest
    ]

picked_same : {X : Type 0} (p q : ℕ → Bool) (i : ℕ) (xs : List X) → ((j : ℕ) → i ≤ j → j < i + length xs → p j ≡ q j) → picked p i xs ≡ picked q i xs
picked_same p q i [] same = refl
picked_same p q i (x ∷ xs) same =
    let rest = picked_same p q (i + 1) xs (λ j low high. same j (omega arith) (omega arith)) in
    let here : p i ≡ q i = same i (omega arith) (omega arith) in
    ap (λ b. if b then x ∷ picked p (i + 1) xs else picked p (i + 1) xs) here
    ∙ elim (q i) as (λ b. (if b then x ∷ picked p (i + 1) xs else picked p (i + 1) xs) ≡ (if b then x ∷ picked q (i + 1) xs else picked q (i + 1) xs)) [
      | true ↦ ap (λ ys. x ∷ ys) rest
      | false ↦ rest
    ]

-- ---- indices

pub places_nil : {X : Type 0} (p : ℕ → Bool) → at_places {X = X} p [] ≡ []
places_nil {X} p = places_are p []

pub places_push : {X : Type 0} (p : ℕ → Bool) (xs : List X) (x : X) → at_places p (xs ++ x ∷ []) ≡ at_places p xs ++ (if p (length xs) then x ∷ [] else [])
places_push p xs x = places_are p (xs ++ x ∷ []) ∙ (picked_push p 0 xs x ∙ (ap (λ ys. ys ++ (if p (0 + length xs) then x ∷ [] else [])) (sym (places_are p xs)) ∙ ap (λ n. at_places p xs ++ (if p n then x ∷ [] else [])) (omega arith)))

pub places_same : {X : Type 0} (p q : ℕ → Bool) (xs : List X) → ((j : ℕ) → j < length xs → p j ≡ q j) → at_places p xs ≡ at_places q xs
places_same p q xs same = places_are p xs ∙ (picked_same p q 0 xs (λ j low high. same j (omega arith)) ∙ sym (places_are q xs))

-- one more element
pub places_more : {X : Type 0} (p : ℕ → Bool) (xs : List X) (i : ℕ) (d : X) → i < length xs → at_places p (take (i + 1) xs) ≡ at_places p (take i xs) ++ (if p i then slice_index_or xs i d ∷ [] else [])
places_more p xs i d within =
    let len : length (take i xs) ≡ i = length-take-le i xs (omega arith) in
    ap (at_places p) (take_more xs i d within) ∙ (places_push p (take i xs) (slice_index_or xs i d) ∙ ap (λ n. at_places p (take i xs) ++ (if p n then slice_index_or xs i d ∷ [] else [])) len)

-- one more element, at an index that fails the test
pub places_skip : {X : Type 0} (p : ℕ → Bool) (xs : List X) (i : ℕ) → p i ≡ false → at_places p (take (i + 1) xs) ≡ at_places p (take i xs)
places_skip p xs i other =
    elim (cases_lt i (length xs)) [
      | inl within ↦
          let d = some_of xs i within in
          places_more p xs i d within ∙ (ap (λ b. at_places p (take i xs) ++ (if b then slice_index_or xs i d ∷ [] else [])) other ∙ append-nil (at_places p (take i xs)))
      | inr past ↦ ap (at_places p) (take_all (i + 1) xs (omega arith) ∙ sym (take_all i xs past))
    ]

-- some more elements, all at indices that fail the test
pub places_over : {X : Type 0} (p : ℕ → Bool) (xs : List X) (i m : ℕ) → ((j : ℕ) → i ≤ j → j < i + m → p j ≡ false) → at_places p (take (i + m) xs) ≡ at_places p (take i xs)
places_over p xs i zero other = ap (λ n. at_places p (take n xs)) (omega arith)
places_over p xs i (suc m) other =
    let before = places_over p xs i m (λ j low high. other j low (omega arith)) in
    let next : i + suc m ≡ (i + m) + 1 = omega arith in
    ap (λ n. at_places p (take n xs)) next ∙ (places_skip p xs (i + m) (other (i + m) (omega arith) (omega arith)) ∙ before)

-- one more element, and then some at indices that fail the test
pub places_round : {X : Type 0} (p : ℕ → Bool) (xs : List X) (i k : ℕ) (d : X) → 0 < k → i < length xs → ((j : ℕ) → i < j → j < i + k → p j ≡ false)
    → at_places p (take (i + k) xs) ≡ at_places p (take i xs) ++ (if p i then slice_index_or xs i d ∷ [] else [])
places_round p xs i k d some within other =
    let last : i + k ≡ (i + 1) + (k - 1) = omega arith in
    ap (λ n. at_places p (take n xs)) last ∙ (places_over p xs (i + 1) (k - 1) (λ j low high. other j (omega arith) (omega arith)) ∙ places_more p xs i d within)

-- ---- shares

pub share_nil : {X : Type 0} (k w : ℕ) → share_of {X = X} k w [] ≡ []
share_nil k w = places_nil (λ at. at % k == w)

pub share_push : {X : Type 0} (k w : ℕ) (xs : List X) (x : X) → share_of k w (xs ++ x ∷ []) ≡ share_of k w xs ++ (if length xs % k == w then x ∷ [] else [])
share_push k w xs x = places_push (λ at. at % k == w) xs x

pub share_length : {X Y : Type 0} (k w : ℕ) (xs : List X) (ys : List Y) → length xs ≡ length ys → length (share_of k w xs) ≡ length (share_of k w ys)
share_length k w xs ys same =
    let p : ℕ → Bool = λ at. at % k == w in
    ap length (places_are p xs) ∙ (picked_length p 0 xs ys same ∙ ap length (sym (places_are p ys)))

-- the share of a prefix is no longer than the share of the list
pub share_front : {X : Type 0} (k w n : ℕ) (xs : List X) → length (share_of k w (take n xs)) ≤ length (share_of k w xs)
share_front k w n xs =
    let p : ℕ → Bool = λ at. at % k == w in
    let front = picked p 0 (take n xs) in
    let back = picked p (0 + length (take n xs)) (drop n xs) in
    let whole : share_of k w xs ≡ front ++ back = places_are p xs ∙ (ap (picked p 0) (sym (take-append-drop n xs)) ∙ picked_append p 0 (take n xs) (drop n xs)) in
    let first = ap length (places_are p (take n xs)) in
    let all : length (share_of k w xs) ≡ length front + length back = ap length whole ∙ length-append front back in
    omega arith

-- one more element, which belongs to the worker
pub share_take : {X : Type 0} (k w : ℕ) (xs : List X) (i : ℕ) (d : X) → i < length xs → (i % k == w) ≡ true → share_of k w (take (i + 1) xs) ≡ share_of k w (take i xs) ++ slice_index_or xs i d ∷ []
share_take k w xs i d within its_own =
    places_more (λ at. at % k == w) xs i d within ∙ ap (λ b. share_of k w (take i xs) ++ (if b then slice_index_or xs i d ∷ [] else [])) its_own

-- ---- the worker of an index

-- a step shorter than a round leads to another remainder
other_remainder : (k i s : ℕ) → 0 < s → s < k → (i + s) % k ≡ i % k → ⊥
other_remainder k i s some short same =
    let small : i % k < k = mod_below i k (omega arith) in
    let sum : (i % k + s) % k ≡ i % k = mod-add-mod i k s ∙ same in
    elim (cases_lt (i % k + s) k) [
      | inl below ↦ let whole : (i % k + s) % k ≡ i % k + s = mod-eq_of_lt below in omega arith
      | inr above ↦
          let rest : (i % k + s - k) % k ≡ i % k + s - k = mod-eq_of_lt (omega arith) in
          let split : k + (i % k + s - k) ≡ i % k + s = omega arith in
          let whole : (i % k + s) % k ≡ (i % k + s - k) % k = ap (λ n. n % k) (sym split) ∙ add-mod_left k (i % k + s - k) in
          omega arith
    ]

-- no index between two successive ones of a worker is its own
pub others_between : (k w i j : ℕ) → i % k ≡ w → i < j → j < i + k → (j % k == w) ≡ false
others_between k w i j its_own low high =
    let step : i + (j - i) ≡ j = omega arith in
    false_from_ne_true (j % k == w) (λ is. other_remainder k i (j - i) (omega arith) (omega arith) (ap (λ n. n % k) step ∙ (eqb-true (j % k) w is ∙ sym its_own)))

-- no index before its first is its own
pub others_before : (k w j : ℕ) → j < w → w < k → (j % k == w) ≡ false
others_before k w j low small =
    let whole : j % k ≡ j = mod-eq_of_lt (omega arith) in
    false_from_ne_true (j % k == w) (λ is. let e = eqb-true (j % k) w is in omega arith)
