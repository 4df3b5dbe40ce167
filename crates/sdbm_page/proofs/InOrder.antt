-- Slices of keys, permuted and sorted.
use Rattle.std.proofs.Common.{◌≡◌, ◌≢◌, ℕ, ◌+◌, ◌<◌, ◌≤◌, ◌⊎◌, List, [], ◌∷◌, map, length, get_or, set, swap, take, Bool, true, false, IsPermutation, IsSorted, Bor, Ordering, Less, Equal, Greater, nat_cmp, is_eq, is_lt, bytes_eq, inl, inr, refl, sym, ap, ◌∙◌, arith, length-take, get_or-take}
use Rattle.std.proofs.lemmas.Bool.{cases_eq}
use Rattle.std.proofs.lemmas.Cmp.{on_total, nat_list_cmp_total}
use Rattle.std.proofs.lemmas.List.{get_or-map, length-map, get_or-set_same, get_or-set_other}
use Rattle.std.proofs.lemmas.List.Edits.{Swapped, swapped_from_swap, length-swap}
use Rattle.std.proofs.lemmas.List.Sorted.{IsPermutation-keeps, IsPermutation-map, IsPermutation-sym}
use Rattle.std.proofs.lemmas.Map.Keys.{sorted_from_all_adjacent, Less-from_sorted}
use Rattle.std.proofs.lemmas.Map.Text.{is_eq-slice_cmp}
use Rattle.std.proofs.lemmas.Slice.Eq.{bytes_eq-Decides}
use Rattle.std.specs.Cmp.Lexicographic.{slice_cmp}
use Rattle.std.specs.Ordering.{ordering_reverse}
use Rattle.sdbm_page.specs.Keys.{key_of, AreApart, AreUnlike}

abbrev pub Slice : Type 0
Slice = Bor (List ℕ)

abbrev pub read : List Slice → List (List ℕ)
read slices = map (λ s. s.now) slices

-- the keys at two places differ
abbrev pub DifferAt : List Slice → ℕ → ℕ → Type 0
DifferAt slices i j = (d : Slice) → bytes_eq (get_or slices i d).now (get_or slices j d).now ≡ false

unequal : (a b : List ℕ) → bytes_eq a b ≡ false → a ≢ b
unequal a b other e = let same = (bytes_eq-Decides a b).1 e in cc

told : (a b : List ℕ) (t : Bool) → bytes_eq a b ≡ t → a ≢ b → t ≡ false
told a b true e other = absurd (other ((bytes_eq-Decides a b).0 e))
told a b false e other = refl

pub unlike_from_places : (slices : List Slice) → ((i j : ℕ) → i < j → j < length slices → DifferAt slices i j) → AreUnlike (read slices)
unlike_from_places [] h i j d less within e = omega arith
unlike_from_places (s ∷ ss) h i j d less within e =
    let all = s ∷ ss in
    let inside : j < length all = omega (arith, length-map all (λ (x : Slice). x.now)) in
    unequal _ _ (h i j less inside s) (sym (get_or-map (λ x. x.now) all i s d (omega arith)) ∙ e ∙ get_or-map (λ x. x.now) all j s d inside)

pub differ_from_unlike : (slices : List Slice) (i j : ℕ) → AreUnlike (read slices) → i < j → j < length slices → DifferAt slices i j
differ_from_unlike slices i j h less within d =
    let inside : j < length (read slices) = omega (arith, length-map slices (λ (x : Slice). x.now)) in
    told (get_or slices i d).now (get_or slices j d).now _ refl (λ e. h i j [] less inside (get_or-map (λ x. x.now) slices i d [] (omega arith) ∙ e ∙ sym (get_or-map (λ x. x.now) slices j d [] within)))

-- ---- permuted

either_way : (keys : List (List ℕ)) → AreUnlike keys → (i j : ℕ) (d : List ℕ) → i < length keys → j < length keys → get_or keys i d ≡ get_or keys j d → i ≡ j
either_way keys h i j d p q e =
    let not_below : i < j → ⊥ = λ less. h i j d less q e in
    let not_above : j < i → ⊥ = λ less. h j i d less p (sym e) in
    omega arith

-- the source of the element at m when a and b are exchanged
abbrev From : ℕ → ℕ → ℕ → ℕ → Type 0
From a b m k = ((m ≡ a) × (k ≡ b)) ⊎ (((m ≡ b) × (k ≡ a)) ⊎ ((m ≢ a) × (m ≢ b) × (k ≡ m)))

origin : {X : Type 0} (f g : ℕ → X) (a b m : ℕ) → Swapped f g a b → (m ≡ a) ⊎ (m ≢ a) → (m ≡ b) ⊎ (m ≢ b) → (k : ℕ) × From a b m k × (g m ≡ f k)
origin f g a b m s (inl e) y = (b, inl (e, refl), ap g e ∙ s.0)
origin f g a b m s (inr n) (inl e) = (a, inr (inl (e, refl)), ap g e ∙ s.1)
origin f g a b m s (inr n) (inr o) = (m, inr (inr (n, o, refl)), s.2 m n o)

unlike_swapped : (keys : List (List ℕ)) (a b : ℕ) → a < length keys → b < length keys → AreUnlike keys → AreUnlike (swap keys a b)
unlike_swapped keys a b p q h i j d less within e =
    let len = length-swap keys a b in
    let s = swapped_from_swap keys (swap keys a b) a b d p q refl in
    let x = origin _ _ a b i s (cases_eq i a) (cases_eq i b) in
    let y = origin _ _ a b j s (cases_eq j a) (cases_eq j b) in
    let same = either_way keys h x.0 y.0 d (omega (arith, x.1)) (omega (arith, y.1)) (sym x.2 ∙ e ∙ y.2) in
    omega (arith, x.1, y.1)

pub unlike_moved : (old new : List Slice) → IsPermutation old new → AreUnlike (read old) → AreUnlike (read new)
unlike_moved old new moved h = IsPermutation-keeps (read old) AreUnlike h unlike_swapped (read new) (IsPermutation-map (λ s. s.now) old new moved)

pub unlike_before : (old new : List Slice) → IsPermutation old new → AreUnlike (read new) → AreUnlike (read old)
unlike_before old new moved = unlike_moved new old (IsPermutation-sym old new moved)

-- ---- sorted

abbrev pub slice_order : Slice → Slice → Ordering
slice_order a b = slice_cmp nat_cmp a.now b.now

only_less : (o p : Ordering) → o ≡ ordering_reverse p → is_lt p ≡ false → is_eq o ≡ false → o ≡ Less
only_less o Less e p q = cc
only_less o Equal e p q = let tie = ap is_eq (sym e) ∙ q in cc
only_less o Greater e p q = e

-- If neighbors are in order and differ, they ascend, and so do all pairs.
pub differ_from_sorted : (slices : List Slice) → IsSorted slice_order slices → ((k : ℕ) → k + 1 < length slices → DifferAt slices k (k + 1))
    → (i j : ℕ) → i < j → j < length slices → DifferAt slices i j
differ_from_sorted slices sorted neighbors i j less within d =
    let total = on_total (λ (s : Slice). s.now) nat_list_cmp_total in
    let rises : (k : ℕ) → k + 1 < length slices → slice_order (get_or slices k d) (get_or slices (k + 1) d) ≡ Less =
    λ k h. let x = get_or slices k d in let y = get_or slices (k + 1) d in
    only_less (slice_order x y) (slice_order y x) (total.antisymm x y) (sorted k d (omega arith) h) (is_eq-slice_cmp x.now y.now ∙ neighbors k h d) in
    let below = Less-from_sorted slice_order slices i j d (sorted_from_all_adjacent total slices d rises) less within in
    sym (is_eq-slice_cmp (get_or slices i d).now (get_or slices j d).now) ∙ ap is_eq below

-- ---- the keys of a page

-- one more key is stored at its place
pub stored_next : (bytes : List ℕ) (room : List Slice) (s : Slice) (i : ℕ) → i < length room → s.now ≡ key_of bytes i
    → ((k : ℕ) (d : Slice) → k < i → (get_or room k d).now ≡ key_of bytes k)
    → (k : ℕ) (d : Slice) → k < i + 1 → (get_or (set room i s) k d).now ≡ key_of bytes k
stored_next bytes room s i within is stored k d below =
    elim (cases_eq k i) [
      | inl same ↦ ap (λ (j : ℕ). (get_or (set room i s) j d).now) same ∙ ap (λ (x : Slice). x.now) (get_or-set_same room i s d within) ∙ is ∙ ap (key_of bytes) (sym same)
      | inr other ↦ ap (λ (x : Slice). x.now) (get_or-set_other room i k s d other) ∙ stored k d (omega arith)
    ]

abbrev blank : Slice
blank = record { ref_ptr = (0, 0); now = [] }

module _ (bytes : List ℕ) (room : List Slice) (count : ℕ) (fits : count ≤ length room)
    (stored : (k : ℕ) (d : Slice) → k < count → (get_or room k d).now ≡ key_of bytes k) where
  many : length (read (take count room)) ≡ count
  many = omega (arith, length-map (take count room) (λ (s : Slice). s.now), length-take count room)

  key_taken : (k : ℕ) (d : List ℕ) → k < count → get_or (read (take count room)) k d ≡ key_of bytes k
  key_taken k d below =
      get_or-map (λ s. s.now) (take count room) k blank d (omega (arith, length-take count room))
      ∙ ap (λ (s : Slice). s.now) (get_or-take count room k blank below)
      ∙ stored k blank below

  pub unlike_from_apart : AreApart bytes count → AreUnlike (read (take count room))
  unlike_from_apart apart i j d less within same =
      let long = many in
      apart i j less (omega arith) (sym (key_taken i d (omega arith)) ∙ same ∙ key_taken j d (omega arith))

  pub apart_from_unlike : AreUnlike (read (take count room)) → AreApart bytes count
  apart_from_unlike unlike a b order below same =
      let long = many in
      unlike a b [] order (omega arith) (key_taken a [] (omega arith) ∙ same ∙ sym (key_taken b [] below))
