-- Marking and unmarking a number.
use Rattle.std.proofs.Common.{◌≡◌, ◌≢◌, ◌⊎◌, ℕ, zero, suc, ◌<◌, Bool, true, false, List, [], ◌∷◌, ◌++◌, length, get_or, set, inl, inr, refl, sym, ap, ◌∙◌, subst, arith, length-append, get_or-set_other, get_or-set_same}
use Rattle.std.specs.List.{Contains}
use Rattle.std.proofs.lemmas.Bool.{cases_eq, cases_lt, false_from_ne_true}
use Rattle.std.proofs.lemmas.List.{get_or_append_left, get_or_push, get_or_past}
use Rattle.std.proofs.lemmas.List.Elements.{Contains-append_left, Contains-append_right, Contains-append_cases}
use Rattle.store_marks.specs.Marks.{AreMarked}

module _ (old new : List Bool) (numbers : List ℕ) where
  pub marked_same : ((n : ℕ) → get_or new n false ≡ get_or old n false) → AreMarked old numbers → AreMarked new numbers
  marked_same same are = record {
    only = λ n is. are.only n (sym (same n) ∙ is);
    each = λ i low. same (get_or numbers i 0) ∙ are.each i low;
    once = are.once;
  }

-- a marked index is within the list of marks
pub in_marks : (marked : List Bool) (n : ℕ) → get_or marked n false ≡ true → n < length marked
in_marks marked n is = elim (cases_lt n (length marked)) [
  | inl low ↦ low
  | inr high ↦ let wrong : true ≡ false = sym is ∙ get_or_past marked n false (omega arith) in cc
]

one : (n m : ℕ) → Contains (n ∷ []) m → m ≡ n
one n m there = at there.0 there.1 there.2
  where
    at : (k : ℕ) → k < 1 → get_or (n ∷ []) k m ≡ m → m ≡ n
    at zero low is = sym is
    at (suc k) low is = absurd (omega arith)

-- a number that is not in the list is not marked
pub unmarked : (marked : List Bool) (numbers : List ℕ) (n : ℕ) → AreMarked marked numbers → (Contains numbers n → ⊥) → get_or marked n false ≡ false
unmarked marked numbers n are none = false_from_ne_true (get_or marked n false) (λ is. none (are.only n is))

-- a member of a list with one more number
pub only_more : (numbers : List ℕ) (n m : ℕ) → Contains (numbers ++ n ∷ []) m → Contains numbers m ⊎ (m ≡ n)
only_more numbers n m there = elim (Contains-append_cases numbers (n ∷ []) m there) [ inl before ↦ inl before | inr last ↦ inr (one n m last) ]

module _ (marked : List Bool) (numbers : List ℕ) (n : ℕ) where
  put_more : (room : n < length marked) (m : ℕ) → get_or marked m false ≡ true → get_or (set marked n true) m false ≡ true
  put_more room m is = elim (cases_eq m n) [
    | inl same ↦ ap (λ (k : ℕ). get_or (set marked n true) k false) same ∙ get_or-set_same marked n true false room
    | inr other ↦ get_or-set_other marked n m true false other ∙ is
  ]

  pub marked_more : AreMarked marked numbers → get_or marked n false ≡ false → n < length marked → AreMarked (set marked n true) (numbers ++ n ∷ [])
  marked_more are free room = record {
    only = λ m is. elim (cases_eq m n) [
      | inl same ↦ subst (λ (k : ℕ). Contains (numbers ++ n ∷ []) k) (sym same) (Contains-append_right numbers (n ∷ []) n (0, (omega arith), refl))
      | inr other ↦ Contains-append_left numbers (n ∷ []) m (are.only m (sym (get_or-set_other marked n m true false other) ∙ is))
    ];
    each = λ i low. elim (cases_lt i (length numbers)) [
      | inl less ↦ ap (λ (k : ℕ). get_or (set marked n true) k false) (get_or_append_left numbers (n ∷ []) 0 i less) ∙ put_more room (get_or numbers i 0) (are.each i less)
      | inr more ↦ ap (λ (k : ℕ). get_or (set marked n true) k false) (get_or_push numbers n 0 i (omega (arith, length-append numbers (n ∷ [])))) ∙ get_or-set_same marked n true false room
    ];
    once = λ i j before low same. elim (cases_lt j (length numbers)) [
      | inl less ↦ are.once i j before less (sym (get_or_append_left numbers (n ∷ []) 0 i (omega arith)) ∙ (same ∙ get_or_append_left numbers (n ∷ []) 0 j less))
      | inr more ↦
          let i_low : i < length numbers = omega (arith, length-append numbers (n ∷ [])) in
          let is : get_or numbers i 0 ≡ n = sym (get_or_append_left numbers (n ∷ []) 0 i i_low) ∙ (same ∙ get_or_push numbers n 0 j (omega (arith, length-append numbers (n ∷ [])))) in
          let wrong : true ≡ false = sym (are.each i i_low) ∙ (ap (λ (k : ℕ). get_or marked k false) is ∙ free) in cc
    ];
  }

  last_marked : AreMarked marked (numbers ++ n ∷ []) → get_or marked n false ≡ true
  last_marked are =
      sym (ap (λ (k : ℕ). get_or marked k false) (get_or_push numbers n 0 (length numbers) refl)) ∙ are.each (length numbers) (omega (arith, length-append numbers (n ∷ [])))

  pub last_inside : AreMarked marked (numbers ++ n ∷ []) → n < length marked
  last_inside are = in_marks marked n (last_marked are)

  pub marked_less : AreMarked marked (numbers ++ n ∷ []) → AreMarked (set marked n false) numbers
  marked_less are = record {
    only = λ m is. elim (cases_eq m n) [
      | inl same ↦
          let wrong : true ≡ false = sym is ∙ (ap (λ (k : ℕ). get_or (set marked n false) k false) same ∙ get_or-set_same marked n false false (last_inside are)) in cc
      | inr other ↦ elim (Contains-append_cases numbers (n ∷ []) m (are.only m (sym (get_or-set_other marked n m false false other) ∙ is))) [
        | inl there ↦ there
        | inr here ↦ absurd (other (one n m here))
      ]
    ];
    each = λ i low.
        let is : get_or (numbers ++ n ∷ []) i 0 ≡ get_or numbers i 0 = get_or_append_left numbers (n ∷ []) 0 i low in
        let other : get_or numbers i 0 ≢ n = λ same. are.once i (length numbers) low (omega (arith, length-append numbers (n ∷ []))) (is ∙ (same ∙ sym (get_or_push numbers n 0 (length numbers) refl))) in
        get_or-set_other marked n (get_or numbers i 0) false false other ∙ (sym (ap (λ (k : ℕ). get_or marked k false) is) ∙ are.each i (omega (arith, length-append numbers (n ∷ []))));
    once = λ i j before low same.
        are.once i j before (omega (arith, length-append numbers (n ∷ []))) (get_or_append_left numbers (n ∷ []) 0 i (omega arith) ∙ (same ∙ sym (get_or_append_left numbers (n ∷ []) 0 j low)));
  }

  pub has_last : Contains (numbers ++ n ∷ []) n
  has_last = Contains-append_right numbers (n ∷ []) n (0, (omega arith), refl)
