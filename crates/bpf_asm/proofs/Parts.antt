-- The place at which a search in a list of bytes stops, and the parts of a split.
use Rattle.std.proofs.Common.{◌≡◌, ℕ, ◌∷◌, [], List, Bool, true, false, cond, refl, not, length, get_or, ◌<◌, arith, sym}
use Rattle.std.specs.List.{slice_split, onto_first, prefix_len}
use Rattle.std.proofs.lemmas.List.Sums.{prefix_len_is}

pub split_more : (p : ℕ → Bool) (xs : List ℕ) → (y : List ℕ) × (ys : List (List ℕ)) × (slice_split p xs ≡ y ∷ ys)
split_more p [] = ([], [], refl)
split_more p (x ∷ xs) = by_test (p x) (slice_split p xs) where
  by_test : (b : Bool) (rest : List (List ℕ)) → (y : List ℕ) × (ys : List (List ℕ)) × (cond b ([] ∷ rest) (onto_first x rest) ≡ y ∷ ys)
  by_test true rest = ([], rest, refl)
  by_test false [] = (x ∷ [], [], refl)
  by_test false (part ∷ parts) = (x ∷ part, parts, refl)

pub stops : (p : ℕ → Bool) (xs : List ℕ) (i : ℕ) → i < length xs → ((k : ℕ) → k < i → not (p (get_or xs k 0)) ≡ true) → p (get_or xs i 0) ≡ true → i ≡ prefix_len (λ b. not (p b)) xs
stops p xs i l h e = sym (prefix_len_is (λ b. not (p b)) xs i 0 (omega arith) h (λ _. rw e refl))

pub reaches_end : (p : ℕ → Bool) (xs : List ℕ) (i : ℕ) → i ≡ length xs → ((k : ℕ) → k < i → not (p (get_or xs k 0)) ≡ true) → length xs ≡ prefix_len (λ b. not (p b)) xs
reaches_end p xs i l h = sym (prefix_len_is (λ b. not (p b)) xs (length xs) 0 (omega arith) (λ k m. h k (omega arith)) (λ m. absurd (omega arith)))
