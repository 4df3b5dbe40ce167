-- The table of mnemonics.
use Rattle.std.proofs.Common.{◌≡◌, ℕ, IsTrue, true, false, refl, Bool, cond, List, [], ◌∷◌, Option, Some, None, ◌&&◌, IfSome}
use Rattle.std.specs.List.{list_all, find}
use Rattle.std.specs.Str.{bytes_eq}
use Rattle.bpf_asm.specs.declared.row.Row.{Row}
use Rattle.bpf_asm.specs.declared.row.TheConstants.{ROWS}
use Rattle.bpf_asm.specs.Mnemonics.{name_of, row_named, is_row}

-- if a test is true of each element, it is true of the one that is found
pub found_passes : {X : Type 0} (p q : X → Bool) (xs : List X) (x : X) → list_all q xs ≡ true → find p xs ≡ Some x → q x ≡ true
found_passes p q [] x a e = cc
found_passes p q (y ∷ xs) x a e = by_test (p y) (both (q y) (list_all q xs) a) (found_passes p q xs x) e where
  both : (b c : Bool) → (b && c) ≡ true → (b ≡ true) × (c ≡ true)
  both true c h = (refl, h)
  both false c h = cc

  by_test : (t : Bool) → (q y ≡ true) × (list_all q xs ≡ true) → (list_all q xs ≡ true → find p xs ≡ Some x → q x ≡ true) → cond t (Some y) (find p xs) ≡ Some x → q x ≡ true
  by_test true r again e = let k : y ≡ x = cc in rw (← k) r.0
  by_test false r again e = again r.1 e

-- the whole table at once
each_has_operation : list_all is_row ROWS ≡ true
each_has_operation = refl

-- the row of a mnemonic has a valid operation
pub row_has_operation : (name : List ℕ) (o : Option Row) → o ≡ row_named name → IfSome o (λ row. IsTrue (is_row row))
unfolding row_named
row_has_operation name None e = tt
row_has_operation name (Some row) e = found_passes (λ r. bytes_eq (name_of r) name) is_row ROWS row each_has_operation (back e) where
  back : Some row ≡ find (λ r. bytes_eq (name_of r) name) ROWS → find (λ r. bytes_eq (name_of r) name) ROWS ≡ Some row
  back e = cc
