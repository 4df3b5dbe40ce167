-- The definitions at concrete values.
use Rattle.std.specs.Prelude.{◌≡◌, ◌≤◌, ℕ, zero, suc, true, false, List, [], ◌∷◌, slice_index_or, refl}
use Rattle.std.proofs.Common.{inl, inr, sym, ◌∙◌, arith, lit<, lit≤}
use Rattle.std.proofs.lemmas.Bool.{true≢false}
use Rattle.std.specs.FinSet as set
use Rattle.sdbm_addr.specs.DirectoryFile.{bit_of, IsOrphanBit, HasDeepBit}
use Rattle.sdbm_dir.specs.Words.{word_of, HasParent}
use Rattle.sdbm_dir.specs.Bitmap.{splits_of}
use Rattle.sdbm_dir.specs.declared.DirFault.TheVariants.{DirOrphan}
use Rattle.sdbm_dir.specs.Faults.{AreFaultless, IsDirFault}
use Rattle.sdbm_dir.specs.Ends.{IsEnd}
use Rattle.sdbm_dir.proofs.BitmapLemmas.{contains-splits_of, contains-word_of, unset_past}

bits_of_a_byte : (bit_of (5 ∷ []) 0 ≡ true) × ((bit_of (5 ∷ []) 1 ≡ false) × (bit_of (5 ∷ []) 2 ≡ true))
bits_of_a_byte = (refl, (refl, refl))

bit_of_the_second_byte : (bit_of (0 ∷ 128 ∷ []) 15 ≡ true) × (bit_of (0 ∷ 128 ∷ []) 16 ≡ false)
bit_of_the_second_byte = (refl, refl)

-- number 6 is the right child of number 2, which is the right child of the root; 5 is its left child
word_of_six : word_of 6 ≡ true ∷ true ∷ []
unfolding word_of
word_of_six = refl

word_of_five : word_of 5 ≡ false ∷ true ∷ []
unfolding word_of
word_of_five = refl

-- the byte 5 marks the empty prefix and the prefix 1, but not the prefix 0
splits_of_five : (set.contains (splits_of (5 ∷ [])) [] ≡ true) × ((set.contains (splits_of (5 ∷ [])) (true ∷ []) ≡ true) × (set.contains (splits_of (5 ∷ [])) (false ∷ []) ≡ false))
splits_of_five = (contains-splits_of (5 ∷ []) [], (contains-splits_of (5 ∷ []) (true ∷ []), contains-splits_of (5 ∷ []) (false ∷ [])))

-- if bit 0 is 1, bits 0 and 2 have parents
parents_of_two : (HasParent (splits_of (1 ∷ [])) 0) × (HasParent (splits_of (1 ∷ [])) 2)
parents_of_two = (inl refl, inr (contains-word_of (1 ∷ []) 0))

-- the start of the trailing zeros
abbrev one_and_zeros : List ℕ
one_and_zeros = 1 ∷ 0 ∷ 0 ∷ []

end_of_one : IsEnd one_and_zeros 1
end_of_one = record { within = lit≤ tt; zeros = zeros; last = λ _. lit< tt }
  where
    zeros : (k : ℕ) → 1 ≤ k → slice_index_or one_and_zeros k 0 ≡ 0
    zeros zero l = absurd (omega arith)
    zeros (suc zero) l = refl
    zeros (suc (suc zero)) l = refl
    zeros (suc (suc (suc k))) l = refl

-- one byte has no bit that is too deep
none_deep : (byte : ℕ) → HasDeepBit (byte ∷ []) → ⊥
none_deep byte d = true≢false (sym d.1.is_set ∙ unset_past (byte ∷ []) d.0 (omega (arith, d.1.deep)))

-- the byte 2 has a bit without a parent
orphan_of_two : IsDirFault (2 ∷ []) DirOrphan
orphan_of_two = (none_deep 2, (1, record { is_set = refl; below = lit< tt; parent = refl }))

-- the byte 5 has no fault
five_is_faultless : AreFaultless (5 ∷ [])
five_is_faultless = record { shallow = none_deep 5; closed = λ o. closed o.0 o.1 }
  where
    closed : (n : ℕ) → IsOrphanBit (5 ∷ []) n → ⊥
    closed zero o = absurd (omega (arith, o.below))
    closed (suc zero) o = true≢false (sym o.is_set)
    closed (suc (suc zero)) o = true≢false o.parent
    closed (suc (suc (suc zero))) o = true≢false (sym o.is_set)
    closed (suc (suc (suc (suc zero)))) o = true≢false (sym o.is_set)
    closed (suc (suc (suc (suc (suc zero))))) o = true≢false (sym o.is_set)
    closed (suc (suc (suc (suc (suc (suc zero)))))) o = true≢false (sym o.is_set)
    closed (suc (suc (suc (suc (suc (suc (suc zero))))))) o = true≢false (sym o.is_set)
    closed (suc (suc (suc (suc (suc (suc (suc (suc n)))))))) o =
        true≢false (sym o.is_set ∙ unset_past (5 ∷ []) (suc (suc (suc (suc (suc (suc (suc (suc n)))))))) (omega arith))
