-- The page to which a hash leads by the bits of a directory.
use Rattle.std.proofs.Common.{◌≡◌, ◌⊎◌, inl, inr, ◌<◌, ◌≤◌, ◌%◌, ◌^◌, ℕ, List, length, Bool, true, false, refl, sym, ◌∙◌, arith}
use Rattle.std.specs.FinSet as set
use Rattle.sdbm_addr.specs.Directory.{Splits, IsDepth, page_of, word_number, hash_prefix}
use Rattle.sdbm_addr.specs.DirectoryFile.{bit_of, SpellsDirectory}
use Rattle.sdbm_addr.proofs.DirectoryLemmas.{length-hash_prefix, page_of_depth}

-- no prefix of 31 letters is split
no_deep : (d : Splits) (hash depth : ℕ) → ((w : List Bool) → set.contains d w ≡ true → length w ≤ 30) → 31 ≤ depth → (b : Bool) → set.contains d (hash_prefix depth hash) ≡ b
    → b ≡ false
no_deep d hash depth short deep true is =
    let few : length (hash_prefix depth hash) ≤ 30 = short (hash_prefix depth hash) is in
    absurd (omega (arith, length-hash_prefix depth hash))
no_deep d hash depth short deep false is = refl

pub leads : (bytes : List ℕ) (d : Splits) (hash depth page : ℕ) → SpellsDirectory bytes d
    → ((k : ℕ) → k < depth → bit_of bytes (word_number (hash_prefix k hash)) ≡ true)
    → (bit_of bytes (word_number (hash_prefix depth hash)) ≡ false) ⊎ (31 ≤ depth) → page ≡ hash % 2 ^ depth → page ≡ page_of d hash
leads bytes d hash depth page spells above leaf is = is ∙ sym (page_of_depth d spells.directory hash depth (record {
  leaf = here leaf;
  above = λ k below. sym (spells.bits (hash_prefix k hash)) ∙ above k below;
}))
  where
    here : (bit_of bytes (word_number (hash_prefix depth hash)) ≡ false) ⊎ (31 ≤ depth) → set.contains d (hash_prefix depth hash) ≡ false
    here (inl unset) = sym (spells.bits (hash_prefix depth hash)) ∙ unset
    here (inr deep) = no_deep d hash depth spells.directory.short deep (set.contains d (hash_prefix depth hash)) refl
