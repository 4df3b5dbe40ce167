-- Sets of places of a data file, and the knowledge of a plan about each file.
use Rattle.std.proofs.Common.{◌≡◌, ◌||◌, true, ℕ, zero, suc, List, [], ◌∷◌, length, get_or, nat_eq, refl, sym, ap, subst, arith, eq-eqb}
use Rattle.std.specs.HashSet.{HashSet, contains, hash_set_len}
use Rattle.std.specs.List.{list_any}
use Rattle.sdbm_saves.specs.declared.disk.DiskFile.TheVariants.{Pages, Directory}
use Rattle.sdbm_saves.specs.Redo.{data_file, file_of, data_in, IsChangeOf, KnowsBlock, Knows}
use Rattle.sdbm_saves.proofs.Knowing.{never}
use Rattle.sdbm_log.specs.Places.{KnowsFile}

-- an empty set has no place
none_listed : (places : List ℕ) (at : ℕ) → length places ≡ 0 → list_any (nat_eq at) places ≡ true → ⊥
none_listed [] at none is = never is
none_listed (p ∷ places) at none is = absurd (omega (arith, none))

pub none_in : {S : Type 0} (places : HashSet ℕ S) (at : ℕ) → hash_set_len places ≡ 0 → contains nat_eq places at ≡ true → ⊥
none_in places at none is = none_listed places.keys at none is

-- a set that has no place is empty
unlisted : (places : List ℕ) → ((at : ℕ) → list_any (nat_eq at) places ≡ true → ⊥) → length places ≡ 0
unlisted [] none = refl
unlisted (p ∷ places) none = absurd (none p (ap (λ b. b || list_any (nat_eq p) places) (eq-eqb p p refl)))

pub all_gone : {S : Type 0} (places : HashSet ℕ S) → ((at : ℕ) → contains nat_eq places at ≡ true → ⊥) → hash_set_len places ≡ 0
all_gone places none = unlisted places.keys none

-- a plan that knows both files knows each of them
pub pages_known : (plan : List ℕ) (both : List ℕ × List ℕ) → Knows plan both → KnowsFile plan Pages both.0
pages_known plan both knows change one touches = subst (λ f. KnowsBlock plan change (data_in both f)) touches (knows.bytes change one)

pub directory_known : (plan : List ℕ) (both : List ℕ × List ℕ) → Knows plan both → KnowsFile plan Directory both.1
directory_known plan both knows change one touches = subst (λ f. KnowsBlock plan change (data_in both f)) touches (knows.bytes change one)

pub files_known : (plan : List ℕ) (both : List ℕ × List ℕ) → KnowsFile plan Pages both.0 → KnowsFile plan Directory both.1 → (change : List ℕ) → IsChangeOf plan change → KnowsBlock plan change (data_in both (file_of change))
files_known plan both pages directory change one = by_number (get_or change 0 0) refl
  where
    by_number : (n : ℕ) → get_or change 0 0 ≡ n → KnowsBlock plan change (data_in both (file_of change))
    by_number zero is = let touches : file_of change ≡ Pages = ap data_file is in subst (λ f. KnowsBlock plan change (data_in both f)) (sym touches) (pages change one touches)
    by_number (suc n) is = let touches : file_of change ≡ Directory = ap data_file is in subst (λ f. KnowsBlock plan change (data_in both f)) (sym touches) (directory change one touches)
