-- The bytes that a plan determines for the offsets of a file.
use Rattle.std.proofs.Common.{true, false, ◌≡◌, ◌⊎◌, ℕ, ◌+◌, ◌<◌, ◌≤◌, List, get_or, refl, sym, subst, arith}
use Rattle.sdbm_saves.specs.declared.disk.DiskFile.{DiskFile}
use Rattle.sdbm_saves.specs.Redo.{file_of, offset_of, size_of, data_of, was_of, rest_after, changes_of, count_of, Fits, IsPlan, IsChangeOf, Offers, HasByte}

pub never : false ≡ true → ⊥
never is = cc

-- the plan determines each byte of its changes
pub own_byte : (plan change : List ℕ) → IsChangeOf plan change → (i : ℕ) → i < size_of change → (byte : ℕ)
    → (byte ≡ get_or (data_of change) i 0) ⊎ (byte ≡ get_or (was_of change) i 0) → HasByte plan (file_of change) (offset_of change + i) byte
own_byte plan change one i lt byte is =
    record { change = change; one = one; offers = record { touches = refl; index = i; covered = lt; place = refl; is = is } }

-- each change of a plan is complete
pub change_whole : (plan change : List ℕ) → IsPlan plan → IsChangeOf plan change → Fits plan change
change_whole plan change is_plan one = subst (λ (l : List ℕ). Fits plan l) (sym one.is) (is_plan.fits one.index one.counted)

-- if no change determines a byte, the plan does not
pub none_has : (plan : List ℕ) (file : DiskFile) (at byte n : ℕ) → count_of plan ≤ n → ((k : ℕ) → k < n → Offers (rest_after k (changes_of plan)) file at byte → ⊥) → HasByte plan file at byte → ⊥
none_has plan file at byte n all none has =
    none has.one.index (omega (arith, has.one.counted, all)) (subst (λ (l : List ℕ). Offers l file at byte) has.one.is has.offers)
