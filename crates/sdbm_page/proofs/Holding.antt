-- Laws of the bytes of a page in either kind of storage.
use Rattle.std.proofs.Common.{◌≡◌, ℕ, List, [], length, refl, sym, ap, ◌∙◌}
use Rattle.std.proofs.lemmas.List.{append-nil}
use Rattle.sdbm_page.specs.Edits.{written_from}
use Rattle.sdbm_page.specs.Held.{held_items, held_with_all, held_with_part}
use Rattle.sdbm_page.proofs.Writing.{written_at}
use Rattle.sdbm_page.specs.declared.held.Held.{Held}
use Rattle.sdbm_page.specs.declared.held.Held.TheVariants.{Small, Wide}

-- overwriting some of the bytes
pub held_with_part_is : {A : Type 0} (h : Held A) (at : ℕ) (ws : List ℕ) → held_items (held_with_part h at ws) ≡ written_from (length (held_items h)) (held_items h) at ws
held_with_part_is (Small small) at ws = refl
held_with_part_is (Wide v) at ws = ap (λ (n : ℕ). written_from n v.items at ws) v.ok.0

-- overwriting all bytes with the same number of bytes
pub held_with_all_is : {A : Type 0} (h : Held A) (ws : List ℕ) → length ws ≡ length (held_items h) → held_items (held_with_all h ws) ≡ ws
held_with_all_is h ws same =
    let xs = held_items h in
    held_with_part_is h 0 ws ∙ written_at (length xs) 0 xs [] xs [] ws (sym (append-nil xs)) refl refl same ∙ append-nil ws
