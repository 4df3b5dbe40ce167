-- Databases at rest: the commit byte (mark) that is read is not 1, and a crash leaves the same data files and no commit byte of 1.
use Rattle.std.proofs.Common.{◌≡◌, ◌≢◌, ◌⊎◌, ⊎_elim, ◌≤◌, ℕ, List, length, get_or, refl, sym, ◌∙◌, ap, subst, arith, length-drop, length-append}
use Rattle.sdbm_saves.specs.Disk.{Image, Only, Follows, LeavesOnly, Through}
use Rattle.sdbm_saves.specs.Redo.{files, StaysUnmarked}
use Rattle.sdbm_log.specs.Log.{files_of, Holds, IsAtRest, IsReady}
use Rattle.sdbm_saves.proofs.Moments.{weaker, leaves}
use Rattle.sdbm_log.proofs.Header.{settled_holds, unmarked_holds}

-- files that are durable as read
pub only_rests : (seen : Image) (may_leave : Image → Type 0) → get_or seen.redo 0 0 ≢ 1 → Only seen may_leave → IsAtRest seen may_leave
only_rests seen may_leave unmarked only = record {
  unmarked = unmarked;
  left_unmarked = λ c left marked. unmarked (sym (ap (λ (o : Image). get_or o.redo 0 0) (only c left)) ∙ marked);
  kept = λ c left. ap (λ (o : Image). files o) (only c left);
}

-- after a step that does not set the commit byte
pub stays_rests : (old new : Image) (before after : Image → Type 0) → IsAtRest old before → files new ≡ files old → get_or new.redo 0 0 ≢ 1 → Follows StaysUnmarked before after → IsAtRest new after
stays_rests old new before after rest same unmarked follows = record {
  unmarked = unmarked;
  left_unmarked = λ c left. let from = follows c left in from.2.mark (rest.left_unmarked from.0 from.1);
  kept = λ c left. let from = follows c left in from.2.files ∙ rest.kept from.0 from.1 ∙ sym same;
}

pub rest_holds : (seen : Image) (may_leave : Image → Type 0) → IsAtRest seen may_leave → (c : Image) → may_leave c → Holds (files seen) c
rest_holds seen may_leave rest c left = unmarked_holds (files seen) c (rest.left_unmarked c left) (rest.kept c left)

module _ {D : Type 0} (moment : D → ℕ) (left_since : D → ℕ → Image → Type 0) (may_leave : D → Image → Type 0) where
  -- steps that do not set the commit byte leave the same files at any time
  pub stays_moments : (seen : Image) (old new : D) → IsAtRest seen (may_leave old) → Through moment left_since may_leave StaysUnmarked old new → LeavesOnly moment left_since old new (λ c. Holds (files seen) c)
  stays_moments seen old new rest through =
      leaves moment left_since may_leave StaysUnmarked old new _ (λ d c left stays. settled_holds seen (may_leave old) rest d c left stays) through

  -- images that might have been left of files at rest, or that represent the same files
  pub rest_moments : (seen : Image) (old new : D) → IsAtRest seen (may_leave old) → LeavesOnly moment left_since old new (λ c. may_leave old c ⊎ Holds (files_of seen) c)
      → LeavesOnly moment left_since old new (λ c. Holds (files seen) c)
  rest_moments seen old new rest so =
      weaker moment left_since may_leave old new _ _
      (λ c is. ⊎_elim (λ was. rest_holds seen (may_leave old) rest c was) (λ holds. subst (λ (p : List ℕ × List ℕ). Holds p c) (unmarked_holds (files seen) seen rest.unmarked refl).0 holds) is) so

-- the records of a log end within its room
pub ready_near : (end room count : ℕ) (seen : Image) (may_leave : Image → Type 0) → IsReady end room count seen may_leave → end ≤ 4000000000
ready_near end room count seen may_leave ready =
    let place = ready.file.place in
    omega (arith, ready.near, ready.long, length-drop 4096 seen.redo, ap (λ (l : List ℕ). length l) place.is, length-append place.records place.slack, place.ends)
