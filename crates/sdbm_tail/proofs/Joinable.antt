-- Plans that can be joined, and the length of the joined plan.
use Rattle.std.proofs.Common.{◌≡◌, ◌≢◌, zero, suc, refl, ◌+◌, ◌-◌, ◌≤◌, ℕ, List, length, take, drop, ◌∙◌, arith, length-drop, length-append}
use Rattle.std.proofs.lemmas.List.{length-take-le}
use Rattle.sdbm_saves.specs.Disk.{written}
use Rattle.sdbm_saves.specs.Drafts.{spelled}
use Rattle.sdbm_saves.specs.Redo.{data_file, count_of, changes_of, old_length, new_length}
use Rattle.sdbm_saves.proofs.Lists.{length-written}
use Rattle.sdbm_log.specs.Log.{joined, next_plan, CanFollow, Grows}
use Rattle.sdbm_tail.specs.Tail.{GrowsTo}

pub length_joined : (first next : List ℕ) → 28 ≤ length first → 28 ≤ length next → length (joined first next) ≡ length first + (length next - 28)
length_joined first next head other =
    let counted : List ℕ = written 24 (spelled (count_of first + count_of next)) first in
    let eight : length (take 8 (drop 8 next)) ≡ 8 = length-take-le 8 (drop 8 next) (omega (arith, length-drop 8 next)) in
    let same : length counted ≡ length first = length-written 24 (spelled (count_of first + count_of next)) first (omega arith) in
    let long : length (written 8 (take 8 (drop 8 next)) counted) ≡ length counted = length-written 8 (take 8 (drop 8 next)) counted (omega arith) in
    length-append (written 8 (take 8 (drop 8 next)) counted) (changes_of next) ∙ omega (arith, long, same, length-drop 28 next)

pub grows_to : (first next : List ℕ) → Grows first next → GrowsTo first next
grows_to first next g = record {
  old_pages = g.so_far 0;
  old_directory = g.so_far 1;
  new_pages = g.on 0;
  new_directory = g.on 1;
  few = g.few;
}

pub can_grow : (len : ℕ) (first next : List ℕ) → len ≢ 0 → CanFollow len first next → GrowsTo first next
can_grow zero first next some follows = absurd (some refl)
can_grow (suc n) first next some follows = grows_to first next follows

-- the length of the plan `next`, joined with an earlier plan
pub next_long : (len : ℕ) (first next : List ℕ) → len ≢ 0 → 28 ≤ length first → 28 ≤ length next → length (next_plan len first next) ≡ length first + (length next - 28)
next_long zero first next some head other = absurd (some refl)
next_long (suc n) first next some head other = length_joined first next head other

-- a plan that grows may follow any number of plans
pub follows_by : (len : ℕ) (first next : List ℕ) → GrowsTo first next → CanFollow len first next
follows_by zero first next g = tt
follows_by (suc n) first next g = record { so_far = so_far; on = on; few = g.few }
  where
    so_far : (file : ℕ) → old_length (data_file file) first ≤ new_length (data_file file) first
    so_far zero = g.old_pages
    so_far (suc file) = g.old_directory

    on : (file : ℕ) → new_length (data_file file) first ≤ new_length (data_file file) next
    on zero = g.new_pages
    on (suc file) = g.new_directory
