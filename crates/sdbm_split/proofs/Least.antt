-- The least number of splits, found by trying the numbers in order.
use Rattle.std.proofs.Common.{◌≡◌, ℕ, zero, suc, ◌+◌, ◌<◌, ◌≤◌, ◌&&◌, List, Bool, true, false, cond, Option, Some, None, refl, sym, ap, ◌∙◌, arith, inl, inr, ◌⊎◌}
use Rattle.std.proofs.Math.Dec.{leb}
use Rattle.std.proofs.lemmas.Bool.{leb-true, le-leb, true≢false, cases_eq}
use Rattle.sdbm_addr.specs.declared.PageSize.{PageSize}
use Rattle.sdbm_addr.specs.Pairs.{footprint, page_bytes}
use Rattle.sdbm_addr.specs.Splitting.{HasRoom, IsLeastSplits, IsCrowded, most_splits, deepest}
use Rattle.sdbm_split.specs.Planned.{first_from, makes_room, least_splits}

-- u is the first of the n numbers from t on that passes the test
pub record IsFirst (passes : ℕ → Bool) (t n u : ℕ) : Type 0 where
  pub above : t ≤ u
  pub below : u < t + n
  pub passed : passes u ≡ true
  pub none : (s : ℕ) → t ≤ s → s < u → passes s ≡ false

abbrev IsNone : (ℕ → Bool) → ℕ → ℕ → Type 0
IsNone passes t n = (s : ℕ) → t ≤ s → s < t + n → passes s ≡ false

abbrev Cases : (ℕ → Bool) → ℕ → ℕ → Option ℕ → Type 0
Cases passes t n o = ((u : ℕ) × ((o ≡ Some u) × IsFirst passes t n u)) ⊎ ((o ≡ None) × IsNone passes t n)

at_or_above : (passes : ℕ → Bool) (t : ℕ) → passes t ≡ false → (s : ℕ) → t ≤ s → ((t + 1 ≤ s) → passes s ≡ false) → passes s ≡ false
at_or_above passes t fails s l later = elim (cases_eq s t) [
  | inl same ↦ ap passes same ∙ fails
  | inr other ↦ later (omega arith)
]

first_from-cases : (passes : ℕ → Bool) (t n : ℕ) → Cases passes t n (first_from passes t n)
unfolding first_from
first_from-cases passes t zero = inr (refl, λ s l b. absurd (omega arith))
first_from-cases passes t (suc n) = at (passes t) refl (first_from-cases passes (t + 1) n)
  where
    at : (b : Bool) → passes t ≡ b → Cases passes (t + 1) n (first_from passes (t + 1) n) → Cases passes t (suc n) (cond b (Some t) (first_from passes (t + 1) n))
    at true is rest = inl (t, (refl, record { above = omega arith; below = omega arith; passed = is; none = λ s l b. absurd (omega arith) }))
    at false is (inl rest) =
        let f = rest.1.1 in
        let above = f.above in
        let below = f.below in
        inl (rest.0, (rest.1.0, record { above = omega arith; below = omega arith; passed = f.passed; none = λ s l b. at_or_above passes t is s l (λ m. f.none s m b) }))
    at false is (inr rest) = inr (rest.0, λ s l b. at_or_above passes t is s l (λ m. rest.1 s m (omega arith)))

-- ---- room

both_true : (a b : Bool) → (a && b) ≡ true → (a ≡ true) × (b ≡ true)
both_true true b h = (refl, h)
both_true false b h = absurd (true≢false (sym h))

pub room_there : (size : PageSize) (taken : ℕ → ℕ) (key value : List ℕ) (h t : ℕ) → makes_room size taken key value h t ≡ true → (h + t ≤ deepest) × HasRoom size taken key value (h + t)
room_there size taken key value h t is =
    let parts = both_true (leb (h + t) deepest) (leb (taken (h + t) + footprint (key, value) + 2) (page_bytes size)) is in
    (leb-true (h + t) deepest parts.0, leb-true (taken (h + t) + footprint (key, value) + 2) (page_bytes size) parts.1)

pub room_seen : (size : PageSize) (taken : ℕ → ℕ) (key value : List ℕ) (h t : ℕ) → h + t ≤ deepest → HasRoom size taken key value (h + t) → makes_room size taken key value h t ≡ true
room_seen size taken key value h t deep room =
    ap (λ b. b && leb (taken (h + t) + footprint (key, value) + 2) (page_bytes size)) (le-leb (h + t) deepest deep) ∙ le-leb (taken (h + t) + footprint (key, value) + 2) (page_bytes size) room

no_room_there : (size : PageSize) (taken : ℕ → ℕ) (key value : List ℕ) (h t : ℕ) → makes_room size taken key value h t ≡ false → h + t ≤ deepest → HasRoom size taken key value (h + t) → ⊥
no_room_there size taken key value h t fails deep room = true≢false (sym (room_seen size taken key value h t deep room) ∙ fails)

-- the result is the least number of splits, or no number makes room
pub least_splits-cases : (size : PageSize) (taken : ℕ → ℕ) (key value : List ℕ) (h : ℕ)
    → ((t : ℕ) × ((least_splits size taken key value h ≡ Some t) × IsLeastSplits size taken key value h t)) ⊎ ((least_splits size taken key value h ≡ None) × IsCrowded size taken key value h)
least_splits-cases size taken key value h = at (first_from-cases (makes_room size taken key value h) 0 (most_splits + 1))
  where
    at : Cases (makes_room size taken key value h) 0 (most_splits + 1) (least_splits size taken key value h)
        → ((t : ℕ) × ((least_splits size taken key value h ≡ Some t) × IsLeastSplits size taken key value h t)) ⊎ ((least_splits size taken key value h ≡ None) × IsCrowded size taken key value h)
    at (inl some) =
        let f = some.1.1 in
        let below = f.below in
        let room = room_there size taken key value h some.0 f.passed in
        inl (
          some.0,
          (
            some.1.0,
            record {
              few = omega arith;
              not_deep = room.0;
              room = room.1;
              least = λ s b. no_room_there size taken key value h s (f.none s (omega arith) b) (let deep = room.0 in omega arith);
            },
          ),
        )
    at (inr none) = inr (none.0, λ t few deep. no_room_there size taken key value h t (none.1 t (omega arith) (omega arith)) deep)

abbrev not_both : (size : PageSize) (taken : ℕ → ℕ) (key value : List ℕ) (h t : ℕ) → IsLeastSplits size taken key value h t → IsCrowded size taken key value h → ⊥
not_both size taken key value h t least crowded = crowded t least.few least.not_deep least.room

pub least_splits-Some : (size : PageSize) (taken : ℕ → ℕ) (key value : List ℕ) (h t : ℕ) → IsLeastSplits size taken key value h t → least_splits size taken key value h ≡ Some t
least_splits-Some size taken key value h t least = at (least_splits-cases size taken key value h)
  where
    same : (u : ℕ) → IsLeastSplits size taken key value h u → (u < t → ⊥) → (t < u → ⊥) → u ≡ t
    same u l not_less not_more = elim (cases_eq u t) [ inl e ↦ e | inr other ↦ absurd (apart u not_less not_more other) ]
      where
        apart : (u : ℕ) → (u < t → ⊥) → (t < u → ⊥) → (u ≡ t → ⊥) → ⊥
        apart u a b c = c (omega arith)

    at : ((u : ℕ) × ((least_splits size taken key value h ≡ Some u) × IsLeastSplits size taken key value h u)) ⊎ ((least_splits size taken key value h ≡ None) × IsCrowded size taken key value h)
        → least_splits size taken key value h ≡ Some t
    at (inl some) = some.1.0 ∙ ap (λ (n : ℕ). Some n) (same some.0 some.1.1 (λ less. least.least some.0 less some.1.1.room) (λ more. some.1.1.least t more least.room))
    at (inr none) = absurd (not_both size taken key value h t least none.1)

pub least_splits-None : (size : PageSize) (taken : ℕ → ℕ) (key value : List ℕ) (h : ℕ) → IsCrowded size taken key value h → least_splits size taken key value h ≡ None
least_splits-None size taken key value h crowded = at (least_splits-cases size taken key value h)
  where
    at : ((u : ℕ) × ((least_splits size taken key value h ≡ Some u) × IsLeastSplits size taken key value h u)) ⊎ ((least_splits size taken key value h ≡ None) × IsCrowded size taken key value h)
        → least_splits size taken key value h ≡ None
    at (inl some) = absurd (not_both size taken key value h some.0 some.1.1 crowded)
    at (inr none) = none.0
