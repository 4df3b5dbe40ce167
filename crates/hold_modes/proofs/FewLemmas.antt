-- Laws of a few holds, searched one after another.
use Rattle.std.proofs.Common.{◌≡◌, ℕ, suc, zero, ◌+◌, ◌<◌, Bool, true, false, ◌||◌, List, [], ◌∷◌, refl, sym, ap, ◌∙◌, arith, length, Some, None, take}
use Rattle.std.specs.Prelude.{cond, slice_index_or, slice_set}
use Rattle.std.specs.List.{list_any, position, position_from, remove}
use Rattle.std.proofs.lemmas.List.Quantifiers.{position-Some}
use Rattle.std.proofs.lemmas.Iterator.Adapters.{position_from-zero}
use Rattle.hold_modes.specs.declared.modes.Hold.TheVariants.{Exclusive}
use Rattle.hold_modes.specs.declared.modes.Ticket.{Ticket}
use Rattle.hold_modes.specs.declared.modes.Held.{Held}
use Rattle.hold_modes.specs.Held.{bars, is_of, held_by, without, made_exclusive, obeys_rule, page_of}
use Rattle.hold_modes.proofs.HeldLemmas.{bars_comm, is_of_comm, or_false_l, or_false_r, either_false, obeys_parts}

-- the first hold of the ticket is at place i
abbrev pub IsFirst : Ticket → List Held → ℕ → Held → Type 0
IsFirst t hs i d = (i < length hs) × (is_of t (slice_index_or hs i d) ≡ true) × ((k : ℕ) → k < i → is_of t (slice_index_or hs k d) ≡ false)

pub first : (t : Ticket) (hs : List Held) (i : ℕ) (d : Held) → position (is_of t) hs ≡ Some i → IsFirst t hs i d
first t hs i d h = position-Some (is_of t) hs i d h

next : (t : Ticket) (x : Held) (xs : List Held) (i : ℕ) (d : Held) → IsFirst t (x ∷ xs) (suc i) d → IsFirst t xs i d
next t x xs i d f = (omega (arith, f.0), f.1, λ k lt. f.2 (suc k) (omega (arith, lt)))

pub held_by-first : (t : Ticket) (hs : List Held) (i : ℕ) (d : Held) → IsFirst t hs i d → held_by t hs ≡ Some ((slice_index_or hs i d).page, (slice_index_or hs i d).mode)
held_by-first t [] i d f = absurd (omega (arith, f.0))
held_by-first t (x ∷ xs) zero d f = rw f.1 refl
held_by-first t (x ∷ xs) (suc i) d f = rw (f.2 zero (omega arith)) (held_by-first t xs i d (next t x xs i d f))

pub page_of-first : (t : Ticket) (hs : List Held) (i : ℕ) (d : Held) → IsFirst t hs i d → page_of t hs ≡ (slice_index_or hs i d).page
page_of-first t [] i d f = absurd (omega (arith, f.0))
page_of-first t (x ∷ xs) zero d f = rw f.1 refl
page_of-first t (x ∷ xs) (suc i) d f = rw (f.2 zero (omega arith)) (page_of-first t xs i d (next t x xs i d f))

pub without-first : (t : Ticket) (hs : List Held) (i : ℕ) (d : Held) → IsFirst t hs i d → remove hs i ≡ without t hs
without-first t [] i d f = absurd (omega (arith, f.0))
without-first t (x ∷ xs) zero d f = rw f.1 refl
without-first t (x ∷ xs) (suc i) d f = rw (f.2 zero (omega arith)) (ap (λ hs. x ∷ hs) (without-first t xs i d (next t x xs i d f)))

pub made-first : (t : Ticket) (hs : List Held) (i : ℕ) (d : Held) → IsFirst t hs i d → slice_set hs i (record (slice_index_or hs i d) { mode = Exclusive }) ≡ made_exclusive t hs
made-first t [] i d f = absurd (omega (arith, f.0))
made-first t (x ∷ xs) zero d f = rw f.1 refl
made-first t (x ∷ xs) (suc i) d f = rw (f.2 zero (omega arith)) (ap (λ hs. x ∷ hs) (made-first t xs i d (next t x xs i d f)))

-- if no place is found, the ticket holds nothing
none_from : (t : Ticket) (n : ℕ) (hs : List Held) → position_from (is_of t) n hs ≡ None → list_any (is_of t) hs ≡ false
none_from t n [] h = refl
none_from t n (x ∷ xs) h =
    (elim (is_of t x) as (λ b. cond b (Some n) (position_from (is_of t) (n + 1) xs) ≡ None → (b || list_any (is_of t) xs) ≡ false) [
      | true ↦ λ y. absurd cc
      | false ↦ λ y. none_from t (n + 1) xs y
    ]) h

pub none : (t : Ticket) (hs : List Held) → position (is_of t) hs ≡ None → list_any (is_of t) hs ≡ false
none t hs h = none_from t 0 hs (sym (position_from-zero (is_of t) hs) ∙ h)

-- a test that fails for all holds fails for the hold at a place
none_at : (p : Held → Bool) (hs : List Held) (i : ℕ) (d : Held) → i < length hs → list_any p hs ≡ false → p (slice_index_or hs i d) ≡ false
none_at p [] i d lt n = absurd (omega (arith, lt))
none_at p (x ∷ xs) zero d lt n = or_false_l (p x) (list_any p xs) n
none_at p (x ∷ xs) (suc i) d lt n = none_at p xs i d (omega (arith, lt)) (or_false_r (p x) (list_any p xs) n)

-- In holds that obey the rule, no hold before a place has the same ticket or bars its mode.
pub none_before : (hs : List Held) (i : ℕ) (d : Held) → i < length hs → obeys_rule hs ≡ true
    → (list_any (is_of (slice_index_or hs i d).ticket) (take i hs) ≡ false) × (list_any (bars (slice_index_or hs i d).page (slice_index_or hs i d).mode) (take i hs) ≡ false)
none_before [] i d lt o = absurd (omega (arith, lt))
none_before (x ∷ xs) zero d lt o = (refl, refl)
none_before (x ∷ xs) (suc i) d lt o =
    let p = obeys_parts x xs o in
    let h = slice_index_or xs i d in
    let lt' : i < length xs = omega (arith, lt) in
    let rest = none_before xs i d lt' p.2 in (
      either_false (is_of h.ticket x) (list_any (is_of h.ticket) (take i xs)) (is_of_comm h x ∙ none_at (is_of x.ticket) xs i d lt' p.1) rest.0,
      either_false (bars h.page h.mode x) (list_any (bars h.page h.mode) (take i xs)) (bars_comm h x ∙ none_at (bars x.page x.mode) xs i d lt' p.0) rest.1,
    )
