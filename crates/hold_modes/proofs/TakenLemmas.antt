-- Look-ups by ticket agree with look-ups in the list of holds.
use Rattle.std.proofs.Common.{◌≡◌, ℕ, ◌-◌, ◌≤◌, true, false, List, [], ◌∷◌, ◌++◌, refl, sym, ap, ◌∙◌, arith, Some, None, length, map}
use Rattle.std.specs.Prelude.{if◌then◌else◌, nat_eq}
use Rattle.std.specs.List.{list_any}
use Rattle.std.proofs.lemmas.List.{take_all}
use Rattle.std.specs.Map.{lookup, lookup_entry, remove_entry, set_value}
use Rattle.lru.specs.LruCache.{LruCache, put_entries, demoted}
use Rattle.hold_modes.specs.declared.modes.Hold.{Hold}
use Rattle.hold_modes.specs.declared.modes.Hold.TheVariants.{Exclusive}
use Rattle.hold_modes.specs.declared.modes.Ticket.{Ticket}
use Rattle.hold_modes.specs.Held.{is_of, held_by, without, made_exclusive}
use Rattle.hold_modes.specs.HoldQueue.{held_of}
use Rattle.hold_modes.proofs.HeldLemmas.{eq_comm, or_false_l, or_false_r}

-- testing the ticket of an entry is testing the ticket of the hold
test_is : (t : Ticket) (e : ℕ × (ℕ × Hold)) → is_of t (held_of e) ≡ nat_eq t.0 e.0
test_is t e = eq_comm e.0 t.0

pub held_by-held_of : (t : Ticket) (es : List (ℕ × (ℕ × Hold))) → held_by t (map held_of es) ≡ lookup (nat_eq t.0) es
held_by-held_of t [] = refl
held_by-held_of t (e ∷ es) = rw (test_is t e, held_by-held_of t es) refl

pub without-held_of : (t : Ticket) (es : List (ℕ × (ℕ × Hold))) → map held_of (remove_entry (nat_eq t.0) es) ≡ without t (map held_of es)
without-held_of t [] = refl
without-held_of t (e ∷ es) = rw (test_is t e) (elim (nat_eq t.0 e.0) as (λ b. map held_of (if b then es else e ∷ remove_entry (nat_eq t.0) es) ≡ (if b then map held_of es else held_of e ∷ without t (map held_of es))) [
  | true ↦ refl
  | false ↦ ap (λ hs. held_of e ∷ hs) (without-held_of t es)
])

-- writing a found entry back with another mode
pub made-held_of : (t : Ticket) (es : List (ℕ × (ℕ × Hold))) (h : ℕ × Hold) → lookup (nat_eq t.0) es ≡ Some h → map held_of (set_value (nat_eq t.0) es (h.0, Exclusive)) ≡ made_exclusive t (map held_of es)
made-held_of t [] h l = cc
made-held_of t (e ∷ es) h l = rw (test_is t e) ((elim (nat_eq t.0 e.0) as (λ b. (if b then Some e.1 else lookup (nat_eq t.0) es) ≡ Some h → map held_of (if b then (e.0, (h.0, Exclusive)) ∷ es else e ∷ set_value (nat_eq t.0) es (h.0, Exclusive)) ≡ (if b then record (held_of e) { mode = Exclusive } ∷ map held_of es else held_of e ∷ made_exclusive t (map held_of es))) [
  | true ↦ λ y. let same : h ≡ e.1 = cc in ap (λ (k : ℕ × Hold). held_of (e.0, (k.0, Exclusive)) ∷ map held_of es) same
  | false ↦ λ y. ap (λ hs. held_of e ∷ hs) (made-held_of t es h y)
]) l)

pub made-none : (t : Ticket) (es : List (ℕ × (ℕ × Hold))) → lookup (nat_eq t.0) es ≡ None → map held_of es ≡ made_exclusive t (map held_of es)
made-none t [] l = refl
made-none t (e ∷ es) l = rw (test_is t e) ((elim (nat_eq t.0 e.0) as (λ b. (if b then Some e.1 else lookup (nat_eq t.0) es) ≡ None → map held_of (e ∷ es) ≡ (if b then record (held_of e) { mode = Exclusive } ∷ map held_of es else held_of e ∷ made_exclusive t (map held_of es))) [
  | true ↦ λ y. cc
  | false ↦ λ y. ap (λ hs. held_of e ∷ hs) (made-none t es y)
]) l)

-- a ticket that holds nothing has no entry
pub absent-held_of : (t : Ticket) (es : List (ℕ × (ℕ × Hold))) → list_any (is_of t) (map held_of es) ≡ false → lookup (nat_eq t.0) es ≡ None
absent-held_of t [] n = refl
absent-held_of t (e ∷ es) n =
    let here : nat_eq t.0 e.0 ≡ false = sym (test_is t e) ∙ or_false_l (is_of t (held_of e)) (list_any (is_of t) (map held_of es)) n in
    rw here (absent-held_of t es (or_false_r (is_of t (held_of e)) (list_any (is_of t) (map held_of es)) n))

pub push-held_of : (es : List (ℕ × (ℕ × Hold))) (e : ℕ × (ℕ × Hold)) → map held_of (es ++ e ∷ []) ≡ map held_of es ++ held_of e ∷ []
push-held_of [] e = refl
push-held_of (x ∷ es) e = ap (λ hs. held_of x ∷ hs) (push-held_of es e)

no_entry : (k : ℕ) (es : List (ℕ × (ℕ × Hold))) → lookup (nat_eq k) es ≡ None → lookup_entry (nat_eq k) es ≡ None
no_entry k [] l = refl
no_entry k (e ∷ es) l = (elim (nat_eq k e.0) as (λ b. (if b then Some e.1 else lookup (nat_eq k) es) ≡ None → (if b then Some e else lookup_entry (nat_eq k) es) ≡ None) [
  | true ↦ λ y. cc
  | false ↦ λ y. no_entry k es y
]) l

self_eq : (k : ℕ) → nat_eq k k ≡ true
self_eq k = grind arith

-- putting a new entry and demoting it appends it to the entries
pub put_last : (c : LruCache ℕ (ℕ × Hold)) (k : ℕ) (v : ℕ × Hold) → lookup (nat_eq k) c.entries ≡ None → length c.entries ≤ c.cap - 1 → demoted (nat_eq k) (put_entries nat_eq c k v) ≡ c.entries ++ (k, v) ∷ []
put_last c k v l n = rw (no_entry k c.entries l, self_eq k) (ap (λ es. es ++ (k, v) ∷ []) (take_all (c.cap - 1) c.entries n))
