-- A semaphore never has more holders than permits.
use Rattle.std.proofs.Common.{ℕ, ◌≡◌, ◌≢◌, inl, inr, ◌+◌, ◌-◌, ◌<◌, ◌≤◌, ◌==◌, ◌&&◌, not, ◌^◌, refl, sym, ap, ◌∙◌, subst, List, [], ◌∷◌, cond, length, true, false, Option, Some, None, arith}
use Rattle.std.specs.List.{AllByRecursion}
use Rattle.std.specs.FinMap as map
use Rattle.std.proofs.lemmas.Bool.{eq-eqb, ne_eqb}
use Rattle.bpf_helpers.specs.Runs.{IsInput}
use Rattle.stock_programs.specs.Numbers.{with_number}
use Rattle.stock_programs.specs.Semaphore.{semaphore, holders, wanted, permits}
use Rattle.stock_programs.proofs.Permitting.{holds_permits}
use Rattle.stock_programs.proofs.NumberFacts.{fits, read_written, read_zeros}
use Rattle.stock_histories.specs.Turns.{Turn}
use Rattle.stock_histories.specs.SemaphoreLaw.{holders_in, acquired_in, released_in, NamesPermits, NeverMore}
use Rattle.stock_histories.proofs.KeyHistory.{IsGiven, RunsTo, KeyHistory, saved, is_one, unchanged, unchanged_if_short}
use Rattle.stock_histories.proofs.Projected.{projected}

-- a run gets the number of holders in the record, or 0
seen : (r : Option (List ℕ)) (given : List ℕ) → IsGiven r given → holders given ≡ holders_in r
seen r given (inl is) = ap holders_in (sym is)
seen r given (inr none) = ap holders none.1.1 ∙ read_zeros none.1.0 0 ∙ ap holders_in (sym none.0)

-- the holders after a run, and how the run counts
record Step (r' : Option (List ℕ)) (t : Turn) (before number : ℕ) : Type 0 where
  more : ℕ
  less : ℕ
  acquired : cond ((t.code == 1) && not (wanted t.argument == 0)) 1 0 ≡ more
  released : cond ((t.code == 1) && (wanted t.argument == 0)) 1 0 ≡ less
  sum : holders_in r' + less ≡ before + more
  below : holders_in r' ≤ number

written : (r' : Option (List ℕ)) (bytes : List ℕ) (n : ℕ) → r' ≡ Some (with_number bytes 0 n) → n < 2 ^ 64 → holders_in r' ≡ n
written r' bytes n is fit = ap holders_in is ∙ read_written bytes 0 n (omega arith) fit

takes : (r' : Option (List ℕ)) (t : Turn) (before number : ℕ) → t.code ≡ 1 → wanted t.argument ≢ 0 → holders_in r' ≡ before + 1 → before + 1 ≤ number → Step r' t before number
takes r' t before number one wants is below =
    let a : t.code == 1 ≡ true = eq-eqb _ _ one in
    let b : wanted t.argument == 0 ≡ false = ne_eqb _ _ wants in
    record { more = 1; less = 0; acquired = rw (a, b) refl; released = rw (a, b) refl; sum = omega arith; below = omega arith }

gives : (r' : Option (List ℕ)) (t : Turn) (before number : ℕ) → t.code ≡ 1 → wanted t.argument ≡ 0 → 0 < before → holders_in r' ≡ before - 1 → before ≤ number
    → Step r' t before number
gives r' t before number one none some is below =
    let a : t.code == 1 ≡ true = eq-eqb _ _ one in
    let b : wanted t.argument == 0 ≡ true = eq-eqb _ _ none in
    record { more = 0; less = 1; acquired = rw (a, b) refl; released = rw (a, b) refl; sum = omega arith; below = omega arith }

stays : (r' : Option (List ℕ)) (t : Turn) (before number : ℕ) → t.code == 1 ≡ false → holders_in r' ≡ before → before ≤ number → Step r' t before number
stays r' t before number a is below =
    record { more = 0; less = 0; acquired = rw a refl; released = rw a refl; sum = omega arith; below = omega arith }

one_turn : (r r' : Option (List ℕ)) (t : Turn) (number : ℕ) → RunsTo semaphore r t r' → NamesPermits number t → holders_in r ≤ number → Step r' t (holders_in r) number
one_turn r r' t number s names below =
    let i : IsInput s.given t.argument s.env = s.input in
    let is : holders s.given ≡ holders_in r = seen r s.given s.is_given in
    let most : permits t.argument ≤ number = names in
    elim (holds_permits.obeys s.given t.argument s.env s.outcome s.input s.ends) [
      | inl g ↦
          let free : holders s.given < permits t.argument = g.free in
          let limit : permits t.argument < 2 ^ 64 = fits 8 t.argument i.are_argument in
          let after : holders_in r' ≡ holders s.given + 1
          = written r' s.given (holders s.given + 1) (s.left ∙ saved r s.outcome g.code_is ∙ ap Some g.bytes_are) (omega arith) in
          takes r' t (holders_in r) number (s.code_is ∙ g.code_is) g.wants (omega arith) (omega arith)
      | inr (inl g) ↦
          let some : 0 < holders s.given = g.held in
          let limit : holders s.given < 2 ^ 64 = fits 0 s.given i.are_bytes in
          let after : holders_in r' ≡ holders s.given - 1
          = written r' s.given (holders s.given - 1) (s.left ∙ saved r s.outcome g.code_is ∙ ap Some g.bytes_are) (omega arith) in
          gives r' t (holders_in r) number (s.code_is ∙ g.code_is) g.gives (omega arith) (omega arith) below
      | inr (inr (inl g)) ↦ stays r' t (holders_in r) number (ap is_one (s.code_is ∙ g.code_is)) (ap holders_in (s.left ∙ unchanged r s.outcome g.code_is)) below
      | inr (inr (inr g)) ↦ stays r' t (holders_in r) number (ap is_one (s.code_is ∙ g.code_is)) (ap holders_in (s.left ∙ unchanged_if_short r s.outcome g.code_is)) below
    ]

all_turns : (r r' : Option (List ℕ)) (ts : List Turn) (number : ℕ) → KeyHistory semaphore r ts r' → AllByRecursion (NamesPermits number) ts → holders_in r ≤ number
    → (holders_in r' + released_in ts ≡ holders_in r + acquired_in ts) × (holders_in r' ≤ number)
all_turns r r' [] number h names below =
    let same : holders_in r' ≡ holders_in r = ap holders_in h in
    (omega arith, omega arith)
all_turns r r' (t ∷ ts) number h names below =
    let s = one_turn r h.0 t number h.1.0 names.0 below in
    let rest = all_turns h.0 r' ts number h.1.1 names.1 s.below in
    let sum : holders_in r' + released_in ts ≡ holders_in h.0 + acquired_in ts = rest.0 in
    let step : holders_in h.0 + s.less ≡ holders_in r + s.more = s.sum in
    let a : cond ((t.code == 1) && not (wanted t.argument == 0)) 1 0 ≡ s.more = s.acquired in
    let b : cond ((t.code == 1) && (wanted t.argument == 0)) 1 0 ≡ s.less = s.released in
    (omega arith, rest.1)

pub never_more : (A : Type 0) → NeverMore A
never_more A size kind m m' es key number a names below =
    all_turns (map.get m key) (map.get m' key) _ number (projected size kind m m' es key semaphore a) names below
