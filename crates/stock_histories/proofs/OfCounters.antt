-- Counters lose no run.
use Rattle.std.proofs.Common.{ℕ, suc, true, false, cond, ◌≡◌, ◌≢◌, ◌⊎◌, inl, inr, ◌+◌, ◌==◌, ◌<◌, ◌≤◌, ◌^◌, ◌%◌, refl, sym, ◌∙◌, subst, List, [], ◌∷◌, length, Option, Some, None, arith, ap}
use Rattle.std.specs.FinMap as map
use Rattle.bpf_helpers.specs.Runs.{Outcome}
use Rattle.stock_programs.specs.Numbers.{number_at, with_number}
use Rattle.stock_programs.specs.Counter.{counter}
use Rattle.stock_programs.specs.Lengths.{short_code}
use Rattle.stock_programs.proofs.Counting.{counts}
use Rattle.stock_programs.proofs.NumberFacts.{fits, read_written, read_zeros, length_written}
use Rattle.stock_histories.specs.Turns.{Turn, accepted_in, IsRecord}
use Rattle.stock_histories.specs.CounterLaw.{Shows, LosesNoRun}
use Rattle.stock_histories.proofs.KeyHistory.{IsGiven, RunsTo, KeyHistory, saved, is_one, unchanged_if_short, given_is}
use Rattle.stock_histories.proofs.Projected.{projected}

abbrev next : ℕ → ℕ
next n = (n + 1) % 2 ^ 64

once : (bytes : List ℕ) → 8 ≤ length bytes → Shows (Some (with_number bytes 0 (next (number_at 0 bytes)))) (next (number_at 0 bytes))
once bytes long = (
  omega (arith, length_written bytes 0 (next (number_at 0 bytes)) (omega arith)),
  read_written bytes 0 (next (number_at 0 bytes)) (omega arith) (omega arith),
)

-- a run gets the number of the counter
seen : (r : Option (List ℕ)) (given : List ℕ) (n : ℕ) → Shows r n → IsGiven r given → number_at 0 given ≡ n
seen r given n h (inl is) = let known : Shows (Some given) n = subst (λ (x : Option (List ℕ)). Shows x n) is h in known.1
seen r given n h (inr none) =
    let known : n ≡ 0 = subst (λ (x : Option (List ℕ)). Shows x n) none.0 h in
    ap (number_at 0) none.1.1 ∙ read_zeros none.1.0 0 ∙ sym known

-- A run either counts, or leaves the record as it was. A record of 8 bytes counts each run, and keeps its length.
record Step (r r' : Option (List ℕ)) (t : Turn) (n : ℕ) : Type 0 where
  more : ℕ
  accepted : accepted_in (t ∷ []) ≡ more
  below : more ≤ 1
  shows : Shows r' ((n + more) % 2 ^ 64)
  counts_all : (value : List ℕ) → r ≡ Some value → (more ≡ 1) × (r' ≢ None)

one_turn : (r r' : Option (List ℕ)) (t : Turn) (n : ℕ) → n < 2 ^ 64 → RunsTo counter r t r' → Shows r n → Step r r' t n
one_turn r r' t n small s h =
    elim (counts.obeys s.given t.argument s.env s.outcome s.input s.ends) [
      | inl g ↦
          let left : r' ≡ Some (with_number s.given 0 (next (number_at 0 s.given))) = s.left ∙ saved r s.outcome g.code_is ∙ ap Some g.bytes_are in
          let one : t.code == 1 ≡ true = ap is_one (s.code_is ∙ g.code_is) in
          record {
            more = 1;
            accepted = rw one refl;
            below = omega arith;
            shows = subst (λ (x : Option (List ℕ)). Shows x (next n)) (sym left)
                (subst (λ (k : ℕ). Shows (Some (with_number s.given 0 (next (number_at 0 s.given)))) (next k)) (seen r s.given n h s.is_given) (once s.given g.long.of_record));
            counts_all = λ value is. (refl, λ none. let no : None ≡ Some (with_number s.given 0 (next (number_at 0 s.given))) = sym none ∙ left in absurd cc);
          }
      | inr g ↦
          let left : r' ≡ r = s.left ∙ unchanged_if_short r s.outcome g.code_is in
          let other : t.code == 1 ≡ false = ap is_one (s.code_is ∙ g.code_is) in
          let same : n ≡ (n + 0) % 2 ^ 64 = omega arith in
          record {
            more = 0;
            accepted = rw other refl;
            below = omega arith;
            shows = subst (λ (x : Option (List ℕ)). Shows x ((n + 0) % 2 ^ 64)) (sym left) (subst (λ (k : ℕ). Shows r k) same h);
            counts_all = λ value is. absurd (never value is g.short);
          }
    ]
  where
    never : (value : List ℕ) → r ≡ Some value → (length s.given < 8) ⊎ (length t.argument < 0) → ⊥
    never value is (inl few) =
        let long : Shows (Some value) n = subst (λ (x : Option (List ℕ)). Shows x n) is h in
        let same : value ≡ s.given = given_is r value s.given is s.is_given in
        let eight : 8 ≤ length value = long.0 in
        let short : length value < 8 = subst (λ (v : List ℕ). length v < 8) (sym same) few in
        omega arith
    never value is (inr few) = omega arith

-- if the record exists, a run counts, and so do all later runs if the record then exists
every : (r r' : Option (List ℕ)) (t : Turn) (n later all : ℕ) → Step r r' t n → (r' ≢ None → later ≡ all) → (o : Option (List ℕ)) → r ≡ o → r ≢ None
    → cond (t.code == 1) 1 0 + later ≡ suc all
every r r' t n later all s rest None is some = absurd (some is)
every r r' t n later all s rest (Some value) is some =
    let one : cond (t.code == 1) 1 0 + 0 ≡ s.more = s.accepted in
    let counted = s.counts_all value is in
    let more : s.more ≡ 1 = counted.0 in
    let same : later ≡ all = rest counted.1 in
    omega arith

all_turns : (r r' : Option (List ℕ)) (ts : List Turn) (n : ℕ) → n < 2 ^ 64 → KeyHistory counter r ts r' → Shows r n
    → Shows r' ((n + accepted_in ts) % 2 ^ 64) × (r ≢ None → accepted_in ts ≡ length ts)
all_turns r r' [] n small h shows =
    let same : n ≡ (n + 0) % 2 ^ 64 = omega arith in
    (subst (λ (x : Option (List ℕ)). Shows x ((n + 0) % 2 ^ 64)) (sym h) (subst (λ (k : ℕ). Shows r k) same shows), λ some. refl)
all_turns r r' (t ∷ ts) n small h shows =
    let s = one_turn r h.0 t n small h.1.0 shows in
    let rest = all_turns h.0 r' ts ((n + s.more) % 2 ^ 64) (omega arith) h.1.1 s.shows in
    let one : cond (t.code == 1) 1 0 + 0 ≡ s.more = s.accepted in
    let same : ((n + s.more) % 2 ^ 64 + accepted_in ts) % 2 ^ 64 ≡ (n + (cond (t.code == 1) 1 0 + accepted_in ts)) % 2 ^ 64 = omega arith in
    (subst (λ (k : ℕ). Shows r' k) same rest.0, every r h.0 t n (accepted_in ts) (length ts) s rest.1 r refl)

small_start : (r : Option (List ℕ)) (n : ℕ) → IsRecord r → Shows r n → n < 2 ^ 64
small_start None n sound h = let zero_is : n ≡ 0 = h in omega arith
small_start (Some value) n sound h =
    let below : number_at 0 value < 2 ^ 64 = fits 0 value (sound value refl).0 in
    let number : number_at 0 value ≡ n = h.1 in
    omega arith

pub loses_no_run : (A : Type 0) → LosesNoRun A
loses_no_run A size kind m m' es key n a shows =
    all_turns (map.get m key) (map.get m' key) _ n (small_start (map.get m key) n a.start shows) (projected size kind m m' es key counter a) shows
