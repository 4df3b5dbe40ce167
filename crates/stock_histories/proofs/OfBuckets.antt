-- The costs taken from a token bucket are at most its capacity plus the inflow: the record has the time at which it is full.
use Rattle.std.proofs.Common.{ℕ, ◌≡◌, inl, inr, ◌+◌, ◌-◌, ◌<◌, ◌≤◌, ◌==◌, ◌^◌, refl, sym, ap, ◌∙◌, subst, List, [], ◌∷◌, ◌++◌, cond, false, length, Option, Some, arith}
use Rattle.std.specs.List.{AllByRecursion}
use Rattle.std.specs.FinMap as map
use Rattle.stock_programs.specs.Numbers.{with_number}
use Rattle.stock_programs.specs.TokenBucket.{token_bucket, full_at, cost, capacity, start_at, Pours}
use Rattle.stock_programs.proofs.Pouring.{pours_out}
use Rattle.stock_programs.proofs.NumberFacts.{read_written}
use Rattle.stock_histories.specs.Turns.{Turn, NeverFalls}
use Rattle.stock_histories.specs.BucketLaw.{NamesCapacity, poured_in, PoursAtMost}
use Rattle.stock_histories.proofs.KeyHistory.{RunsTo, KeyHistory, halves, times_after, saved, is_one, unchanged, unchanged_if_short, given_is}
use Rattle.stock_histories.proofs.Projected.{cut_at}
use Rattle.stock_histories.proofs.OfLimits.{names_after, names_before, times_before}

-- The record's bucket is full at this time, which is not further ahead than the capacity.
record Fills (r : Option (List ℕ)) (full from room : ℕ) : Type 0 where
  value : List ℕ
  is : r ≡ Some value
  full_is : full_at value ≡ full
  near : full ≤ from + room

obeyed : (r r' : Option (List ℕ)) (t : Turn) (s : RunsTo token_bucket r t r') → Pours s.given t.argument s.env s.outcome
obeyed r r' t s = pours_out.obeys s.given t.argument s.env s.outcome s.input s.ends

written : (r' : Option (List ℕ)) (bytes : List ℕ) (n now room : ℕ) → r' ≡ Some (with_number bytes 0 n) → n < 2 ^ 64 → n ≤ now + room → Fills r' n now room
written r' bytes n now room is fit near = record { value = with_number bytes 0 n; is = is; full_is = read_written bytes 0 n (omega arith) fit; near = near }

-- the time at which the bucket is full after a run that takes a cost
record Pour (r' : Option (List ℕ)) (t : Turn) (low room : ℕ) : Type 0 where
  full : ℕ
  fills : Fills r' full t.now room
  more : low + cost t.argument ≤ full

first_pour : (r r' : Option (List ℕ)) (t : Turn) (room : ℕ) → RunsTo token_bucket r t r' → NamesCapacity room t → t.code ≡ 1 → Pour r' t t.now room
first_pour r r' t room s names one =
    let code_is : t.code ≡ s.outcome.code = s.code_is in
    let now_is : s.env.now ≡ t.now = s.now_is in
    let room_is : capacity t.argument ≡ room = names in
    elim (obeyed r r' t s) [
      | inl g ↦
          let enough : start_at s.given s.env.now + cost t.argument ≤ s.env.now + capacity t.argument = g.enough in
          record {
            full = start_at s.given s.env.now + cost t.argument;
            fills = written r' s.given (start_at s.given s.env.now + cost t.argument) t.now room (s.left ∙ saved r s.outcome g.code_is ∙ ap Some g.bytes_are) g.small (omega arith);
            more = omega arith;
          }
      | inr (inl g) ↦ let c : s.outcome.code ≡ 0 = g.code_is in absurd (omega arith)
      | inr (inr (inl g)) ↦ let c : s.outcome.code ≡ 0 = g.code_is in absurd (omega arith)
      | inr (inr (inr g)) ↦ let c : s.outcome.code ≡ 4 = g.code_is in absurd (omega arith)
    ]

-- a run takes its cost, or the bucket is unchanged
record Step (r' : Option (List ℕ)) (t : Turn) (full room : ℕ) : Type 0 where
  next : ℕ
  taken : ℕ
  takes : cond (t.code == 1) (cost t.argument) 0 ≡ taken
  fills : Fills r' next t.now room
  more : full + taken ≤ next

refused : (r r' : Option (List ℕ)) (t : Turn) (full from room : ℕ) → t.code == 1 ≡ false → r' ≡ r → from ≤ t.now → Fills r full from room → Step r' t full room
refused r r' t full from room other same late f =
    let near : full ≤ from + room = f.near in
    record {
      next = full;
      taken = 0;
      takes = rw other refl;
      fills = record { value = f.value; is = same ∙ f.is; full_is = f.full_is; near = omega arith };
      more = omega arith;
    }

one_turn : (r r' : Option (List ℕ)) (t : Turn) (full from room : ℕ) → RunsTo token_bucket r t r' → NamesCapacity room t → from ≤ t.now → Fills r full from room → Step r' t full room
one_turn r r' t full from room s names late f =
    let now_is : s.env.now ≡ t.now = s.now_is in
    let room_is : capacity t.argument ≡ room = names in
    let near : full ≤ from + room = f.near in
    let is : full_at s.given ≡ full = ap full_at (sym (given_is r f.value s.given f.is s.is_given)) ∙ f.full_is in
    elim (obeyed r r' t s) [
      | inl g ↦
          let one : t.code ≡ 1 = s.code_is ∙ g.code_is in
          let enough : start_at s.given s.env.now + cost t.argument ≤ s.env.now + capacity t.argument = g.enough in
          record {
            next = start_at s.given s.env.now + cost t.argument;
            taken = cost t.argument;
            takes = rw one refl;
            fills = written r' s.given (start_at s.given s.env.now + cost t.argument) t.now room (s.left ∙ saved r s.outcome g.code_is ∙ ap Some g.bytes_are) g.small (omega arith);
            more = omega arith;
          }
      | inr (inl g) ↦ refused r r' t full from room (ap is_one (s.code_is ∙ g.code_is)) (s.left ∙ unchanged r s.outcome g.code_is) late f
      | inr (inr (inl g)) ↦ refused r r' t full from room (ap is_one (s.code_is ∙ g.code_is)) (s.left ∙ unchanged r s.outcome g.code_is) late f
      | inr (inr (inr g)) ↦ refused r r' t full from room (ap is_one (s.code_is ∙ g.code_is)) (s.left ∙ unchanged_if_short r s.outcome g.code_is) late f
    ]

all_turns : (r r' : Option (List ℕ)) (ts : List Turn) (full from room end : ℕ) → KeyHistory token_bucket r ts r' → AllByRecursion (NamesCapacity room) ts
    → NeverFalls from ts → from ≤ end → AllByRecursion (λ (t : Turn). t.now ≤ end) ts → Fills r full from room → full + poured_in ts ≤ end + room
all_turns r r' [] full from room end h names times early before f = let near : full ≤ from + room = f.near in omega arith
all_turns r r' (t ∷ ts) full from room end h names times early before f =
    let s = one_turn r h.0 t full from room h.1.0 names.0 times.0 f in
    let rest = all_turns h.0 r' ts s.next t.now room end h.1.1 names.1 times.1 before.0 before.1 s.fills in
    let takes : cond (t.code == 1) (cost t.argument) 0 ≡ s.taken = s.takes in
    let more : full + s.taken ≤ s.next = s.more in
    let sum : s.next + poured_in ts ≤ end + room = rest in
    omega arith

pub pours_at_most : (A : Type 0) → PoursAtMost A
pours_at_most A size kind m m' es key room end a times names before during after first turns one early within =
    let c = cut_at size kind m m' es key token_bucket a before (during ++ after) first turns in
    let named = names_after (NamesCapacity room) before (first ∷ (during ++ after)) (subst (λ (ts : List Turn). AllByRecursion (NamesCapacity room) ts) turns names) in
    let timed = times_after 0 before first (during ++ after) (subst (λ (ts : List Turn). NeverFalls 0 ts) turns times) in
    let rest = halves token_bucket c.after_first (map.get m' key) during after c.goes_on in
    let p = first_pour c.at_first c.after_first first room c.runs named.0 one in
    let more : first.now + cost first.argument ≤ p.full = p.more in
    let sum = all_turns c.after_first rest.0 during p.full first.now room end rest.1.0 (names_before (NamesCapacity room) during after named.1)
    (times_before first.now during after timed) early within p.fills in
    let total : p.full + poured_in during ≤ end + room = sum in
    omega arith
