-- A window admits at most the named number of runs: the record counts the admitted runs.
use Rattle.std.proofs.Common.{ℕ, ◌≡◌, inl, inr, ◌+◌, ◌-◌, ◌<◌, ◌≤◌, ◌==◌, ◌^◌, refl, sym, ap, ◌∙◌, subst, List, [], ◌∷◌, ◌++◌, replicate, length, cond, false, Option, Some, None, arith}
use Rattle.std.specs.List.{AllByRecursion}
use Rattle.std.specs.FinMap as map
use Rattle.std.proofs.lemmas.Option.{same_Some}
use Rattle.bpf_helpers.specs.Runs.{IsInput}
use Rattle.stock_programs.specs.Numbers.{with_number}
use Rattle.stock_programs.specs.RateLimit.{rate_limit, began, admitted, window, most, Limits, Lasts, IsOver}
use Rattle.stock_programs.proofs.Limiting.{limits}
use Rattle.stock_programs.proofs.NumberFacts.{fits, read_written, read_before, read_zeros, length_written}
use Rattle.stock_histories.specs.Turns.{Turn, accepted_in, NeverFalls}
use Rattle.stock_histories.specs.LimitLaw.{Names, HasBegun, BeginsWindow, AdmitsAtMost}
use Rattle.stock_histories.proofs.KeyHistory.{IsGiven, RunsTo, KeyHistory, halves, times_after, kept, saved, is_one, unchanged, unchanged_if_short, given_is}
use Rattle.stock_histories.proofs.Projected.{cut_at}

-- The record has a window that began at this time, and has admitted this number of runs.
record Window (r : Option (List ℕ)) (start count : ℕ) : Type 0 where
  value : List ℕ
  is : r ≡ Some value
  began_is : began value ≡ start
  admitted_is : admitted value ≡ count

obeyed : (r r' : Option (List ℕ)) (t : Turn) (s : RunsTo rate_limit r t r') → Limits s.given t.argument s.env s.outcome
obeyed r r' t s = limits.obeys s.given t.argument s.env s.outcome s.input s.ends

-- ---- the record after a run that is admitted

one_more : (r' : Option (List ℕ)) (bytes : List ℕ) (n : ℕ) → r' ≡ Some (with_number bytes 8 n) → 16 ≤ length bytes → n < 2 ^ 64 → Window r' (began bytes) n
one_more r' bytes n is long fit = record {
  value = with_number bytes 8 n;
  is = is;
  began_is = read_before bytes 8 0 n (omega arith) (omega arith);
  admitted_is = read_written bytes 8 n (omega arith) fit;
}

first_one : (r' : Option (List ℕ)) (bytes : List ℕ) (now : ℕ) → r' ≡ Some (with_number (with_number bytes 0 now) 8 1) → 16 ≤ length bytes → now < 2 ^ 64 → Window r' now 1
first_one r' bytes now is long fit =
    let same : length (with_number bytes 0 now) ≡ length bytes = length_written bytes 0 now (omega arith) in
    record {
      value = with_number (with_number bytes 0 now) 8 1;
      is = is;
      began_is = read_before (with_number bytes 0 now) 8 0 1 (omega arith) (omega arith) ∙ read_written bytes 0 now (omega arith) fit;
      admitted_is = read_written (with_number bytes 0 now) 8 1 (omega arith) (omega arith);
    }

-- ---- each record that the program wrote has begun

begun : (r' : Option (List ℕ)) (start count : ℕ) → Window r' start count → 1 ≤ count → HasBegun r'
begun r' start count w some value is =
    let same : w.value ≡ value = same_Some _ _ (sym w.is ∙ is) in
    let number : admitted value ≡ count = ap admitted (sym same) ∙ w.admitted_is in
    omega arith

stays_begun : (r r' : Option (List ℕ)) (t : Turn) → RunsTo rate_limit r t r' → HasBegun r → HasBegun r'
stays_begun r r' t s h =
    let i : IsInput s.given t.argument s.env = s.input in
    elim (obeyed r r' t s) [
      | inl g ↦
          let below : admitted s.given < most t.argument = g.below in
          begun r' (began s.given) (admitted s.given + 1)
          (one_more r' s.given (admitted s.given + 1) (s.left ∙ saved r s.outcome g.code_is ∙ ap Some g.bytes_are) g.long.of_record
          (omega (arith, fits 8 t.argument i.are_argument))) (omega arith)
      | inr (inl g) ↦ begun r' s.env.now 1 (first_one r' s.given s.env.now (s.left ∙ saved r s.outcome g.code_is ∙ ap Some g.bytes_are) g.long.of_record i.now_fits) (omega arith)
      | inr (inr (inl g)) ↦ subst (λ (x : Option (List ℕ)). HasBegun x) (sym (s.left ∙ unchanged r s.outcome g.code_is)) h
      | inr (inr (inr (inl g))) ↦ subst (λ (x : Option (List ℕ)). HasBegun x) (sym (s.left ∙ unchanged r s.outcome g.code_is)) h
      | inr (inr (inr (inr g))) ↦ subst (λ (x : Option (List ℕ)). HasBegun x) (sym (s.left ∙ unchanged_if_short r s.outcome g.code_is)) h
    ]

-- ---- the first run of a window

-- once the time is at least the window length, a run in a lasting window is not its first
not_first : (r : Option (List ℕ)) (given argument : List ℕ) (now word length number : ℕ) → HasBegun r → IsGiven r given → window argument ≡ length
    → most argument ≡ number → length ≤ now → Lasts given argument now → admitted given < most argument → word ≡ most argument - (admitted given + 1) → word + 1 ≡ number → ⊥
not_first r given argument now word length number h (inl is) w n late lasts below word_is first = let some : 1 ≤ admitted given = h given is in omega arith
not_first r given argument now word length number h (inr none) w n late lasts below word_is first =
    let zero : began given ≡ 0 = ap began none.1.1 ∙ read_zeros none.1.0 0 in
    let within : now - began given < window argument = lasts.within in
    omega arith

opens : (r r' : Option (List ℕ)) (t : Turn) (length number : ℕ) → RunsTo rate_limit r t r' → HasBegun r → Names length number t → BeginsWindow number t → length ≤ t.now → Window r' t.now 1
opens r r' t length number s h names begins late =
    let i : IsInput s.given t.argument s.env = s.input in
    let code_is : t.code ≡ s.outcome.code = s.code_is in
    let one : t.code ≡ 1 = begins.0 in
    let now_is : s.env.now ≡ t.now = s.now_is in
    elim (obeyed r r' t s) [
      | inl g ↦
          absurd (not_first r s.given t.argument s.env.now t.word length number h s.is_given names.0 names.1 (omega arith) g.lasts g.below (s.word_is ∙ g.word_is) begins.1)
      | inr (inl g) ↦
          subst (λ (k : ℕ). Window r' k 1) now_is (first_one r' s.given s.env.now (s.left ∙ saved r s.outcome g.code_is ∙ ap Some g.bytes_are) g.long.of_record i.now_fits)
      | inr (inr (inl g)) ↦ let c : s.outcome.code ≡ 0 = g.code_is in absurd (omega arith)
      | inr (inr (inr (inl g))) ↦ let c : s.outcome.code ≡ 0 = g.code_is in absurd (omega arith)
      | inr (inr (inr (inr g))) ↦ let c : s.outcome.code ≡ 4 = g.code_is in absurd (omega arith)
    ]

-- ---- the runs of a window

-- the bytes that a run in a window gets
seen : (r r' : Option (List ℕ)) (t : Turn) (start count : ℕ) (s : RunsTo rate_limit r t r') → Window r start count → (began s.given ≡ start) × (admitted s.given ≡ count)
seen r r' t start count s w =
    subst (λ (v : List ℕ). (began v ≡ start) × (admitted v ≡ count)) (given_is r w.value s.given w.is s.is_given) (w.began_is, w.admitted_is)

-- a window that lasts is not over
not_over : (bytes argument : List ℕ) (now start length : ℕ) → began bytes ≡ start → window argument ≡ length → start ≤ now → now < start + length
    → IsOver bytes argument now → ⊥
not_over bytes argument now start length b w after before (inl back) = omega arith
not_over bytes argument now start length b w after before (inr over) = omega arith

-- a turn is admitted, or the window is unchanged
record Passes (r' : Option (List ℕ)) (t : Turn) (start count number : ℕ) : Type 0 where
  more : ℕ
  adds : cond (t.code == 1) 1 0 ≡ more
  below : count + more ≤ number
  left : Window r' start (count + more)

refused : (r r' : Option (List ℕ)) (t : Turn) (start count number : ℕ) → t.code == 1 ≡ false → r' ≡ r → count ≤ number → Window r start count → Passes r' t start count number
refused r r' t start count number other same below w = record {
  more = 0;
  adds = rw other refl;
  below = omega arith;
  left = let e : count ≡ count + 0 = omega arith in subst (λ (x : Option (List ℕ)). Window x start (count + 0)) (sym same) (subst (λ (k : ℕ). Window r start k) e w);
}

passes : (r r' : Option (List ℕ)) (t : Turn) (start count length number : ℕ) → RunsTo rate_limit r t r' → Names length number t → start ≤ t.now → t.now < start + length
    → count ≤ number → Window r start count → Passes r' t start count number
passes r r' t start count length number s names after before below w =
    let i : IsInput s.given t.argument s.env = s.input in
    let now_is : s.env.now ≡ t.now = s.now_is in
    let sees = seen r r' t start count s w in
    let is : admitted s.given ≡ count = sees.1 in
    let most_is : most t.argument ≡ number = names.1 in
    elim (obeyed r r' t s) [
      | inl g ↦
          let less : admitted s.given < most t.argument = g.below in
          let one : t.code ≡ 1 = s.code_is ∙ g.code_is in
          record {
            more = 1;
            adds = rw one refl;
            below = omega arith;
            left = subst (λ (k : ℕ). Window r' k (count + 1)) sees.0 (subst (λ (k : ℕ). Window r' (began s.given) (k + 1)) is
                (one_more r' s.given (admitted s.given + 1) (s.left ∙ saved r s.outcome g.code_is ∙ ap Some g.bytes_are) g.long.of_record
                (omega (arith, fits 8 t.argument i.are_argument))));
          }
      | inr (inl g) ↦ absurd (not_over s.given t.argument s.env.now start length sees.0 names.0 (omega arith) (omega arith) g.over)
      | inr (inr (inl g)) ↦ refused r r' t start count number (ap is_one (s.code_is ∙ g.code_is)) (s.left ∙ unchanged r s.outcome g.code_is) below w
      | inr (inr (inr (inl g))) ↦ refused r r' t start count number (ap is_one (s.code_is ∙ g.code_is)) (s.left ∙ unchanged r s.outcome g.code_is) below w
      | inr (inr (inr (inr g))) ↦ refused r r' t start count number (ap is_one (s.code_is ∙ g.code_is)) (s.left ∙ unchanged_if_short r s.outcome g.code_is) below w
    ]

during_window : (r r' : Option (List ℕ)) (ts : List Turn) (from start count length number : ℕ) → KeyHistory rate_limit r ts r' → AllByRecursion (Names length number) ts
    → start ≤ from → NeverFalls from ts → AllByRecursion (λ (t : Turn). t.now < start + length) ts → count ≤ number → Window r start count → count + accepted_in ts ≤ number
during_window r r' [] from start count length number h names after times before below w = omega arith
during_window r r' (t ∷ ts) from start count length number h names after times before below w =
    let now : from ≤ t.now = times.0 in
    let p = passes r h.0 t start count length number h.1.0 names.0 (omega arith) before.0 below w in
    let rest = during_window h.0 r' ts t.now start (count + p.more) length number h.1.1 names.1 (omega arith) times.1 before.1 p.below p.left in
    let adds : cond (t.code == 1) 1 0 ≡ p.more = p.adds in
    omega arith

-- ---- whole histories

pub names_after : (Q : Turn → Type 0) (ts us : List Turn) → AllByRecursion Q (ts ++ us) → AllByRecursion Q us
names_after Q [] us h = h
names_after Q (t ∷ ts) us h = names_after Q ts us h.1

pub names_before : (Q : Turn → Type 0) (ts us : List Turn) → AllByRecursion Q (ts ++ us) → AllByRecursion Q ts
names_before Q [] us h = tt
names_before Q (t ∷ ts) us h = (h.0, names_before Q ts us h.1)

pub times_before : (from : ℕ) (ts us : List Turn) → NeverFalls from (ts ++ us) → NeverFalls from ts
times_before from [] us h = tt
times_before from (t ∷ ts) us h = (h.0, times_before t.now ts us h.1)

pub admits_at_most : (A : Type 0) → AdmitsAtMost A
admits_at_most A size kind m m' es key length number a begun_at_start times names before during after first turns begins late within =
    let c = cut_at size kind m m' es key rate_limit a before (during ++ after) first turns in
    let begun_at_first = kept rate_limit HasBegun stays_begun (map.get m key) c.at_first before c.leads begun_at_start in
    let named = names_after (Names length number) before (first ∷ (during ++ after)) (subst (λ (ts : List Turn). AllByRecursion (Names length number) ts) turns names) in
    let timed = times_after 0 before first (during ++ after) (subst (λ (ts : List Turn). NeverFalls 0 ts) turns times) in
    let rest = halves rate_limit c.after_first (map.get m' key) during after c.goes_on in
    let opened = opens c.at_first c.after_first first length number c.runs begun_at_first named.0 begins late in
    let word : first.word + 1 ≡ number = begins.1 in
    during_window c.after_first rest.0 during first.now first.now 1 length number rest.1.0 (names_before (Names length number) during after named.1)
    (omega arith) (times_before first.now during after timed) within (omega arith) opened
