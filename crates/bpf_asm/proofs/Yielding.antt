-- The code of lines is unique.
use Rattle.std.proofs.Common.{◌≡◌, ℕ, zero, suc, ◌+◌, ◌≤◌, ◌∷◌, ◌++◌, [], List, Option, Some, None, take, drop, length, refl, sym, ◌∙◌, ap, arith, slice_get, pos, ℤ, length-append, append_assoc, add-one, Result, Ok, Err, IfOk}
use Rattle.std.specs.List.{sum_by}
use Rattle.std.proofs.lemmas.List.{append-nil}
use Rattle.std.proofs.lemmas.List.Sums.{sum_by-take-drop, sum_by-cons}
use Rattle.std.proofs.lemmas.List.Concat.{flat_map-append}
use Rattle.bpf_insn.specs.declared.insn.Insn.{Insn}
use Rattle.bpf_insn.specs.declared.insn.Insn.TheVariants as insns
use Rattle.bpf_insn.specs.Code.{slots, slots_of, units_of, unit_count}
use Rattle.bpf_asm.specs.Lines.{Meaning, Blank, Mark, Plain, Aimed}
use Rattle.bpf_asm.specs.Denotes.{units, units_above, Once, with_distance, Yields, Gives, Says, meanings, IsOnlyCode}

-- ---- units

pub unit_count_append : (a b : List Insn) → unit_count (a ++ b) ≡ unit_count a + unit_count b
unit_count_append a b = ap length (flat_map-append slots_of a b) ∙ length-append (slots a) (slots b)

unit_count_one : (i : Insn) → unit_count (i ∷ []) ≡ units_of i
unit_count_one i = ap length (append-nil (slots_of i))

pub same_units : (i : Insn) (n : ℤ) → units_of (with_distance i n) ≡ units_of i
same_units (insns.Alu op w d s) n = refl
same_units (insns.Unary op w d) n = refl
same_units (insns.Branch t w d s off) n = refl
same_units (insns.Jump off) n = refl
same_units (insns.JumpFar off) n = refl
same_units (insns.Call id) n = refl
same_units insns.Exit n = refl
same_units (insns.Load size d b off) n = refl
same_units (insns.LoadSigned size d b off) n = refl
same_units (insns.StoreImm size b off k) n = refl
same_units (insns.Store size b off s) n = refl
same_units (insns.Wide d k) n = refl

-- one more line adds its units
pub units_above_more : (ms : List (Option Meaning)) (i : ℕ) (m : Option Meaning) → slice_get ms i ≡ Some m → units_above ms (i + 1) ≡ units_above ms i + units m
units_above_more ms i m e = ap (units_above ms) (add-one i) ∙ at ms i e where
  at : (xs : List (Option Meaning)) (n : ℕ) → slice_get xs n ≡ Some m → units_above xs (suc n) ≡ units_above xs n + units m
  at [] zero e = cc
  at [] (suc n) e = cc
  at (x ∷ xs) zero e = let k : x ≡ m = cc in sum_by-cons units x [] ∙ ap (λ (y : Option Meaning). units y + 0) k ∙ omega arith
  at (x ∷ xs) (suc n) e = omega (arith, sum_by-cons units x (take (suc n) xs), sum_by-cons units x (take n xs), at xs n e)

pub units_above_within : (ms : List (Option Meaning)) (i : ℕ) → units_above ms i ≤ sum_by units ms
units_above_within ms i = omega (arith, sum_by-take-drop units ms i)

yield_units : (ms : List (Option Meaning)) (own : ℕ) (m : Option Meaning) (here : List Insn) → Yields ms own m here → unit_count here ≡ units m
yield_units ms own None here y = absurd y
yield_units ms own (Some Blank) here y = ap unit_count y
yield_units ms own (Some (Mark name)) here y = ap unit_count y
yield_units ms own (Some (Plain i)) here y = ap unit_count y ∙ unit_count_one i
yield_units ms own (Some (Aimed i name)) here y = ap unit_count y.2 ∙ unit_count_one (with_distance i (pos y.0)) ∙ same_units i (pos y.0)

-- the number of units of a code is the sum over its lines
pub total_units : (ms : List (Option Meaning)) (own : ℕ) (below : List (Option Meaning)) (code : List Insn) → Gives ms own below code → unit_count code ≡ sum_by units below
total_units ms own [] code g = ap unit_count g
total_units ms own (m ∷ below) code g =
    let rest = total_units ms (own + units m) below g.1 g.4 in
    let here = yield_units ms own m g.0 g.2 in
    omega (arith, ap unit_count g.3, unit_count_append g.0 g.1, rest, here, sum_by-cons units m below)

-- ---- uniqueness of the code

pub one_yield : (ms : List (Option Meaning)) → Once ms → (own : ℕ) (m : Option Meaning) (a b : List Insn) → Yields ms own m a → Yields ms own m b → a ≡ b
one_yield ms once own None a b x y = absurd x
one_yield ms once own (Some Blank) a b x y = x ∙ sym y
one_yield ms once own (Some (Mark name)) a b x y = x ∙ sym y
one_yield ms once own (Some (Plain i)) a b x y = x ∙ sym y
one_yield ms once own (Some (Aimed i name)) a b x y =
    let same : x.1.0 ≡ y.1.0 = once x.1.0 y.1.0 name x.1.1 y.1.1 in
    let place : own + 1 + x.0 ≡ own + 1 + y.0 = x.1.2 ∙ ap (units_above ms) same ∙ sym y.1.2 in
    let distance : x.0 ≡ y.0 = omega (arith, place) in
    x.2 ∙ ap (λ (d : ℕ). with_distance i (pos d) ∷ []) distance ∙ sym y.2

pub one_code : (ms : List (Option Meaning)) → Once ms → (own : ℕ) (below : List (Option Meaning)) (a b : List Insn) → Gives ms own below a → Gives ms own below b → a ≡ b
one_code ms once own [] a b x y = x ∙ sym y
one_code ms once own (m ∷ below) a b x y =
    let here = one_yield ms once own m x.0 y.0 x.2 y.2 in
    let rest = one_code ms once (own + units m) below x.1 y.1 x.4 y.4 in
    x.3 ∙ ap (λ (xs : List Insn). xs ++ x.1) here ∙ ap (λ (xs : List Insn). y.0 ++ xs) rest ∙ sym y.3

-- lines denote at most one code
pub one_says : (ms : List (Option Meaning)) (a b : List Insn) → Says ms a → Says ms b → a ≡ b
one_says ms a b x y = one_code ms x.once 0 ms a b x.gives y.gives

-- ---- from line to line

pub drop_at : (ms : List (Option Meaning)) (i : ℕ) (m : Option Meaning) → slice_get ms i ≡ Some m → drop i ms ≡ m ∷ drop (i + 1) ms
drop_at ms i m e = at ms i e ∙ ap (λ n. m ∷ drop n ms) (sym (add-one i)) where
  at : (xs : List (Option Meaning)) (n : ℕ) → slice_get xs n ≡ Some m → drop n xs ≡ m ∷ drop (suc n) xs
  at [] zero e = cc
  at [] (suc n) e = cc
  at (x ∷ xs) zero e = let k : x ≡ m = cc in ap (λ (y : Option Meaning). y ∷ xs) k
  at (x ∷ xs) (suc n) e = at xs n e

-- The code of the lines above a place. Followed by the code of the remaining lines it is the whole code, and the whole code begins with
-- it.
pub record GoesOn (ms : List (Option Meaning)) (i own : ℕ) (code : List Insn) : Type 0 where
  pub forward : (rest : List Insn) → Gives ms own (drop i ms) rest → Gives ms 0 ms (code ++ rest)
  pub backward : Once ms → (all : List Insn) → Gives ms 0 ms all → (rest : List Insn) × (all ≡ code ++ rest) × Gives ms own (drop i ms) rest

pub goes_first : (ms : List (Option Meaning)) → GoesOn ms 0 0 []
goes_first ms = record { forward = λ rest g. g; backward = λ once all g. (all, refl, g) }

pub goes_more : (ms : List (Option Meaning)) (i own : ℕ) (code : List Insn) (m : Option Meaning) (here : List Insn) → GoesOn ms i own code → slice_get ms i ≡ Some m → Yields ms own m here → GoesOn ms (i + 1) (own + units m) (code ++ here)
goes_more ms i own code m here goes e y =
    let d = drop_at ms i m e in
    record {
      forward = λ rest g. rw (append_assoc code here rest) (goes.forward (here ++ rest) (rw d (here, rest, y, refl, g)));
      backward = λ once all g. back once all (goes.backward once all g);
    } where
      back : Once ms → (all : List Insn) → (rest : List Insn) × (all ≡ code ++ rest) × Gives ms own (drop i ms) rest → (rest : List Insn) × (all ≡ (code ++ here) ++ rest) × Gives ms (own + units m) (drop (i + 1) ms) rest
      back once all b =
          let g = rw (drop_at ms i m e) at b.2 in
          let h = one_yield ms once own m g.0 here g.2 y in
          (g.1, b.1 ∙ ap (λ (xs : List Insn). code ++ xs) g.3 ∙ ap (λ (xs : List Insn). code ++ (xs ++ g.1)) h ∙ sym (append_assoc code here g.1), g.4)

-- the code of a text's lines is the only code that the text denotes
pub only_code : {E : Type 0} (text : List ℕ) (ms : List (Option Meaning)) → ms ≡ meanings text → (r : Result (List Insn) E) → IfOk r (Says ms) → IfOk r (IsOnlyCode text)
only_code text ms e (Err f) h = tt
only_code text ms e (Ok code) h = λ other d. one_says (meanings text) other code d (rw e at h)
