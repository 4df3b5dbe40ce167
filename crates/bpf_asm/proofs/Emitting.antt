-- The assembler's code for the lines above a place.
use Rattle.std.proofs.Common.{◌≡◌, ℕ, ◌+◌, ◌≤◌, ◌<◌, ◌++◌, [], List, Option, Some, None, drop, length, refl, sym, ◌∙◌, ap, arith, slice_get, IfSome, MatchOption, Bool, true, false, nat_lt, subst, ◌⊎◌, inl, inr}
use Rattle.std.specs.List.{sum_by}
use Rattle.std.proofs.lemmas.List.{append-nil, drop_all, take_all}
use Rattle.std.proofs.lemmas.Option.{slice_get_within}
use Rattle.std.proofs.lemmas.Bool.{ltb-true, ltb-false}
use Rattle.bpf_insn.specs.declared.insn.Insn.{Insn}
use Rattle.bpf_insn.specs.Code.{unit_count, unit_limit}
use Rattle.bpf_asm.specs.declared.fault.FaultKind.{FaultKind}
use Rattle.bpf_asm.specs.declared.fault.FaultKind.TheVariants.{NoMemory}
use Rattle.bpf_asm.specs.declared.labels.Definition.{Definition}
use Rattle.bpf_asm.specs.Lines.{Meaning, Mark}
use Rattle.bpf_asm.specs.Denotes.{units, units_above, MarksAt, Gives, Says}
use Rattle.bpf_asm.specs.Emitted.{Labels, definition_of, IsTableOf, IsDefinition, Emits, Refuses}
use Rattle.bpf_asm.proofs.Yielding.{GoesOn, goes_first, goes_more, unit_count_append, units_above_more, units_above_within, total_units, drop_at}

pub record IsEmitted (ms : List (Option Meaning)) (labels : Labels) (at : ℕ) (code : List Insn) : Type 0 where
  pub goes : sum_by units ms ≤ unit_limit → GoesOn ms at (unit_count code) code
  pub above : unit_count code ≡ units_above ms at
  pub short : unit_count code ≤ unit_limit
  pub defined : (i : ℕ) (name : List ℕ) → i < at → MarksAt ms name i → IfSome (definition_of labels name) (λ d. d.line ≡ i)

pub emitted_first : (ms : List (Option Meaning)) (labels : Labels) → IsEmitted ms labels 0 []
emitted_first ms labels = record { goes = λ few. goes_first ms; above = refl; short = omega arith; defined = λ i name below marks. absurd (omega arith) }

-- `GoesOn` depends only on the number of units
renumbered : (ms : List (Option Meaning)) (i m n : ℕ) (code : List Insn) → m ≡ n → GoesOn ms i m code → GoesOn ms i n code
renumbered ms i m n code e goes = subst (λ (k : ℕ). GoesOn ms i k code) e goes

here_defined : (labels : Labels) (name : List ℕ) (at i : ℕ) (m : Option Meaning) → m ≡ Some (Mark name) → at ≡ i → IsDefinition labels at m → IfSome (definition_of labels name) (λ d. d.line ≡ i)
here_defined labels name at i m mark same h = let h2 = rw mark at h in rw same at h2

pub emitted_more : (ms : List (Option Meaning)) (labels : Labels) (at : ℕ) (m : Option Meaning) (old new : List Insn) → IsEmitted ms labels at old → IsTableOf ms labels → slice_get ms at ≡ Some m → Emits labels at m old new → IsEmitted ms labels (at + 1) new
emitted_more ms labels at m old new is table e emits =
    let count : unit_count new ≡ unit_count old + units m = ap unit_count emits.more ∙ unit_count_append old emits.here ∙ ap (λ (n : ℕ). unit_count old + n) emits.units in
    record {
      goes = λ few. rw emits.more (renumbered ms (at + 1) (unit_count old + units m) (unit_count (old ++ emits.here)) (old ++ emits.here) (sym count ∙ ap unit_count emits.more)
          (goes_more ms at (unit_count old) old m emits.here (is.goes few) e (emits.yields ms table few)));
      above = count ∙ ap (λ (n : ℕ). n + units m) is.above ∙ sym (units_above_more ms at m e);
      short = emits.short;
      defined = λ i name below marks. by_test i name marks (nat_lt i at) refl below;
    } where
      by_test : (i : ℕ) (name : List ℕ) → MarksAt ms name i → (b : Bool) → nat_lt i at ≡ b → i < at + 1 → IfSome (definition_of labels name) (λ d. d.line ≡ i)
      by_test i name marks true t below = is.defined i name (ltb-true i at t) marks
      by_test i name marks false t below =
          let same : at ≡ i = omega (arith, ltb-false i at t) in
          let k : slice_get ms at ≡ slice_get ms i = ap (slice_get ms) same in
          let mark : m ≡ Some (Mark name) = cc in
          here_defined labels name at i m mark same emits.definition

-- the code of all lines is the one that they denote
pub emitted_all : (ms : List (Option Meaning)) (labels : Labels) (at : ℕ) (code : List Insn) → length ms ≤ at → IsTableOf ms labels → IsEmitted ms labels at code → Says ms code
emitted_all ms labels at code end table is =
    let few : sum_by units ms ≤ unit_limit = omega (arith, is.above, is.short, all) in
    let none : drop at ms ≡ [] = drop_all at ms end in
    let whole : Gives ms 0 ms (code ++ []) = (is.goes few).forward [] (rw none refl) in
    record {
      once = λ i j name a b. one i j name (definition_of labels name) (table name) a (is.defined i name (inside i name a) a) (is.defined j name (inside j name b) b);
      gives = rw append-nil at whole;
      short = is.short;
    } where
      all : units_above ms at ≡ sum_by units ms
      all = ap (sum_by units) (take_all at ms end)

      inside : (i : ℕ) (name : List ℕ) → MarksAt ms name i → i < at
      inside i name marks = let l = slice_get_within ms i (Some (Mark name)) marks in omega (arith, l, end)

      one : (i j : ℕ) (name : List ℕ) (o : Option Definition) → MatchOption o ((k : ℕ) → MarksAt ms name k → ⊥) (λ d. MarksAt ms name d.line × (d.unit ≡ units_above ms d.line)) → MarksAt ms name i → IfSome o (λ d. d.line ≡ i) → IfSome o (λ d. d.line ≡ j) → i ≡ j
      one i j name (Some d) t marks a b = sym a ∙ b
      one i j name None t marks a b = absurd (t i marks)

-- a refused line
pub refused : (ms : List (Option Meaning)) (labels : Labels) (at : ℕ) (m : Option Meaning) (old : List Insn) → IsEmitted ms labels at old → IsTableOf ms labels → slice_get ms at ≡ Some m → Refuses labels at m old → (code : List Insn) → Says ms code → ⊥
refused ms labels at m old is table e refuses code says =
    let total : unit_count code ≡ sum_by units ms = total_units ms 0 ms code says.gives in
    let few : sum_by units ms ≤ unit_limit = omega (arith, total, says.short) in
    let b = (is.goes few).backward says.once code says.gives in
    let g = rw (drop_at ms at m e) at b.2 in
    let room : unit_count old + units m ≤ unit_limit = omega (arith, is.above, units_above_more ms at m e, units_above_within ms (at + 1), few) in
    refuses ms table e says.once room g.0 g.2

-- the same for a line's fault
pub refused_line : (ms : List (Option Meaning)) (labels : Labels) (at : ℕ) (m : Option Meaning) (old : List Insn) → IsEmitted ms labels at old → IsTableOf ms labels → slice_get ms at ≡ Some m
    → (kind : FaultKind) → (kind ≡ NoMemory) ⊎ Refuses labels at m old → (kind ≡ NoMemory) ⊎ ((code : List Insn) → Says ms code → ⊥)
refused_line ms labels at m old is table e kind (inl memory) = inl memory
refused_line ms labels at m old is table e kind (inr refuses) = inr (refused ms labels at m old is table e refuses)
