-- A run as a function from its first instruction to its outcome. The run ends with this outcome.
use Rattle.std.proofs.Common.{ℕ, zero, suc, ◌≡◌, ◌+◌, refl, sym, ap, ◌∙◌, subst, List, replicate, Option, Some, None, arith}
use Rattle.std.specs.Option.{option_and_then, option_map}
use Rattle.std.proofs.lemmas.Option.{same_Some}
use Rattle.bpf_insn.specs.declared.insn.Insn.{Insn}
use Rattle.bpf_insn.specs.declared.insn.Insn.TheVariants.{Exit}
use Rattle.bpf_insn.specs.Code.{fetch}
use Rattle.bpf_helpers.specs.declared.values.Env.{Env}
use Rattle.bpf_helpers.specs.Machine.{Config, step, effect, arrives, ended, exit_code, stack_size}
use Rattle.bpf_helpers.specs.Runs.{Reaches, start, first_registers, Ends, Outcome}
use Rattle.bpf_helpers.proofs.OneEnd.{Ends-unique}

-- The result of one instruction: the end, or the next turn.
abbrev pub turn : (Config → Option Outcome) → ℕ → List Insn → Config → Option Insn → Option Outcome
turn next k code c None = None
turn next k code c (Some Exit) = option_map (λ x. record { code = x; word = c.word; bytes = c.bytes; steps = suc k }) (exit_code Exit c)
turn next k code c (Some i) = option_and_then next (option_and_then (arrives code) (effect i c))

-- The outcome within n instructions, after k were executed.
abbrev pub forward : ℕ → ℕ → List Insn → Config → Option Outcome
forward zero k code c = None
forward (suc n) k code c = turn (forward n (suc k) code) k code c (fetch code c.place)

-- ---- the run ends with the outcome that is found

record Finishes (code : List Insn) (k : ℕ) (c : Config) (o : Outcome) : Type 0 where
  more : ℕ
  last : Config
  chain : Reaches code more c last
  end : ended code last ≡ Some o.code
  word_is : o.word ≡ last.word
  bytes_are : o.bytes ≡ last.bytes
  steps_are : o.steps ≡ k + more + 1

prepend : (n : ℕ) (code : List Insn) (c d e : Config) → step code c ≡ Some d → Reaches code n d e → Reaches code (suc n) c e
prepend zero code c d e s h = (c, refl, s ∙ ap Some h)
prepend (suc n) code c d e s h = (h.0, prepend n code c d h.0 s h.1, h.2)

at_exit : (k : ℕ) (code : List Insn) (c : Config) (o : Outcome) (x : Option ℕ) → ended code c ≡ x
    → option_map (λ (y : ℕ). let r : Outcome = record { code = y; word = c.word; bytes = c.bytes; steps = suc k } in r) x ≡ Some o → Finishes code k c o
at_exit k code c o None is e = let no : None ≡ Some o = e in absurd cc
at_exit k code c o (Some x) is e =
    let same : record { code = x; word = c.word; bytes = c.bytes; steps = suc k } ≡ o = same_Some _ o e in
    record {
      more = 0;
      last = c;
      chain = refl;
      end = is ∙ ap (λ (r : Outcome). Some r.code) same;
      word_is = ap (λ (r : Outcome). r.word) (sym same);
      bytes_are = ap (λ (r : Outcome). r.bytes) (sym same);
      steps_are = ap (λ (r : Outcome). r.steps) (sym same) ∙ omega arith;
    }

goes_on : (k : ℕ) (code : List Insn) (c d : Config) (o : Outcome) → step code c ≡ Some d → Finishes code (suc k) d o → Finishes code k c o
goes_on k code c d o s f = record {
  more = suc f.more;
  last = f.last;
  chain = prepend f.more code c d f.last s f.chain;
  end = f.end;
  word_is = f.word_is;
  bytes_are = f.bytes_are;
  steps_are = f.steps_are ∙ omega arith;
}

at_next : (k : ℕ) (code : List Insn) (c : Config) (o : Outcome) (next : Config → Option Outcome) → ((d : Config) → next d ≡ Some o → Finishes code (suc k) d o)
    → (x : Option Config) → step code c ≡ x → option_and_then next x ≡ Some o → Finishes code k c o
at_next k code c o next later None is e = let no : None ≡ Some o = e in absurd cc
at_next k code c o next later (Some d) is e = goes_on k code c d o is (later d e)

finishes : (n k : ℕ) (code : List Insn) (c : Config) (o : Outcome) → forward n k code c ≡ Some o → Finishes code k c o
finishes zero k code c o e = let no : None ≡ Some o = e in absurd cc
finishes (suc n) k code c o e = at (λ d. finishes n (suc k) code d o) (fetch code c.place) refl e
  where
    at : ((d : Config) → forward n (suc k) code d ≡ Some o → Finishes code (suc k) d o) → (i : Option Insn) → fetch code c.place ≡ i → turn (forward n (suc k) code) k code c i ≡ Some o → Finishes code k c o
    at later None is g = let no : None ≡ Some o = g in absurd cc
    at later (Some Exit) is g = at_exit k code c o (exit_code Exit c) (rw is refl) g
    at later (Some i) is g = at_next k code c o (forward n (suc k) code) later (option_and_then (arrives code) (effect i c)) (rw is refl) g

-- The start of a run, with any stack and any reply word. As variables they stay folded in a proof; the 512 zeros of a stack would not.
abbrev pub begin : List ℕ → ℕ → List ℕ → List ℕ → Env → Config
begin stack word bytes argument env = record { place = 0; registers = first_registers bytes argument; bytes = bytes; argument = argument; stack = stack; word = word; env = env }

-- The outcome of a whole run, within n instructions.
abbrev pub run : ℕ → List Insn → List ℕ → ℕ → List ℕ → List ℕ → Env → Option Outcome
run n code stack word bytes argument env = forward n 0 code (begin stack word bytes argument env)

-- A run whose outcome is found going forward ends with it, and with no other.
pub found : (n : ℕ) (code : List Insn) (bytes argument : List ℕ) (env : Env) (o : Outcome) → run n code (replicate stack_size 0) 0 bytes argument env ≡ Some o → Ends code bytes argument env o
found n code bytes argument env o e =
    let f = finishes n 0 code (start bytes argument env) o e in
    record { before = f.more; last = f.last; chain = f.chain; end = f.end; word_is = f.word_is; bytes_are = f.bytes_are; steps_are = f.steps_are ∙ omega arith }

pub found_alone : (n : ℕ) (code : List Insn) (bytes argument : List ℕ) (env : Env) (o p : Outcome) → run n code (replicate stack_size 0) 0 bytes argument env ≡ Some o → Ends code bytes argument env p → p ≡ o
found_alone n code bytes argument env o p e ends = Ends-unique code bytes argument env p o ends (found n code bytes argument env o e)

-- ---- runs in pieces

-- k + n, as n turns count it.
abbrev pub later : ℕ → ℕ → ℕ
later zero k = k
later (suc n) k = later n (suc k)

-- The configuration after n steps. A proof about many instructions is cut into pieces, and each piece writes out the configuration at its
-- end: a configuration that was only computed grows with each step.
abbrev pub walk : ℕ → List Insn → Config → Option Config
walk zero code c = Some c
walk (suc n) code c = option_and_then (walk n code) (step code c)

one_more : (n k : ℕ) (code : List Insn) (c d : Config) → step code c ≡ Some d → forward (suc n) k code c ≡ forward n (suc k) code d
one_more n k code c d e = at (fetch code c.place) e
  where
    at : (i : Option Insn) → option_and_then (λ (x : Insn). option_and_then (arrives code) (effect x c)) i ≡ Some d → turn (forward n (suc k) code) k code c i ≡ forward n (suc k) code d
    at None g = let no : None ≡ Some d = g in absurd cc
    at (Some Exit) g = let no : None ≡ Some d = g in absurd cc
    at (Some x) g = ap (option_and_then (forward n (suc k) code)) g

pub walk_then : (m n k : ℕ) (code : List Insn) (c d : Config) (o : Outcome) → walk m code c ≡ Some d → forward n (m + k) code d ≡ Some o → forward (m + n) k code c ≡ Some o
walk_then zero n k code c d o w f =
    let a : zero + n ≡ n = omega arith in
    let b : zero + k ≡ k = omega arith in
    rw a (subst (λ (x : Config). forward n k code x ≡ Some o) (sym (same_Some c d w)) (rw b at f))
walk_then (suc m) n k code c d o w f = at (step code c) refl w (λ e g. walk_then m n (suc k) code e d o g (let b : m + suc k ≡ suc m + k = omega arith in rw b f))
  where
    at : (x : Option Config) → step code c ≡ x → option_and_then (walk m code) x ≡ Some d → ((e : Config) → walk m code e ≡ Some d → forward (m + n) (suc k) code e ≡ Some o) → forward (suc m + n) k code c ≡ Some o
    at None is g later = let no : None ≡ Some d = g in absurd cc
    at (Some e) is g later = let a : suc m + n ≡ suc (m + n) = omega arith in rw a (one_more (m + n) k code c e is ∙ later e g)
