-- The premises of the laws, tested entry by entry.
use Rattle.std.proofs.Common.{ℕ, ◌≡◌, ◌≢◌, ◌↔◌, IsTrue, ◌+◌, ◌<◌, ◌≤◌, ◌^◌, refl, sym, ap, ◌∙◌, subst, List, [], ◌∷◌, ◌++◌, length, drop, slice_index_or, Option, Some, None, Bool, true, false, cond, arith}
use Rattle.std.specs.Option.{option_map, option_to_list}
use Rattle.std.proofs.lemmas.List.{drop_more, drop_all}
use Rattle.std.proofs.lemmas.Option.{same_Some}
use Rattle.sdbm_addr.specs.Pairs.{same_key}
use Rattle.sdbm_addr.proofs.PairLemmas.{same_key-refl}
use Rattle.bpf_insn.specs.declared.insn.Insn.{Insn}
use Rattle.store_cmd.specs.declared.Command.{Command}
use Rattle.store_cmd.specs.declared.Command.TheVariants.{Run}
use Rattle.store_cmd.specs.declared.Reply.{Reply}
use Rattle.store_cmd.specs.declared.Reply.TheVariants.{Ran}
use Rattle.store_cmd.specs.declared.Entry.{Entry}
use Rattle.stock_histories.specs.Turns.{Turn, turn_in, turns_of, OnlyRuns, RunsAlone, HasWords, HaveWords, NeverFalls}
use Rattle.stock_histories.proofs.Projected.{other_key}

-- ---- one program alone

-- A run on the key passes if it is a run of the program.
pub of_program : {A : Type 0} (program : List Insn) (key : List ℕ) (command : Command A) (own : List ℕ) (its : List Insn) (argument : List ℕ)
    (blank : Option ℕ) (now : ℕ) (b : Bool) → command ≡ Run own its argument blank now → own ≡ key → IsTrue b ↔ (its ≡ program)
    → (IsTrue b → OnlyRuns program key command) × (OnlyRuns program key command → IsTrue b)
of_program program key command own its argument blank now b is same h = (
  (λ yes. subst (λ c. OnlyRuns program key c) (sym is) (λ k. h.0 yes)),
  (λ only. h.1 (subst (λ c. OnlyRuns program key c) is only same)),
)

-- The entries before this place pass the test.
pub record Alone {A : Type 0} (program : List Insn) (key : List ℕ) (es : List (Entry A)) (i : ℕ) : Type 0 where
  pub onward : RunsAlone program key es → RunsAlone program key (drop i es)
  pub back : RunsAlone program key (drop i es) → RunsAlone program key es
  pub words : HaveWords (drop i es) → HaveWords es

pub alone_more : {A : Type 0} (program : List Insn) (key : List ℕ) (es : List (Entry A)) (i : ℕ) (d e : Entry A) → i < length es
    → e ≡ slice_index_or es i d → OnlyRuns program key e.command → HasWords e.command → e.session < 2 ^ 64 → Alone program key es i → Alone program key es (i + 1)
alone_more program key es i d e lt is only word who a =
    let more : drop i es ≡ e ∷ drop (i + 1) es = drop_more es i d lt ∙ ap (λ x. x ∷ drop (i + 1) es) (sym is) in
    record {
      onward = λ h. (subst (λ x. RunsAlone program key x) more (a.onward h)).1;
      back = λ h. a.back (subst (λ x. RunsAlone program key x) (sym more) (only, h));
      words = λ h. a.words (subst (λ x. HaveWords x) (sym more) (word, (who, h)));
    }

pub not_alone : {A : Type 0} (program : List Insn) (key : List ℕ) (es : List (Entry A)) (i : ℕ) (d e : Entry A) → i < length es
    → e ≡ slice_index_or es i d → (OnlyRuns program key e.command → ⊥) → Alone program key es i → RunsAlone program key es → ⊥
not_alone program key es i d e lt is denies a h =
    let more : drop i es ≡ e ∷ drop (i + 1) es = drop_more es i d lt ∙ ap (λ x. x ∷ drop (i + 1) es) (sym is) in
    denies (subst (λ x. RunsAlone program key x) more (a.onward h)).0

pub all_alone : {A : Type 0} (program : List Insn) (key : List ℕ) (es : List (Entry A)) (i : ℕ) → length es ≤ i → Alone program key es i → RunsAlone program key es
all_alone program key es i le a = a.back (subst (λ x. RunsAlone program key x) (sym (drop_all i es le)) tt)

pub all_words : {A : Type 0} (program : List Insn) (key : List ℕ) (es : List (Entry A)) (i : ℕ) → length es ≤ i → Alone program key es i → HaveWords es
all_words program key es i le a = a.words (subst (λ x. HaveWords x) (sym (drop_all i es le)) tt)

-- ---- the time of an entry

abbrev pub time_of : {A : Type 0} → List ℕ → ℕ → Command A → Reply A → Option ℕ
time_of key session command reply = option_map (λ (t : Turn). t.now) (turn_in key session command reply)

time_by : {A : Type 0} (key : List ℕ) (session : ℕ) (command : Command A) (reply : Reply A) (own : List ℕ) (its : List Insn) (argument : List ℕ)
    (blank : Option ℕ) (now code word : ℕ) → command ≡ Run own its argument blank now → reply ≡ Ran code word
    → (b : Bool) → same_key key own ≡ b → time_of key session command reply ≡ cond b (Some now) None
time_by key session command reply own its argument blank now code word is ran true same = rw (is, ran, same) refl
time_by key session command reply own its argument blank now code word is ran false same = rw (is, ran, same) refl

pub other_time : {A : Type 0} (key : List ℕ) (session : ℕ) (command : Command A) (reply : Reply A) (own : List ℕ) (its : List Insn) (argument : List ℕ)
    (blank : Option ℕ) (now code word : ℕ) → command ≡ Run own its argument blank now → reply ≡ Ran code word → own ≢ key → None ≡ time_of key session command reply
other_time key session command reply own its argument blank now code word is ran apart =
    sym (time_by key session command reply own its argument blank now code word is ran false (other_key own key apart))

pub own_time : {A : Type 0} (key : List ℕ) (session : ℕ) (command : Command A) (reply : Reply A) (own : List ℕ) (its : List Insn) (argument : List ℕ)
    (blank : Option ℕ) (now code word : ℕ) → command ≡ Run own its argument blank now → reply ≡ Ran code word → own ≡ key → Some now ≡ time_of key session command reply
own_time key session command reply own its argument blank now code word is ran same =
    sym (time_by key session command reply own its argument blank now code word is ran true (ap (λ (k : List ℕ). same_key key k) same ∙ same_key-refl key))

-- ---- times that never fall

-- The times of the entries before this place never fall, and the last is this one.
pub record Timed {A : Type 0} (key : List ℕ) (es : List (Entry A)) (i from : ℕ) : Type 0 where
  pub onward : NeverFalls 0 (turns_of key es) → NeverFalls from (turns_of key (drop i es))
  pub back : NeverFalls from (turns_of key (drop i es)) → NeverFalls 0 (turns_of key es)

no_turn : (o : Option Turn) (ts : List Turn) → None ≡ option_map (λ (t : Turn). t.now) o → option_to_list o ++ ts ≡ ts
no_turn None ts h = refl
no_turn (Some t) ts h = let no : None ≡ Some t.now = h in absurd cc

falls_at : (o : Option Turn) (ts : List Turn) (from now : ℕ) → Some now ≡ option_map (λ (t : Turn). t.now) o
    → NeverFalls from (option_to_list o ++ ts) → (from ≤ now) × NeverFalls now ts
falls_at None ts from now h n = let no : Some now ≡ None = h in absurd cc
falls_at (Some t) ts from now h n =
    let same : now ≡ t.now = same_Some _ _ h in
    subst (λ (k : ℕ). (from ≤ k) × NeverFalls k ts) (sym same) n

rises_at : (o : Option Turn) (ts : List Turn) (from now : ℕ) → Some now ≡ option_map (λ (t : Turn). t.now) o
    → (from ≤ now) × NeverFalls now ts → NeverFalls from (option_to_list o ++ ts)
rises_at None ts from now h n = let no : Some now ≡ None = h in absurd cc
rises_at (Some t) ts from now h n =
    let same : now ≡ t.now = same_Some _ _ h in
    subst (λ (k : ℕ). (from ≤ k) × NeverFalls k ts) same n

pub timed_past : {A : Type 0} (key : List ℕ) (es : List (Entry A)) (i from : ℕ) (d e : Entry A) → i < length es → e ≡ slice_index_or es i d
    → None ≡ time_of key e.session e.command e.reply → Timed key es i from → Timed key es (i + 1) from
timed_past key es i from d e lt is none a =
    let more : drop i es ≡ e ∷ drop (i + 1) es = drop_more es i d lt ∙ ap (λ x. x ∷ drop (i + 1) es) (sym is) in
    let same : turns_of key (drop i es) ≡ turns_of key (drop (i + 1) es)
    = ap (λ x. turns_of key x) more ∙ no_turn (turn_in key e.session e.command e.reply) (turns_of key (drop (i + 1) es)) none in
    record {
      onward = λ h. subst (λ x. NeverFalls from x) same (a.onward h);
      back = λ h. a.back (subst (λ x. NeverFalls from x) (sym same) h);
    }

pub timed_more : {A : Type 0} (key : List ℕ) (es : List (Entry A)) (i from now : ℕ) (d e : Entry A) → i < length es → e ≡ slice_index_or es i d
    → Some now ≡ time_of key e.session e.command e.reply → from ≤ now → Timed key es i from → Timed key es (i + 1) now
timed_more key es i from now d e lt is some late a =
    let more : drop i es ≡ e ∷ drop (i + 1) es = drop_more es i d lt ∙ ap (λ x. x ∷ drop (i + 1) es) (sym is) in
    record {
      onward = λ h. (falls_at (turn_in key e.session e.command e.reply) (turns_of key (drop (i + 1) es)) from now some
          (subst (λ x. NeverFalls from (turns_of key x)) more (a.onward h))).1;
      back = λ h. a.back (subst (λ x. NeverFalls from (turns_of key x)) (sym more)
          (rises_at (turn_in key e.session e.command e.reply) (turns_of key (drop (i + 1) es)) from now some (late, h)));
    }

pub not_timed : {A : Type 0} (key : List ℕ) (es : List (Entry A)) (i from now : ℕ) (d e : Entry A) → i < length es → e ≡ slice_index_or es i d
    → Some now ≡ time_of key e.session e.command e.reply → now < from → Timed key es i from → NeverFalls 0 (turns_of key es) → ⊥
not_timed key es i from now d e lt is some early a h =
    let more : drop i es ≡ e ∷ drop (i + 1) es = drop_more es i d lt ∙ ap (λ x. x ∷ drop (i + 1) es) (sym is) in
    let both = falls_at (turn_in key e.session e.command e.reply) (turns_of key (drop (i + 1) es)) from now some
    (subst (λ x. NeverFalls from (turns_of key x)) more (a.onward h)) in
    let late : from ≤ now = both.0 in
    omega arith

pub all_timed : {A : Type 0} (key : List ℕ) (es : List (Entry A)) (i from : ℕ) → length es ≤ i → Timed key es i from → NeverFalls 0 (turns_of key es)
all_timed key es i from le a = a.back (subst (λ x. NeverFalls from (turns_of key x)) (sym (drop_all i es le)) tt)
