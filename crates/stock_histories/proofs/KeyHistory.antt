-- The record of one key over its turns.
use Rattle.std.proofs.Common.{ℕ, ◌≡◌, ◌⊎◌, inl, inr, refl, sym, ◌∙◌, subst, List, [], ◌∷◌, ◌++◌, replicate, Option, Some, None, Bool, cond, ◌==◌}
use Rattle.std.specs.List.{AllByRecursion}
use Rattle.std.proofs.lemmas.Option.{same_Some}
use Rattle.bpf_insn.specs.declared.insn.Insn.{Insn}
use Rattle.bpf_helpers.specs.declared.values.Env.{Env}
use Rattle.bpf_helpers.specs.Runs.{Outcome, Ends, IsInput}
use Rattle.store_cmd.specs.Answers.{saves, removes}
use Rattle.stock_programs.specs.Lengths.{short_code}
use Rattle.stock_histories.specs.Turns.{Turn, NeverFalls}

-- The record after a run on it, or on a blank if there is no record.
abbrev pub left_at : Option (List ℕ) → Outcome → Option (List ℕ)
left_at r o = cond (saves o.code) (Some o.bytes) (cond (removes o.code) None r)

-- A run gets the record, or zeros if there is no record.
abbrev pub IsGiven : Option (List ℕ) → List ℕ → Type 0
IsGiven r given = (r ≡ Some given) ⊎ ((r ≡ None) × ((n : ℕ) × (given ≡ replicate n 0)))

pub record RunsTo (program : List Insn) (r : Option (List ℕ)) (t : Turn) (r' : Option (List ℕ)) : Type 0 where
  pub given : List ℕ
  pub is_given : IsGiven r given
  pub env : Env
  pub now_is : env.now ≡ t.now
  pub who_is : env.who ≡ t.session
  pub input : IsInput given t.argument env
  pub outcome : Outcome
  pub ends : Ends program given t.argument env outcome
  pub code_is : t.code ≡ outcome.code
  pub word_is : t.word ≡ outcome.word
  pub left : r' ≡ left_at r outcome

-- The turns lead from one record to another.
abbrev pub KeyHistory : List Insn → Option (List ℕ) → List Turn → Option (List ℕ) → Type 0
KeyHistory program r [] r' = r' ≡ r
KeyHistory program r (t ∷ ts) r' = (mid : Option (List ℕ)) × (RunsTo program r t mid × KeyHistory program mid ts r')

pub halves : (program : List Insn) (r r' : Option (List ℕ)) (ts us : List Turn) → KeyHistory program r (ts ++ us) r'
    → (mid : Option (List ℕ)) × (KeyHistory program r ts mid × KeyHistory program mid us r')
halves program r r' [] us h = (r, (refl, h))
halves program r r' (t ∷ ts) us h = let rest = halves program h.0 r' ts us h.1.1 in (rest.0, ((h.0, (h.1.0, rest.1.0)), rest.1.1))

-- The times after a turn are not before its own.
pub times_after : (from : ℕ) (ts : List Turn) (t : Turn) (us : List Turn) → NeverFalls from (ts ++ (t ∷ us)) → NeverFalls t.now us
times_after from [] t us h = h.1
times_after from (u ∷ ts) t us h = times_after u.now ts t us h.1

-- If each turn keeps a property of the record, all turns keep it.
pub kept : (program : List Insn) (P : Option (List ℕ) → Type 0) (step : (r r' : Option (List ℕ)) (t : Turn) → RunsTo program r t r' → P r → P r')
    → (r r' : Option (List ℕ)) (ts : List Turn) → KeyHistory program r ts r' → P r → P r'
kept program P step r r' [] h p = subst (λ (x : Option (List ℕ)). P x) (sym h) p
kept program P step r r' (t ∷ ts) h p = kept program P step h.0 r' ts h.1.1 (step r h.0 t h.1.0 p)

-- The same if each turn has another property.
pub kept_by : (program : List Insn) (P : Option (List ℕ) → Type 0) (Q : Turn → Type 0)
    (step : (r r' : Option (List ℕ)) (t : Turn) → RunsTo program r t r' → Q t → P r → P r')
    → (r r' : Option (List ℕ)) (ts : List Turn) → KeyHistory program r ts r' → AllByRecursion Q ts → P r → P r'
kept_by program P Q step r r' [] h q p = subst (λ (x : Option (List ℕ)). P x) (sym h) p
kept_by program P Q step r r' (t ∷ ts) h q p = kept_by program P Q step h.0 r' ts h.1.1 q.1 (step r h.0 t h.1.0 q.0 p)

-- ---- the record after a run, by its code

abbrev pub is_one : ℕ → Bool
is_one code = code == 1

pub saved : (r : Option (List ℕ)) (o : Outcome) → o.code ≡ 1 → left_at r o ≡ Some o.bytes
saved r o e = rw e refl

-- The codes 0, 3 and 4 change nothing.
pub unchanged : (r : Option (List ℕ)) (o : Outcome) → o.code ≡ 0 → left_at r o ≡ r
unchanged r o e = rw e refl

pub unchanged_by_3 : (r : Option (List ℕ)) (o : Outcome) → o.code ≡ 3 → left_at r o ≡ r
unchanged_by_3 r o e = rw e refl

pub unchanged_if_short : (r : Option (List ℕ)) (o : Outcome) → o.code ≡ short_code → left_at r o ≡ r
unchanged_if_short r o e = rw e refl

-- ---- the bytes that a run is given of a record that exists

pub given_is : (r : Option (List ℕ)) (value given : List ℕ) → r ≡ Some value → IsGiven r given → value ≡ given
given_is r value given is (inl h) = same_Some value given (sym is ∙ h)
given_is r value given is (inr none) = let no : Some value ≡ None = sym is ∙ none.0 in absurd cc
