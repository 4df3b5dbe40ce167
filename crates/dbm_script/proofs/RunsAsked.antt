-- The run that a line describes, from the meaning of each word.
use Rattle.std.proofs.Common.{◌≡◌, ◌⊎◌, ℕ, List, Option, Some, None, inl, inr, refl, ap, ◌∙◌}
use Rattle.std.proofs.lemmas.Option.{same_Some}
use Rattle.dbm_script.specs.Lines.{ask_of_run}
use Rattle.dbm_script.specs.Notation.{bytes_of_word}
use Rattle.dbm_script.specs.Numbers.{blank_of, number_of}
use Rattle.dbm_script.specs.Tasks.{HasBadBytes, HasBadNumber, all_words, run_words_of}
use Rattle.dbm_script.specs.declared.notations.Notation.{Notation}
use Rattle.dbm_script.specs.declared.run_words.RunWords.{RunWords}
use Rattle.dbm_script.specs.declared.lines.Ask.TheVariants.{Run}

bad_bytes_none : {A : Type 0} (k a : Option (List ℕ)) (b : Option (Option ℕ)) (t : Option ℕ) → (k ≡ None) ⊎ (a ≡ None) → None ≡ all_words {A = A} k a b t
bad_bytes_none None a b t h = refl
bad_bytes_none (Some k) None b t h = refl
bad_bytes_none (Some k) (Some a) b t (inl e) = cc
bad_bytes_none (Some k) (Some a) b t (inr e) = cc

bad_number_none : {A : Type 0} (k a : Option (List ℕ)) (b : Option (Option ℕ)) (t : Option ℕ) → (b ≡ None) ⊎ (t ≡ None) → None ≡ all_words {A = A} k a b t
bad_number_none None a b t h = refl
bad_number_none (Some k) None b t h = refl
bad_number_none (Some k) (Some a) None t h = refl
bad_number_none (Some k) (Some a) (Some b) None h = refl
bad_number_none (Some k) (Some a) (Some b) (Some t) (inl e) = cc
bad_number_none (Some k) (Some a) (Some b) (Some t) (inr e) = cc

-- words with invalid bytes, and words with an invalid number
pub no_bytes_asked : {A : Type 0} (n : Notation A) (key arg blank now : List ℕ) → HasBadBytes n key arg → None ≡ run_words_of n key arg blank now
no_bytes_asked n key arg blank now h = bad_bytes_none (bytes_of_word n key) (bytes_of_word n arg) (blank_of blank) (number_of 18446744073709551615 now) h

pub no_number_asked : {A : Type 0} (n : Notation A) (key arg blank now : List ℕ) → HasBadNumber n key arg blank now → None ≡ run_words_of n key arg blank now
no_number_asked n key arg blank now h = bad_number_none (bytes_of_word n key) (bytes_of_word n arg) (blank_of blank) (number_of 18446744073709551615 now) h.1.1

-- a word that is not a program's number
pub no_prog : {A : Type 0} (k : Option (List ℕ)) (p : Option ℕ) (a : Option (List ℕ)) (b : Option (Option ℕ)) (t : Option ℕ) → None ≡ p → None ≡ ask_of_run {A = A} k p a b t
no_prog None p a b t e = refl
no_prog (Some k) None a b t e = refl
no_prog (Some k) (Some p) a b t e = cc

-- if the other words are invalid, the line is not a run; if they are valid, it is
pub no_run : {A : Type 0} (k : Option (List ℕ)) (p : Option ℕ) (a : Option (List ℕ)) (b : Option (Option ℕ)) (t : Option ℕ) → None ≡ all_words {A = A} k a b t → None ≡ ask_of_run {A = A} k p a b t
no_run None p a b t e = refl
no_run (Some k) None a b t e = refl
no_run (Some k) (Some p) None b t e = refl
no_run (Some k) (Some p) (Some a) None t e = refl
no_run (Some k) (Some p) (Some a) (Some b) None e = refl
no_run (Some k) (Some p) (Some a) (Some b) (Some t) e = cc

pub some_run : {A : Type 0} (k : Option (List ℕ)) (p : Option ℕ) (a : Option (List ℕ)) (b : Option (Option ℕ)) (t : Option ℕ) (prog : ℕ) (words : RunWords A) → Some prog ≡ p → Some words ≡ all_words k a b t
    → Some (Run (record { key = words.key; prog = prog; arg = words.arg; blank = words.blank; now = words.now })) ≡ ask_of_run {A = A} k p a b t
some_run None p a b t prog words f e = cc
some_run (Some k) None a b t prog words f e = cc
some_run (Some k) (Some p) None b t prog words f e = cc
some_run (Some k) (Some p) (Some a) None t prog words f e = cc
some_run (Some k) (Some p) (Some a) (Some b) None prog words f e = cc
some_run {A = A} (Some k) (Some p) (Some a) (Some b) (Some t) prog words f e =
    ap (λ (w : RunWords A). Some (Run (record { key = w.key; prog = prog; arg = w.arg; blank = w.blank; now = w.now })))
    (same_Some words (record { key = k; arg = a; blank = b; now = t }) e)
    ∙ ap (λ (q : ℕ). Some (Run (record { key = k; prog = q; arg = a; blank = b; now = t }))) (same_Some prog p f)
