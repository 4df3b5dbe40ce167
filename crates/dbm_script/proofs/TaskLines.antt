-- Reading the tasks of lines in sequence.
use Rattle.std.proofs.Common.{◌≡◌, ℕ, ◌<◌, ◌≤◌, List, [], ◌∷◌, ◌++◌, None, length, length-append, refl, ap, arith, rules, eqb}
use Rattle.std.proofs.lemmas.List.Splits.{length-slice_split}
use Rattle.std.proofs.lemmas.List.Sums.{count_by-le-length}
use Rattle.dbm_script.specs.Pieces.{pieces_of}
use Rattle.dbm_script.specs.declared.notations.Notation.{Notation}
use Rattle.dbm_script.specs.declared.run_words.RunWords.{RunWords}
use Rattle.dbm_script.specs.Tasks.{AskTasks, task_of}

-- five or more words are not a task
pub too_many_for_a_task : {A : Type 0} (n : Notation A) (a b c d rest : List ℕ) → None ≡ task_of n (a ∷ b ∷ c ∷ d ∷ pieces_of 32 rest)
too_many_for_a_task {A = A} n a b c d rest = none (pieces_of 32 rest) (let long = length-slice_split (λ x. eqb x 32) rest in omega arith)
  where
    none : (words : List (List ℕ)) → 0 < length words → None ≡ task_of n (a ∷ b ∷ c ∷ d ∷ words)
    none [] h = absurd (search (rules, h))
    none (word ∷ words) h = refl

-- reading more lines
pub AskTasks-append : (A : Type 0) (n : Notation A) (lines more : List (List ℕ)) (tasks added : List (RunWords A))
    → AskTasks A n lines tasks → AskTasks A n more added → AskTasks A n (lines ++ more) (tasks ++ added)
AskTasks-append A n [] more [] added p q = q
AskTasks-append A n [] more (task ∷ tasks) added p q = absurd p
AskTasks-append A n ([] ∷ lines) more tasks added p q = AskTasks-append A n lines more tasks added p q
AskTasks-append A n ((c ∷ cs) ∷ lines) more [] added p q = absurd p
AskTasks-append A n ((c ∷ cs) ∷ lines) more (task ∷ tasks) added p q = (p.0, AskTasks-append A n lines more tasks added p.1 q)

-- the number of lines before any line is at most the number of bytes
pub lines_before : (input line : List ℕ) (done behind : List (List ℕ)) → done ++ line ∷ behind ≡ pieces_of 10 input → length done ≤ length input
lines_before input line done behind is =
    let all = length-slice_split (λ b. eqb b 10) input in
    let most = count_by-le-length (λ b. eqb b 10) input in
    let parts = length-append done (line ∷ behind) in
    let same = ap length is in
    omega arith
