-- Running lines in sequence, and writing a text in parts.
use Rattle.std.proofs.Common.{◌≡◌, List, [], ◌∷◌, ◌++◌, ℕ, Option, Some, None, IfSome, length, eqb, false, refl, ap, ◌∙◌, sym, subst, append_assoc, codes, decimal}
use Rattle.std.specs.Prelude.{Ok, Err}
use Rattle.std.proofs.lemmas.Bool.{false≢true}
use Rattle.dbm_script.specs.Pieces.{pieces_of}
use Rattle.sdbm_addr.specs.Database.{Database}
use Rattle.sdbm_addr.specs.declared.PageSize.{PageSize}
use Rattle.store_cmd.specs.declared.Command.{Command}
use Rattle.store_cmd.specs.declared.Command.TheVariants.{Fetch, Store, Delete, Count}
use Rattle.store_cmd.specs.declared.Command.TheVariants as commands
use Rattle.store_cmd.specs.declared.SizeFault.{SizeFault}
use Rattle.store_cmd.specs.declared.SizeFault.TheVariants.{PairTooLarge, ArgTooLong}
use Rattle.store_cmd.specs.Command.{IsSmall, IsSizeFault}
use Rattle.store_cmd.specs.declared.Entry.{Entry}
use Rattle.store_moves.proofs.Acting.{Acts-unique}
use Rattle.dbm_script.specs.Lines.{ask_of}
use Rattle.dbm_script.specs.Images.{ImageVerdict}
use Rattle.dbm_script.specs.Incr.{counter_argument, counter_image}
use Rattle.dbm_script.specs.Answers.{IsAnswerTo, answer_text}
use Rattle.dbm_script.specs.declared.notations.Notation.{Notation}
use Rattle.dbm_script.specs.declared.answers.Answer.{Answer}
use Rattle.dbm_script.specs.declared.answers.Answer.TheVariants.{Replied, Refused}
use Rattle.dbm_script.specs.declared.lines.Ask.{Ask}
use Rattle.dbm_script.specs.declared.lines.Ask.TheVariants.{Plain, Program, Run, Incr}
use Rattle.dbm_script.specs.Script.{RunsLines, RunsScript, IsScriptRun, AnswersCommand, AnswersRun, AnswersLine, run_command, AddsBytes, Stage, stage}
use Rattle.dbm_script.proofs.Numbered.{Numbers-unique}

-- a property of the bytes that were read also holds for the known bytes
pub known_read : (known : Option (List ℕ)) (read : List ℕ) (P : List ℕ → Type 0) → IfSome known (λ input. read ≡ input) → P read → IfSome known P
known_read None read P h p = tt
known_read (Some x) read P h p = subst P h p

-- running more lines
pub RunsLines-append : (A : Type 0) (n : Notation A) (s mid s' : Stage) (lines more : List (List ℕ)) (told later : List (Option ImageVerdict)) (text added : List ℕ)
    → RunsLines A n s lines told text mid → RunsLines A n mid more later added s' → RunsLines A n s (lines ++ more) (told ++ later) (text ++ added) s'
RunsLines-append A n s mid s' [] more [] later text added r q =
    subst (λ (x : List ℕ). RunsLines A n s more later (x ++ added) s') (sym r.0) (subst (λ (m : Stage). RunsLines A n m more later added s') r.1 q)
RunsLines-append A n s mid s' [] more (v ∷ told) later text added r q = absurd r
RunsLines-append A n s mid s' ([] ∷ lines) more told later text added r q = RunsLines-append A n s mid s' lines more told later text added r q
RunsLines-append A n s mid s' ((c ∷ cs) ∷ lines) more [] later text added r q = absurd r
RunsLines-append A n s mid s' ((c ∷ cs) ∷ lines) more (v ∷ told) later text added r q =
    (r.0, (r.1.0 ++ added, (r.1.1.0, (r.1.1.1.0, (RunsLines-append A n r.1.1.0 mid s' lines more told later r.1.0 added r.1.1.1.1.0 q, ap (λ xs. xs ++ added) r.1.1.1.1.1 ∙ append_assoc r.0 (10 ∷ r.1.0) added)))))

-- running one more line
pub one_more : (A : Type 0) (n : Notation A) (s mid s' : Stage) (done : List (List ℕ)) (line : List ℕ) (told : List (Option ImageVerdict)) (text new : List ℕ)
    → RunsLines A n s done told text mid → (adds : AddsBytes text new (λ added. (later : List (Option ImageVerdict)) × RunsLines A n mid (line ∷ []) later added s'))
    → RunsLines A n s (done ++ line ∷ []) (told ++ adds.holds.0) new s'
one_more A n s mid s' done line told text new before adds =
    subst (λ (t : List ℕ). RunsLines A n s (done ++ line ∷ []) (told ++ adds.holds.0) t s') (sym adds.is)
    (RunsLines-append A n s mid s' done (line ∷ []) told adds.holds.0 text adds.added before adds.holds.1)

-- the next line is done, and the lines after it are left
pub next_done : (done : List (List ℕ)) (line : List ℕ) (left after all : List (List ℕ)) → done ++ left ≡ all → left ≡ line ∷ after → (done ++ line ∷ []) ++ after ≡ all
next_done done line left after all is first = append_assoc done (line ∷ []) after ∙ ap (λ (ls : List (List ℕ)). done ++ ls) (sym first) ∙ is

-- running a line that is not empty
pub line_runs : (A : Type 0) (n : Notation A) (s s' : Stage) (line : List ℕ) (old mid new : List ℕ) → eqb (length line) 0 ≡ false
    → AddsBytes old mid (λ added. (told : Option ImageVerdict) × AnswersLine A n s (ask_of n (pieces_of 32 line)) told added s') → new ≡ mid ++ 10 ∷ []
    → AddsBytes old new (λ added. (told : List (Option ImageVerdict)) × RunsLines A n s (line ∷ []) told added s')
line_runs A n s s' [] old mid new some adds more = absurd (false≢true (sym some))
line_runs A n s s' (c ∷ cs) old mid new some adds more = record {
  added = adds.added ++ 10 ∷ [];
  is = more ∙ ap (λ xs. xs ++ 10 ∷ []) adds.is ∙ append_assoc old adds.added (10 ∷ []);
  holds = (adds.holds.0 ∷ [], (adds.added, ([], (s', (adds.holds.1, ((refl, refl), refl))))));
}

-- ---- the result is unique

same_entry : {A : Type 0} (x y : Entry A) → x.session ≡ y.session → x.command ≡ y.command → x.reply ≡ y.reply → x ≡ y
same_entry x y s c r = λ i. record { session = s i; command = c i; reply = r i }

-- a command of valid size has no size fault
small_or_not : {A : Type 0} (size : PageSize) (command : Command A) (fault : SizeFault) → IsSmall size command → IsSizeFault size command fault → ⊥
small_or_not size (Fetch key) PairTooLarge small bad = bad tt
small_or_not size (Fetch key) ArgTooLong small bad = bad.1 tt
small_or_not size (Store key value mode) PairTooLarge small bad = bad small
small_or_not size (Store key value mode) ArgTooLong small bad = bad.1 tt
small_or_not size (Delete key) PairTooLarge small bad = bad tt
small_or_not size (Delete key) ArgTooLong small bad = bad.1 tt
small_or_not size (commands.Run key program argument blank now) PairTooLarge small bad = bad small.0
small_or_not size (commands.Run key program argument blank now) ArgTooLong small bad = bad.1 small.1
small_or_not size Count PairTooLarge small bad = bad tt
small_or_not size Count ArgTooLong small bad = bad.1 tt

-- the size fault of a command is unique
one_fault : {A : Type 0} (size : PageSize) (command : Command A) (x y : SizeFault) → IsSizeFault size command x → IsSizeFault size command y → x ≡ y
one_fault size command PairTooLarge PairTooLarge p q = refl
one_fault size command PairTooLarge ArgTooLong p q = absurd (p q.0)
one_fault size command ArgTooLong PairTooLarge p q = absurd (q p.0)
one_fault size command ArgTooLong ArgTooLong p q = refl

-- the answer to a command, and the database after it, are unique
IsAnswerTo-unique : (A : Type 0) (s : Database) (command : Command A) (x y : Answer A) (a b : Database)
    → IsAnswerTo A s command x a → IsAnswerTo A s command y b → (x ≡ y) × (a ≡ b)
IsAnswerTo-unique A s command (Replied x) (Replied y) a b p q =
    let same = Acts-unique s x y a b (p.1.0 ∙ sym q.1.0) (p.1.1.0 ∙ sym q.1.1.0) p.1.1.1 q.1.1.1 in
    (ap Replied (same_entry x y (p.1.0 ∙ sym q.1.0) (p.1.1.0 ∙ sym q.1.1.0) same.0), same.1)
IsAnswerTo-unique A s command (Replied x) (Refused fault) a b p q = absurd (small_or_not s.size command fault p.0 q.0)
IsAnswerTo-unique A s command (Refused fault) (Replied y) a b p q = absurd (small_or_not s.size command fault q.0 p.0)
IsAnswerTo-unique A s command (Refused x) (Refused y) a b p q = (ap Refused (one_fault s.size command x y p.0 q.0), p.1 ∙ sym q.1)

AnswersCommand-unique : (A : Type 0) (n : Notation A) (db : Database) (command : Command A) (t u : List ℕ) (a b : Database) → AnswersCommand A n db command t a → AnswersCommand A n db command u b → (t ≡ u) × (a ≡ b)
AnswersCommand-unique A n db command t u a b x y =
    let same = IsAnswerTo-unique A db command x.0 y.0 a b x.1.0 y.1.0 in
    (x.1.1 ∙ ap (λ (answer : Answer A). answer_text n answer) same.0 ∙ sym y.1.1, same.1)

AnswersRun-unique : (A : Type 0) (n : Notation A) (db : Database) (command : Option (Command A)) (t u : List ℕ) (a b : Database) → AnswersRun A n db command t a → AnswersRun A n db command u b → (t ≡ u) × (a ≡ b)
AnswersRun-unique A n db None t u a b x y = (x.0 ∙ sym y.0, x.1 ∙ sym y.1)
AnswersRun-unique A n db (Some command) t u a b x y = AnswersCommand-unique A n db command t u a b x y

same_stage : (x y : Stage) → x.db ≡ y.db → x.programs ≡ y.programs → x ≡ y
same_stage x y d p = λ i. record { db = d i; programs = p i }

-- given the verdict on its program image, the effect of a line and the text of its answer are unique
AnswersLine-unique : (A : Type 0) (n : Notation A) (s : Stage) (ask : Option (Ask A)) (told : Option ImageVerdict) (t u : List ℕ) (a b : Stage)
    → AnswersLine A n s ask told t a → AnswersLine A n s ask told u b → (t ≡ u) × (a ≡ b)
AnswersLine-unique A n s None told t u a b x y = (x.1.0 ∙ sym y.1.0, x.1.1 ∙ sym y.1.1)
AnswersLine-unique A n s (Some (Plain command)) told t u a b x y =
    let same = AnswersCommand-unique A n s.db command t u a.db b.db x.1.1 y.1.1 in
    (same.0, same_stage a b same.1 (x.1.0 ∙ sym y.1.0))
AnswersLine-unique A n s (Some (Run run)) told t u a b x y =
    let same = AnswersRun-unique A n s.db (run_command s.programs run.key run.prog run.arg run.blank run.now) t u a.db b.db x.1.1 y.1.1 in
    (same.0, same_stage a b same.1 (x.1.0 ∙ sym y.1.0))
AnswersLine-unique A n s (Some (Incr incr)) None t u a b x y = absurd x
AnswersLine-unique A n s (Some (Incr incr)) (Some (Ok p)) t u a b x y =
    let numbers = Numbers-unique s.programs counter_image p x.0 y.0 a.programs b.programs x.1.0 y.1.0 in
    let same = AnswersCommand-unique A n s.db (commands.Run incr.key p.code (counter_argument incr.amount 0 18446744073709551615) (Some 8) 0) t u a.db b.db x.1.1 y.1.1 in
    (same.0, same_stage a b same.1 numbers.1)
AnswersLine-unique A n s (Some (Incr incr)) (Some (Err fault)) t u a b x y =
    (x.1.1.1.1 ∙ sym y.1.1.1.1, same_stage a b (x.0 ∙ sym y.0) (x.1.1.1.0 ∙ sym y.1.1.1.0))
AnswersLine-unique A n s (Some (Program image)) None t u a b x y = absurd x
AnswersLine-unique A n s (Some (Program image)) (Some (Ok p)) t u a b x y =
    let same = Numbers-unique s.programs image p x.1.0 y.1.0 a.programs b.programs x.1.1.0 y.1.1.0 in
    (x.1.1.1 ∙ ap (λ (id : ℕ). codes "program " ++ decimal id) same.0 ∙ sym y.1.1.1, same_stage a b (x.0 ∙ sym y.0) same.1)
AnswersLine-unique A n s (Some (Program image)) (Some (Err fault)) t u a b x y =
    (x.1.1.1.1 ∙ sym y.1.1.1.1, same_stage a b (x.0 ∙ sym y.0) (x.1.1.1.0 ∙ sym y.1.1.1.0))

pub RunsLines-unique : (A : Type 0) (n : Notation A) (s : Stage) (lines : List (List ℕ)) (told : List (Option ImageVerdict)) (t u : List ℕ) (a b : Stage)
    → RunsLines A n s lines told t a → RunsLines A n s lines told u b → (t ≡ u) × (a ≡ b)
RunsLines-unique A n s [] [] t u a b x y = (x.0 ∙ sym y.0, x.1 ∙ sym y.1)
RunsLines-unique A n s [] (v ∷ told) t u a b x y = absurd x
RunsLines-unique A n s ([] ∷ lines) told t u a b x y = RunsLines-unique A n s lines told t u a b x y
RunsLines-unique A n s ((c ∷ cs) ∷ lines) [] t u a b x y = absurd x
RunsLines-unique A n s ((c ∷ cs) ∷ lines) (v ∷ told) t u a b x y =
    let first = AnswersLine-unique A n s (ask_of n (pieces_of 32 (c ∷ cs))) v x.0 y.0 x.1.1.0 y.1.1.0 x.1.1.1.0 y.1.1.1.0 in
    let there : RunsLines A n x.1.1.0 lines told y.1.0 b = subst (λ (m : Stage). RunsLines A n m lines told y.1.0 b) (sym first.1) y.1.1.1.1.0 in
    let rest = RunsLines-unique A n x.1.1.0 lines told x.1.0 y.1.0 a b x.1.1.1.1.0 there in
    (x.1.1.1.1.1 ∙ ap (λ xs. xs ++ 10 ∷ x.1.0) first.0 ∙ ap (λ xs. y.0 ++ 10 ∷ xs) rest.0 ∙ sym y.1.1.1.1.1, rest.1)

pub IsScriptRun-from : (A : Type 0) (n : Notation A) (db : Database) (input : List ℕ) (told : List (Option ImageVerdict)) (text : List ℕ) (s' : Database)
    → RunsScript A n db input told text s' → IsScriptRun A n db input text s'
IsScriptRun-from A n db input told text s' runs = record {
  told = told;
  runs = runs;
  only = λ other d also.
      let same = RunsLines-unique A n (stage db []) (pieces_of 10 input) told other text (stage d also.0) (stage s' runs.0) also.1 runs.1 in
      (same.0, ap (λ (s : Stage). s.db) same.1);
}
