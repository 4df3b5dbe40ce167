-- The report of a subcommand: the text to print, the status, and the database to save.
use Rattle.std.specs.Prelude.{◌≡◌, ◌==◌, ℕ, ◌++◌, Bool, true, false, cond, List, [], ◌∷◌, codes, decimal, Option, Some, None}
use Rattle.std.specs.declared.alloc.Global.{Global}
use Rattle.sdbm_addr.specs.Database.{Database}
use Rattle.store_cmd.specs.declared.Command.{Command}
use Rattle.store_cmd.specs.declared.Reply.{Reply}
use Rattle.store_cmd.specs.declared.Reply.TheVariants.{Found, Missing, Stored, Exists, Crowded, Deleted, Ran, Count}
use Rattle.bpf_insn.specs.declared.insn.Insn.{Insn}
use Rattle.bpf_insn.specs.Code.{IsImage}
use Rattle.bpf_asm.specs.Denotes.{Denotes, IsOnlyCode}
use Rattle.prog_registry.specs.FaultText.{fault_text}
use Rattle.prog_registry.specs.declared.fault.RegFault.{RegFault}
use Rattle.dbm_script.specs.declared.answers.Answer.{Answer}
use Rattle.dbm_script.specs.declared.answers.Answer.TheVariants.{Replied, Refused}
use Rattle.dbm_script.specs.Answers.{IsAnswerTo, answer_text}
use Rattle.dbm_script.specs.declared.notations.Notation.{Notation}
use Rattle.dbm_args.specs.declared.options.Form.{Form}
use Rattle.dbm_reports.specs.declared.report.Report.{Report}
use Rattle.dbm_reports.specs.declared.databases.Given.{Given}
use Rattle.dbm_reports.specs.Databases.{IsOpened}

-- the report only prints this text
pub record Prints (text : List ℕ) (report : Report) : Type 0 where
  pub text_is : report.text.items ≡ text
  pub status_is : report.status ≡ 0
  pub written : report.database ≡ None

-- the report only prints a text, and R relates the file to this text
abbrev pub PrintsOf : (List ℕ → List ℕ → Type 0) → List ℕ → Report → Type 0
PrintsOf R file report = R file report.text.items × Prints report.text.items report

-- ---- one command

-- the status is 1 if the key is missing or the requested change was not made
abbrev pub reply_status : {A : Type 0} → Reply A → ℕ
reply_status (Found value) = 0
reply_status Missing = 1
reply_status Stored = 0
reply_status Exists = 1
reply_status Crowded = 1
reply_status Deleted = 0
reply_status (Ran code word) = 0
reply_status (Count n) = 0

abbrev pub answer_status : {A : Type 0} → Answer A → ℕ
answer_status (Replied entry) = reply_status entry.reply
answer_status (Refused fault) = 1

-- the status of a run with an expected code: 1 if it returned another code, and 3 if it did not run
abbrev pub run_status : {A : Type 0} → ℕ → Reply A → ℕ
run_status code (Ran ended word) = cond (ended == code) 0 1
run_status code _ = 3

abbrev pub code_status : {A : Type 0} → ℕ → Answer A → ℕ
code_status code (Replied entry) = run_status code entry.reply
code_status code (Refused fault) = 3

-- the status of an answer, with or without an expected code
abbrev pub status_of : {A : Type 0} → Option ℕ → Answer A → ℕ
status_of None answer = answer_status answer
status_of (Some code) answer = code_status code answer

-- the report of a command: its answer as a line, and the status of the answer
pub record IsCommandReport (notation : Notation Global) (before : Database) (command : Command Global) (expect : Option ℕ) (after : Database) (report : Report) : Type 0 where
  pub answer : Answer Global
  pub answers : IsAnswerTo Global before command answer after
  pub kind : after.kind ≡ before.kind
  pub size : after.size ≡ before.size
  pub text_is : report.text.items ≡ answer_text notation answer ++ 10 ∷ []
  pub status_is : report.status ≡ status_of expect answer

-- the report of a command, without a database to save
abbrev pub Looks : Notation Global → Database → Command Global → Report → Type 0
Looks notation before command report = (after : Database) × (IsCommandReport notation before command None after report × (report.database ≡ None))

-- the report of a command, with the resulting database to save
abbrev pub ChangesFiles : Notation Global → Database → Command Global → Option ℕ → Report → Type 0
ChangesFiles notation before command expect report = (after : Database) × (IsCommandReport notation before command expect after report × (report.database ≡ Some after))

-- ---- the whole database

-- a line with a number of pairs
abbrev pub ok_line : ℕ → List ℕ
ok_line n = codes "ok " ++ (decimal n ++ 10 ∷ [])

-- P holds for the database in the files
abbrev pub OnDatabase : Form → Given → (Database → Type 0) → Type 0
OnDatabase form given P = (db : Database) × (IsOpened form given db × P db)

-- ---- programs

-- the image of the only code that the text denotes
pub record IsTextImage (text image : List ℕ) : Type 0 where
  pub code : List Insn
  pub denotes : Denotes text code
  pub only : IsOnlyCode text code
  pub is_image : IsImage code image

-- the image in a program's file: the bytes of the file, or the image of its text
abbrev pub IsFileImage : Bool → List ℕ → List ℕ → Type 0
IsFileImage true file image = image ≡ file
IsFileImage false file image = IsTextImage file image

-- the report prints the reason for refusing a program image
pub record ReportsRefusal (fault : RegFault) (status : ℕ) (database : Option Database) (report : Report) : Type 0 where
  pub text_is : report.text.items ≡ (codes "refused " ++ fault_text fault) ++ 10 ∷ []
  pub status_is : report.status ≡ status
  pub written : report.database ≡ database
