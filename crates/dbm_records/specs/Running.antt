-- A run of a program from a file on a database, and the conditions of its faults.
use Rattle.std.specs.Prelude.{◌≡◌, ℕ, ◌⊎◌, Bool, true, false, List, [], Option, Some, None, IsSome, option_map}
use Rattle.std.specs.Borrow.{Bor}
use Rattle.std.specs.declared.alloc.Global.{Global}
use Rattle.sdbm_addr.specs.Database.{Database}
use Rattle.store_cmd.specs.declared.Command.TheVariants.{Run}
use Rattle.bpf_verify.specs.Verified.{Accepted}
use Rattle.prog_registry.specs.Judged.{IsProgramOf}
use Rattle.prog_registry.specs.declared.fault.RegFault.{RegFault}
use Rattle.dbm_script.specs.declared.notations.Notation.{Notation}
use Rattle.dbm_script.specs.Images.{Denies}
use Rattle.dbm_args.specs.declared.options.Form.{Form}
use Rattle.dbm_reports.specs.declared.report.Report.{Report}
use Rattle.dbm_reports.specs.declared.databases.Given.{Given}
use Rattle.dbm_script.specs.declared.run_words.RunWords.{RunWords}
use Rattle.dbm_reports.specs.Databases.{IsOpened, IsShut, CanBeOpened}
use Rattle.dbm_script.specs.Notation.{reads_hex}
use Rattle.dbm_script.specs.Tasks.{HasBadBytes, HasBadNumber, run_words_of}
use Rattle.dbm_script.specs.Numbers.{number_of}
use Rattle.dbm_reports.specs.Reports.{ChangesFiles, IsFileImage, ReportsRefusal}
use Rattle.dbm_reports.specs.Causes.{Causes, no_causes, file_causes}

-- the words of a run and its expected code, as given on the command line
pub record RunTexts : Type 0 where
  pub key : List ℕ
  pub arg : List ℕ
  pub blank : List ℕ
  pub now : List ℕ
  pub expect : Option (Bor (List ℕ))

-- the expected code of a run, if there is one; None if the option is not a number
abbrev pub expected_code : Option (Bor (List ℕ)) → Option (Option ℕ)
expected_code None = Some None
expected_code (Some text) = option_map Some (number_of 18446744073709551615 text.now)

-- the meaning of the words of a run
abbrev pub run_asked : Notation Global → RunTexts → Option (RunWords Global)
run_asked notation texts = run_words_of notation texts.key texts.arg texts.blank texts.now

-- the meaning of the words, and the expected code
abbrev pub AreRunWords : Notation Global → RunTexts → RunWords Global → Option ℕ → Type 0
AreRunWords notation texts words expect = (run_asked notation texts ≡ Some words) × (expected_code texts.expect ≡ Some expect)

abbrev pub MeansRun : Notation Global → RunTexts → Type 0
MeansRun notation texts = (words : RunWords Global) × ((expect : Option ℕ) × AreRunWords notation texts words expect)

-- the words are valid, but the expected code is not a number
abbrev pub HasBadCode : Notation Global → RunTexts → Type 0
HasBadCode notation texts = IsSome (run_asked notation texts) × (expected_code texts.expect ≡ None)

abbrev pub word_causes : Notation Global → RunTexts → Causes
word_causes notation texts = record no_causes {
  words = (reads_hex notation ≡ true) × HasBadBytes notation texts.key texts.arg;
  texts = (reads_hex notation ≡ false) × HasBadBytes notation texts.key texts.arg;
  numbers = HasBadNumber notation texts.key texts.arg texts.blank texts.now ⊎ HasBadCode notation texts;
}

-- the faults of the files; faults of the database come before faults of the program
abbrev pub program_causes : Form → Given → Bool → Causes
program_causes form given is_image = record no_causes {
  opening = IsShut form given;
  no_text = CanBeOpened form given × (file_causes is_image given.file.items).no_text;
  assembling = λ fault. CanBeOpened form given × (file_causes is_image given.file.items).assembling fault;
}

-- the faults of a run; faults of the words come before faults of the files
abbrev pub run_causes : Notation Global → Form → Given → RunTexts → Bool → Causes
run_causes notation form given texts is_image = record no_causes {
  words = (word_causes notation texts).words;
  texts = (word_causes notation texts).texts;
  numbers = (word_causes notation texts).numbers;
  opening = λ reason. MeansRun notation texts × IsShut form given reason;
  no_text = MeansRun notation texts × (program_causes form given is_image).no_text;
  assembling = λ fault. MeansRun notation texts × (program_causes form given is_image).assembling fault;
}

-- the status if the program is refused: 3 if a code is expected
abbrev pub refusal_status : Option ℕ → ℕ
refusal_status None = 1
refusal_status (Some code) = 3

-- The program of the image is accepted, and the report is that of its run; or a registry without programs refuses the image, and the report
-- gives the reason and the unchanged database.
abbrev pub RunsImage : Notation Global → Database → RunWords Global → Option ℕ → List ℕ → Report → Type 0
RunsImage notation before words expect image report =
    ((p : Accepted) × (IsProgramOf image p × ChangesFiles notation before (Run words.key p.code words.arg words.blank words.now) expect report))
    ⊎ ((fault : RegFault) × (Denies [] image fault × ReportsRefusal fault (refusal_status expect) (Some before) report))

-- the report of a run of the program in the program's file, on the database in the files
pub record OnRun (notation : Notation Global) (form : Form) (given : Given) (texts : RunTexts) (is_image : Bool) (report : Report) : Type 0 where
  pub before : Database
  pub opened : IsOpened form given before
  pub words : RunWords Global
  pub expect : Option ℕ
  pub are : AreRunWords notation texts words expect
  pub image : List ℕ
  pub image_is : IsFileImage is_image given.file.items image
  pub runs : RunsImage notation before words expect image report
