-- The conditions for each fault of a subcommand.
use Rattle.std.specs.Prelude.{◌≢◌, ℕ, ◌<◌, Bool, true, false, List, Option, IfSome, length, ⊤}
use Rattle.std.specs.Str.{IsUtf8}
use Rattle.sdbm_files.specs.declared.opening.OpenFault.{OpenFault}
use Rattle.sdbm_files.specs.declared.opening.OpenFault.TheVariants as opening
use Rattle.bpf_insn.specs.declared.fault.DecodeFault.{DecodeFault}
use Rattle.bpf_asm.specs.Denotes.{DenotesNone}
use Rattle.bpf_asm.specs.Fault.{IsLineOf}
use Rattle.bpf_asm.specs.declared.fault.AsmFault.{AsmFault}
use Rattle.bpf_asm.specs.declared.fault.FaultKind.TheVariants as kinds
use Rattle.dbm_script.specs.declared.fault.LinesFault.{LinesFault}
use Rattle.dbm_script.specs.declared.fault.LinesFault.TheVariants as lines
use Rattle.dbm_script.specs.declared.run_words.WordFault.{WordFault}
use Rattle.dbm_script.specs.declared.run_words.WordFault.TheVariants as meant
use Rattle.dbm_args.specs.declared.options.Form.{Form}
use Rattle.dbm_reports.specs.declared.databases.Given.{Given}
use Rattle.dbm_reports.specs.declared.fault.ReportFault.{ReportFault}
use Rattle.dbm_reports.specs.declared.fault.ReportFault.TheVariants.{BadHex, BadText, BadLayout, BadNumber, Open, NotText, Assemble, Decode, Read, TooLong, OutputTooLong, NoMemory}
use Rattle.dbm_reports.specs.Databases.{IsShut}

-- the conditions under which a subcommand may fail with each fault
pub record Causes : Type 1 where
  -- a word is not valid hex, valid text, a valid layout or a number
  pub words : Type 0
  pub texts : Type 0
  pub layouts : Type 0
  pub numbers : Type 0
  -- the files are not a database
  pub opening : OpenFault → Type 0
  -- the program's file is not text, the text is not a program, or the image is not a program
  pub no_text : Type 0
  pub assembling : AsmFault → Type 0
  pub decoding : DecodeFault → Type 0
  -- standard input could not be read, or is too long
  pub reading : Type 0
  pub long : Type 0
  -- the answers to a script are too long
  pub overlong : Type 0

abbrev pub no_causes : Causes
no_causes = record {
  words = ⊥;
  texts = ⊥;
  layouts = ⊥;
  numbers = ⊥;
  opening = λ reason. ⊥;
  no_text = ⊥;
  assembling = λ fault. ⊥;
  decoding = λ fault. ⊥;
  reading = ⊥;
  long = ⊥;
  overlong = ⊥;
}

-- A fault occurs only under its condition. Allocation may fail at any time.
abbrev pub IsCaused : Causes → ReportFault → Type 0
IsCaused causes BadHex = causes.words
IsCaused causes BadText = causes.texts
IsCaused causes BadLayout = causes.layouts
IsCaused causes BadNumber = causes.numbers
IsCaused causes (Open reason) = causes.opening reason
IsCaused causes NotText = causes.no_text
IsCaused causes (Assemble fault) = causes.assembling fault
IsCaused causes (Decode fault) = causes.decoding fault
IsCaused causes Read = causes.reading
IsCaused causes TooLong = causes.long
IsCaused causes OutputTooLong = causes.overlong
IsCaused causes NoMemory = ⊤

-- the faults of opening the files
abbrev pub opening_causes : Form → Given → Causes
opening_causes form given = record no_causes { opening = IsShut form given }

-- standard input, if it is known, has more than 16,777,216 bytes
abbrev pub IsLongScript : Option (List ℕ) → Type 0
IsLongScript input = IfSome input (λ bytes. 16777216 < length bytes)

abbrev pub input_causes : Option (List ℕ) → Causes
input_causes input = record no_causes { reading = ⊤; long = IsLongScript input }

-- the text is not a program; the fault has a line and is not `NoMemory`
abbrev pub IsUnassembled : List ℕ → AsmFault → Type 0
IsUnassembled file fault = IsUtf8 file × (DenotesNone file × (IsLineOf fault.kind fault.line × (fault.kind ≢ kinds.NoMemory)))

-- the faults of a file with the text of a program
abbrev pub text_causes : List ℕ → Causes
text_causes file = record no_causes {
  no_text = IsUtf8 file → ⊥;
  assembling = λ fault. IsUnassembled file fault;
}

-- the faults of the file of a program; an image may have any bytes
abbrev pub file_causes : Bool → List ℕ → Causes
file_causes true file = no_causes
file_causes false file = text_causes file

-- the fault of the subcommand if the files cannot be opened
abbrev pub open_fault : OpenFault → ReportFault
open_fault opening.NoMemory = NoMemory
open_fault reason = Open reason

-- the fault of the subcommand if the words of a run are invalid
abbrev pub word_fault : WordFault → ReportFault
word_fault meant.BadHex = BadHex
word_fault meant.BadText = BadText
word_fault meant.BadNumber = BadNumber
word_fault meant.NoMemory = NoMemory

-- the fault of the subcommand if running the lines of a script fails
abbrev pub lines_fault : LinesFault → ReportFault
lines_fault lines.OutputTooLong = OutputTooLong
lines_fault lines.NoMemory = NoMemory
