-- Lifting the fault of a step to a fault of the script.
use Rattle.std.proofs.Common.{◌≡◌, ℕ, List, Option, Some, None, Bor, refl, sym, subst}
use Rattle.std.specs.declared.alloc.Global.{Global}
use Rattle.std.proofs.lemmas.Option.{none-some}
use Rattle.sdbm_addr.specs.Database.{Database}
use Rattle.dbm_script.specs.Script.{AnswersExceed}
use Rattle.dbm_script.specs.declared.fault.LinesFault.{LinesFault}
use Rattle.dbm_script.specs.declared.fault.LinesFault.TheVariants as lines
use Rattle.dbm_args.specs.declared.options.Form.{Form}
use Rattle.dbm_script.specs.declared.notations.Notation.{Notation}
use Rattle.dbm_script.specs.declared.shorthand.TimeOfDay.{TimeOfDay}
use Rattle.dbm_databases.specs.declared.script.Script.{Script}
use Rattle.dbm_reports.specs.declared.databases.Given.{Given}
use Rattle.dbm_reports.specs.declared.fault.ReportFault.{ReportFault}
use Rattle.dbm_reports.specs.declared.fault.ReportFault.TheVariants.{BadHex, BadText, BadLayout, BadNumber, Open, NotText, Assemble, Decode, Read, TooLong, OutputTooLong, NoMemory}
use Rattle.dbm_reports.specs.Databases.{CanBeOpened}
use Rattle.dbm_databases.specs.Playing.{output_limit, IsOverlong, alone_causes, numbered_causes, play_causes, script_causes}
use Rattle.dbm_reports.specs.Causes.{Causes, IsCaused, input_causes, lines_fault}
use Rattle.dbm_databases.specs.Script.{script_in}

-- standard input is read after the files are opened
pub input_fault : (n : Notation Global) (form : Form) (given : Given) (time : Option TimeOfDay) (input : Option (List ℕ)) (most : ℕ) (fault : ReportFault) → CanBeOpened form given → IsCaused (input_causes input) fault → IsCaused (script_causes n form given time input most) fault
input_fault n form given time input most BadHex opens h = h
input_fault n form given time input most BadText opens h = h
input_fault n form given time input most BadLayout opens h = h
input_fault n form given time input most BadNumber opens h = h
input_fault n form given time input most (Open reason) opens h = absurd h
input_fault n form given time input most NotText opens h = h
input_fault n form given time input most (Assemble fault) opens h = h
input_fault n form given time input most (Decode fault) opens h = h
input_fault n form given time input most Read opens h = opens
input_fault n form given time input most TooLong opens h = (opens, h)
input_fault n form given time input most OutputTooLong opens h = absurd h
input_fault n form given time input most NoMemory opens h = tt

-- reading standard input for a script on an empty database
pub alone_fault : (n : Notation Global) (form : Form) (time : Option TimeOfDay) (input : Option (List ℕ)) (most : ℕ) (fault : ReportFault) → IsCaused (input_causes input) fault → IsCaused (alone_causes n form time input most) fault
alone_fault n form time input most BadHex h = h
alone_fault n form time input most BadText h = h
alone_fault n form time input most BadLayout h = h
alone_fault n form time input most BadNumber h = h
alone_fault n form time input most (Open reason) h = h
alone_fault n form time input most NotText h = h
alone_fault n form time input most (Assemble fault) h = h
alone_fault n form time input most (Decode fault) h = h
alone_fault n form time input most Read h = h
alone_fault n form time input most TooLong h = h
alone_fault n form time input most OutputTooLong h = absurd h
alone_fault n form time input most NoMemory h = h

-- running a script after other steps
pub played_fault : (causes : Causes) (n : Notation Global) (db : Database) (input : Option (List ℕ)) (most : ℕ) (fault : ReportFault) → (IsOverlong n db input most → causes.overlong) → IsCaused (play_causes n db input most) fault → IsCaused causes fault
played_fault causes n db input most BadHex f h = absurd h
played_fault causes n db input most BadText f h = absurd h
played_fault causes n db input most BadLayout f h = absurd h
played_fault causes n db input most BadNumber f h = absurd h
played_fault causes n db input most (Open reason) f h = absurd h
played_fault causes n db input most NotText f h = absurd h
played_fault causes n db input most (Assemble fault) f h = absurd h
played_fault causes n db input most (Decode fault) f h = absurd h
played_fault causes n db input most Read f h = absurd h
played_fault causes n db input most TooLong f h = absurd h
played_fault causes n db input most OutputTooLong f h = f h
played_fault causes n db input most NoMemory f h = tt

-- the fault of lines that did not all run
pub lines_caused : (n : Notation Global) (db : Database) (input : List ℕ) (most : ℕ) (fault : LinesFault) → (fault ≡ lines.OutputTooLong → AnswersExceed Global n db input most) → IsCaused (play_causes n db (Some input) most) (lines_fault fault)
lines_caused n db input most lines.OutputTooLong long = long refl
lines_caused n db input most lines.NoMemory long = tt

-- an invalid number is the first fault
pub unnumbered : (n : Option ℕ) (causes : ℕ → Causes) → n ≡ None → IsCaused (numbered_causes n causes) BadNumber
unnumbered None causes is = tt
unnumbered (Some n) causes is = absurd (none-some n (sym is))

-- the faults after a valid number
pub numbered : (n : Option ℕ) (m : ℕ) (causes : ℕ → Causes) (fault : ReportFault) → n ≡ Some m → IsCaused (causes m) fault → IsCaused (numbered_causes n causes) fault
numbered n m causes fault is h = subst (λ (o : Option ℕ). IsCaused (numbered_causes o causes) fault) (sym is) h

-- a script whose limit is not a number
pub unlimited : (n : Notation Global) (base : Option (Bor (List ℕ))) (script : Script) (given : Given) (input : Option (List ℕ)) → output_limit script.max_output ≡ None
    → IsCaused (script_in n base script given input).causes BadNumber
unlimited n None script given input is = unnumbered (output_limit script.max_output) (alone_causes n script.form script.time input) is
unlimited n (Some base) script given input is = unnumbered (output_limit script.max_output) (script_causes n script.form given script.time input) is

-- the faults after the limit of a script, on an empty database and on the database of the files
pub caused_alone : (n : Notation Global) (script : Script) (given : Given) (input : Option (List ℕ)) (most : ℕ) (fault : ReportFault) → script.base ≡ None → output_limit script.max_output ≡ Some most
    → IsCaused (alone_causes n script.form script.time input most) fault → IsCaused (script_in n script.base script given input).causes fault
caused_alone n script given input most fault none is h =
    subst (λ (base : Option (Bor (List ℕ))). IsCaused (script_in n base script given input).causes fault) (sym none)
    (numbered (output_limit script.max_output) most (alone_causes n script.form script.time input) fault is h)

pub caused_on : (n : Notation Global) (base : Bor (List ℕ)) (script : Script) (given : Given) (input : Option (List ℕ)) (most : ℕ) (fault : ReportFault) → script.base ≡ Some base → output_limit script.max_output ≡ Some most
    → IsCaused (script_causes n script.form given script.time input most) fault → IsCaused (script_in n script.base script given input).causes fault
caused_on n base script given input most fault some is h =
    subst (λ (o : Option (Bor (List ℕ))). IsCaused (script_in n o script given input).causes fault) (sym some)
    (numbered (output_limit script.max_output) most (script_causes n script.form given script.time input) fault is h)
