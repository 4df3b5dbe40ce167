-- Proofs about writing and loading dumps.
use Rattle.std.proofs.Common.{◌≡◌, ℕ, List, Option, Some, None, IfSome, subst, sym}
use Rattle.std.proofs.lemmas.Option.{none-some}
use Rattle.sdbm_addr.specs.Database.{Database}
use Rattle.sdbm_addr.specs.declared.Mode.{Mode}
use Rattle.dbm_args.specs.declared.options.Form.{Form}
use Rattle.dbm_dump.specs.Loading.{IsLoadFault}
use Rattle.dbm_dump.specs.declared.fault.DumpFault.{DumpFault}
use Rattle.dbm_dump.specs.declared.fault.DumpFault.TheVariants as dump
use Rattle.dbm_dump.specs.declared.format.Format.{Format}
use Rattle.dbm_dump.specs.declared.stage.Stage.{Stage}
use Rattle.dbm_reports.specs.declared.databases.Given.{Given}
use Rattle.dbm_reports.specs.declared.fault.ReportFault.{ReportFault}
use Rattle.dbm_reports.specs.declared.fault.ReportFault.TheVariants.{BadHex, BadText, BadLayout, BadNumber, Open, NotText, Assemble, Decode, Read, TooLong, OutputTooLong, NoMemory}
use Rattle.dbm_reports.specs.Databases.{IsOpened}
use Rattle.dbm_reports.specs.Causes.{IsCaused, opening_causes}
use Rattle.dbm_dump.specs.Causes.{HasDumpCause, dump_fault}
use Rattle.dbm_dump.specs.Dump.{dump_causes}
use Rattle.dbm_dump.specs.Load.{load_causes}
use Rattle.dbm_dump.specs.declared.copy_fault.CopyFault.TheVariants.{Report, Dump}

-- an unknown format name gives `BadFormat`
pub unwritable : (o : Option Format) (form : Form) (given : Given) → o ≡ None → HasDumpCause (dump_causes o form given) (Dump dump.BadFormat)
unwritable None form given is = tt
unwritable (Some format) form given is = absurd (none-some format (sym is))

pub unreadable : (o : Option Stage) (mode : Mode) (form : Form) (given : Given) (input : Option (List ℕ)) → o ≡ None → HasDumpCause (load_causes o mode form given input) (Dump dump.BadFormat)
unreadable None mode form given input is = tt
unreadable (Some start) mode form given input is = absurd (none-some start (sym is))

-- with a known format, the faults are those of opening the files
pub shut_dump : (o : Option Format) (format : Format) (form : Form) (given : Given) (fault : ReportFault) → o ≡ Some format → IsCaused (opening_causes form given) fault
    → HasDumpCause (dump_causes o form given) (Report fault)
shut_dump o format form given fault is h = subst (λ (option : Option Format). HasDumpCause (dump_causes option form given) (Report fault)) (sym is) h

shut_start : (start : Stage) (mode : Mode) (form : Form) (given : Given) (input : Option (List ℕ)) (fault : ReportFault) → IsCaused (opening_causes form given) fault
    → HasDumpCause (load_causes (Some start) mode form given input) (Report fault)
shut_start start mode form given input BadHex h = absurd h
shut_start start mode form given input BadText h = absurd h
shut_start start mode form given input BadLayout h = absurd h
shut_start start mode form given input BadNumber h = absurd h
shut_start start mode form given input (Open reason) h = h
shut_start start mode form given input NotText h = absurd h
shut_start start mode form given input (Assemble fault) h = absurd h
shut_start start mode form given input (Decode fault) h = absurd h
shut_start start mode form given input Read h = absurd h
shut_start start mode form given input TooLong h = absurd h
shut_start start mode form given input OutputTooLong h = absurd h
shut_start start mode form given input NoMemory h = tt

pub shut_load : (o : Option Stage) (start : Stage) (mode : Mode) (form : Form) (given : Given) (input : Option (List ℕ)) (fault : ReportFault) → o ≡ Some start
    → IsCaused (opening_causes form given) fault → HasDumpCause (load_causes o mode form given input) (Report fault)
shut_load o start mode form given input fault is h =
    subst (λ (option : Option Stage). HasDumpCause (load_causes option mode form given input) (Report fault)) (sym is) (shut_start start mode form given input fault h)

-- a dump that fails to load into the database of the files
unloaded_start : (start : Stage) (mode : Mode) (form : Form) (given : Given) (input : Option (List ℕ)) (db : Database) (reason : DumpFault) → IsOpened form given db
    → IfSome input (λ bytes. IsLoadFault start mode db bytes reason) → HasDumpCause (load_causes (Some start) mode form given input) (dump_fault reason)
unloaded_start start mode form given input db dump.BadFormat opened h = (db, (opened, h))
unloaded_start start mode form given input db dump.Read opened h = (db, opened)
unloaded_start start mode form given input db (dump.BadDump line) opened h = (db, (opened, h))
unloaded_start start mode form given input db (dump.TooLarge line key) opened h = (db, (opened, h))
unloaded_start start mode form given input db (dump.Crowded line key) opened h = (db, (opened, h))
unloaded_start start mode form given input db dump.CutOff opened h = (db, (opened, h))
unloaded_start start mode form given input db dump.NoMemory opened h = tt

pub unloaded : (o : Option Stage) (start : Stage) (mode asked : Mode) (form : Form) (given : Given) (input : Option (List ℕ)) (db : Database) (reason : DumpFault) → o ≡ Some start → asked ≡ mode
    → IsOpened form given db → IfSome input (λ bytes. IsLoadFault start asked db bytes reason) → HasDumpCause (load_causes o mode form given input) (dump_fault reason)
unloaded o start mode asked form given input db reason is same opened h =
    subst (λ (option : Option Stage). HasDumpCause (load_causes option mode form given input) (dump_fault reason)) (sym is)
    (unloaded_start start mode form given input db reason opened (subst (λ (m : Mode). IfSome input (λ bytes. IsLoadFault start m db bytes reason)) same h))
