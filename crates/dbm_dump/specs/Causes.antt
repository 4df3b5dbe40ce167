-- The errors of `dump` and `load`.
use Rattle.std.specs.Prelude.{⊤, Option, Some, None}
use Rattle.dbm_dump.specs.declared.fault.DumpFault.{DumpFault}
use Rattle.dbm_dump.specs.declared.fault.DumpFault.TheVariants as dump
use Rattle.dbm_reports.specs.Causes.{Causes, IsCaused, no_causes}
use Rattle.dbm_reports.specs.declared.fault.ReportFault.TheVariants as reports
use Rattle.dbm_reports.specs.declared.report.Report.{Report as Told}
use Rattle.dbm_dump.specs.declared.copy_fault.CopyFault.{CopyFault}
use Rattle.dbm_dump.specs.declared.copy_fault.CopyFault.TheVariants.{Report, Dump}

-- the causes of the shared faults, and of the faults of a dump
pub record DumpCauses : Type 1 where
  pub report : Causes
  pub dump : DumpFault → Type 0

-- a fault is returned only for its cause
abbrev pub HasDumpCause : DumpCauses → CopyFault → Type 0
HasDumpCause causes (Report fault) = IsCaused causes.report fault
HasDumpCause causes (Dump fault) = causes.dump fault

-- the possible reports of `dump` or `load`, and the causes of its faults
pub record DumpKnown : Type 1 where
  pub reports : Told → Type 0
  pub causes : DumpCauses

-- only the shared causes; no fault of a dump
abbrev pub no_dump : Causes → DumpCauses
no_dump causes = record { report = causes; dump = λ fault. ⊥ }

-- the format name is unknown
abbrev pub IsBadFormat : DumpFault → Type 0
IsBadFormat dump.BadFormat = ⊤
IsBadFormat _ = ⊥

abbrev pub bad_format : DumpCauses
bad_format = record { report = no_causes; dump = IsBadFormat }

-- the error that a fault of a dump becomes; `Read` and `NoMemory` are shared errors
abbrev pub dump_fault : DumpFault → CopyFault
dump_fault dump.Read = Report reports.Read
dump_fault dump.NoMemory = Report reports.NoMemory
dump_fault reason = Dump reason
