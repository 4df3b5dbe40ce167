-- The reasons why a request fails before it prints anything.
use Rattle.std.specs.Prelude.{ℕ, ⊤}
use Rattle.prog_registry.specs.declared.fault.RegFault.{RegFault}
use Rattle.store_shared.specs.declared.close.CloseFault.{CloseFault}
use Rattle.worker_pool.specs.declared.task.PoolFault.{PoolFault}
use Rattle.dbm_dump.specs.declared.fault.DumpFault.{DumpFault}
use Rattle.dbm_reports.specs.Causes.{Causes, IsCaused, no_causes}
use Rattle.dbm_reports.specs.declared.fault.ReportFault.{ReportFault}
use Rattle.dbm_reports.specs.declared.fault.ReportFault.TheVariants as reports
use Rattle.dbm_messages.specs.declared.fault.ServeFault.{ServeFault}
use Rattle.dbm_messages.specs.declared.fault.ServeFault.TheVariants.{NotText, ReadFile, FileTooLong, WriteFile, BadRedo, Unsafe, OtherSize, ReadClock, BadBase, Absent, Exists, NoStock, Locked, Moved, Changed, Report, Dump, Submit, BadLine, CutLine, Pool, Close, Write, Saved, NoMemory}

-- the causes of the faults of a request: in its arguments, files and standard input (`report`), in a dump, or in a batch (the rest)
pub record WishCauses : Type 1 where
  pub report : Causes
  -- a dump cannot be written or loaded
  pub dump : DumpFault → Type 0
  -- the image's program is refused
  pub submitting : RegFault → Type 0
  -- a line is not a task
  pub bad_line : ℕ → Type 0
  -- not all tasks are done, or the store does not close
  pub pool : PoolFault → Type 0
  pub closing : CloseFault → Type 0

-- the causes for a request that is neither a dump nor a batch
abbrev pub only_report : Causes → WishCauses
only_report causes = record {
  report = causes;
  dump = λ fault. ⊥;
  submitting = λ fault. ⊥;
  bad_line = λ number. ⊥;
  pool = λ fault. ⊥;
  closing = λ fault. ⊥;
}

abbrev pub no_wish_causes : WishCauses
no_wish_causes = only_report no_causes

-- The fault of a report has its cause. `NoMemory` is left out, since it is a separate fault.
abbrev pub HasReportCause : Causes → ReportFault → Type 0
HasReportCause causes reports.NoMemory = ⊥
HasReportCause causes fault = IsCaused causes fault

-- A fault occurs only for its cause. `NoMemory` is possible at any time. The faults that are `⊥` belong to other steps.
abbrev pub HasWishCause : WishCauses → ServeFault → Type 0
HasWishCause causes NotText = ⊥
HasWishCause causes ReadFile = ⊥
HasWishCause causes FileTooLong = ⊥
HasWishCause causes WriteFile = ⊥
HasWishCause causes BadRedo = ⊥
HasWishCause causes Unsafe = ⊥
HasWishCause causes OtherSize = ⊥
HasWishCause causes ReadClock = ⊥
HasWishCause causes BadBase = ⊥
HasWishCause causes Absent = ⊥
HasWishCause causes Exists = ⊥
HasWishCause causes NoStock = ⊥
HasWishCause causes Locked = ⊥
HasWishCause causes (Moved file) = ⊥
HasWishCause causes Changed = ⊥
HasWishCause causes (Report fault) = HasReportCause causes.report fault
HasWishCause causes (Dump fault) = causes.dump fault
HasWishCause causes (Submit fault) = causes.submitting fault
HasWishCause causes (BadLine number) = causes.bad_line number
HasWishCause causes (CutLine line) = ⊥
HasWishCause causes (Pool fault) = causes.pool fault
HasWishCause causes (Close fault) = causes.closing fault
HasWishCause causes Write = ⊥
HasWishCause causes Saved = ⊥
HasWishCause causes NoMemory = ⊤
