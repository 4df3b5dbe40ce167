-- The fault of a step as a fault of the whole.
use Rattle.std.proofs.Common.{Option, Some, None}
use Rattle.std.specs.declared.alloc.Global.{Global}
use Rattle.dbm_script.specs.declared.notations.Notation.{Notation}
use Rattle.dbm_reports.specs.Causes.{IsCaused}
use Rattle.dbm_reports.specs.Known.{layout_causes}
use Rattle.dbm_reports.specs.declared.fault.ReportFault.{ReportFault}
use Rattle.dbm_reports.specs.declared.fault.ReportFault.TheVariants as reports
use Rattle.dbm_messages.specs.Faults.{copy_fault, report_fault}
use Rattle.dbm_dump.specs.Causes.{DumpKnown, HasDumpCause}
use Rattle.dbm_dump.specs.declared.copy_fault.CopyFault.{CopyFault}
use Rattle.dbm_dump.specs.declared.copy_fault.CopyFault.TheVariants as dumps
use Rattle.dbm_batches.specs.Causes.{HasWishCause, WishCauses}
use Rattle.dbm_tool.specs.Services.{Service, dumping, noted}

-- a fault of a report
pub raised : (causes : WishCauses) (fault : ReportFault) → IsCaused causes.report fault → HasWishCause causes (report_fault fault)
raised causes reports.BadHex h = h
raised causes reports.BadText h = h
raised causes reports.BadLayout h = h
raised causes reports.BadNumber h = h
raised causes (reports.Open reason) h = h
raised causes reports.NotText h = h
raised causes (reports.Assemble fault) h = h
raised causes (reports.Decode fault) h = h
raised causes reports.Read h = h
raised causes reports.TooLong h = h
raised causes reports.OutputTooLong h = h
raised causes reports.NoMemory h = tt

-- a fault of `dump` or `load`
pub raised_dump : (known : DumpKnown) (fault : CopyFault) → HasDumpCause known.causes fault → HasWishCause (dumping known).causes (copy_fault fault)
raised_dump known (dumps.Report fault) h = raised (dumping known).causes fault h
raised_dump known (dumps.Dump fault) h = h

-- an unknown layout is reported before all else
pub unlaid : (o : Option (Notation Global)) (known : Notation Global → Service) (fault : ReportFault) → IsCaused (layout_causes o) fault → HasWishCause (noted o known).causes (report_fault fault)
unlaid None known fault h = raised (noted None known).causes fault h
unlaid (Some n) known reports.BadHex h = absurd h
unlaid (Some n) known reports.BadText h = absurd h
unlaid (Some n) known reports.BadLayout h = absurd h
unlaid (Some n) known reports.BadNumber h = absurd h
unlaid (Some n) known (reports.Open reason) h = absurd h
unlaid (Some n) known reports.NotText h = absurd h
unlaid (Some n) known (reports.Assemble fault) h = absurd h
unlaid (Some n) known (reports.Decode fault) h = absurd h
unlaid (Some n) known reports.Read h = absurd h
unlaid (Some n) known reports.TooLong h = absurd h
unlaid (Some n) known reports.OutputTooLong h = absurd h
unlaid (Some n) known reports.NoMemory h = tt
