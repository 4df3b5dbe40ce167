-- The possible reports of a subcommand, and the conditions of its faults.
use Rattle.std.specs.Prelude.{Option, Some, None, ⊤}
use Rattle.std.specs.declared.alloc.Global.{Global}
use Rattle.dbm_script.specs.declared.notations.Notation.{Notation}
use Rattle.dbm_reports.specs.declared.report.Report.{Report}
use Rattle.dbm_reports.specs.Causes.{Causes, no_causes}

pub record Known : Type 1 where
  -- the possible reports
  pub reports : Report → Type 0
  -- the conditions of faults
  pub causes : Causes

-- the fault of an invalid layout
abbrev pub layout_causes : Option (Notation Global) → Causes
layout_causes None = record no_causes { layouts = ⊤ }
layout_causes (Some notation) = no_causes
