-- No file is written after judging a program image.
use Rattle.std.proofs.Common.{◌≡◌, ℕ, List, None, inl, inr}
use Rattle.dbm_reports.specs.declared.report.Report.{Report}
use Rattle.dbm_programs.specs.Judging.{Judges}

-- no file is written after judging a program image
pub judged_alone : (image : List ℕ) (report : Report) → Judges image report → report.database ≡ None
judged_alone image report (inl h) = h.1.written
judged_alone image report (inr h) = h.1.1.written
