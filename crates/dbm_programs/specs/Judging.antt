-- The verdict on the image of a program.
use Rattle.std.specs.Prelude.{◌≡◌, ℕ, ◌/◌, ◌++◌, ◌⊎◌, Bool, true, false, List, [], ◌∷◌, codes, decimal, length, None}
use Rattle.bpf_insn.specs.declared.insn.Insn.{Insn}
use Rattle.bpf_insn.specs.Code.{IsImage}
use Rattle.prog_registry.specs.Registry.{IsAccepted}
use Rattle.prog_registry.specs.declared.fault.RegFault.{RegFault}
use Rattle.dbm_script.specs.Images.{Denies}
use Rattle.dbm_reports.specs.declared.report.Report.{Report}
use Rattle.dbm_reports.specs.Reports.{Prints, IsFileImage, ReportsRefusal}

-- a line with the number of units of an accepted program
abbrev pub accepted_line : ℕ → List ℕ
accepted_line units = codes "accepted " ++ (decimal units ++ 10 ∷ [])

-- The report of the verdict on an image: accepted, or the reason why a registry without programs refuses the image.
abbrev pub Judges : List ℕ → Report → Type 0
Judges image report =
    (IsAccepted image × Prints (accepted_line (length image / 8)) report) ⊎ ((fault : RegFault) × (Denies [] image fault × ReportsRefusal fault 1 None report))

-- the report of the verdict on the program in a file
abbrev pub Verifies : Bool → List ℕ → Report → Type 0
Verifies is_image file report = (image : List ℕ) × (IsFileImage is_image file image × Judges image report)

-- The text of the report is rows, an LF, and the text of `last`. The rest of the report is that of `last`.
pub record EndsAs (last report : Report) : Type 0 where
  pub rows : List ℕ
  pub text_is : report.text.items ≡ rows ++ 10 ∷ last.text.items
  pub status_is : report.status ≡ last.status
  pub written : report.database ≡ last.database

-- The text of the report is rows, an LF, and the verdict on a program image.
abbrev pub EndsJudged : List ℕ → Report → Type 0
EndsJudged image report = (last : Report) × (Judges image last × EndsAs last report)

-- the report of the verdict on an image, after the rows that explain it; if the image cannot be decoded, there are no rows
abbrev pub IsExplained : List ℕ → Report → Type 0
IsExplained image report =
    ((code : List Insn) × (IsImage code image × EndsJudged image report)) ⊎ (((code : List Insn) → IsImage code image → ⊥) × Judges image report)

-- the report of the explained verdict on the program in a file
abbrev pub Explains : Bool → List ℕ → Report → Type 0
Explains is_image file report = (image : List ℕ) × (IsFileImage is_image file image × IsExplained image report)

-- the report of the verdict on the program in a file; it is explained if the first flag is true
abbrev pub VerifyReports : Bool → Bool → List ℕ → Report → Type 0
VerifyReports false is_image file report = Verifies is_image file report
VerifyReports true is_image file report = Explains is_image file report
