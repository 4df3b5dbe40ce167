-- The arguments of `asm`, its possible reports, and the conditions of its faults.
use Rattle.std.specs.Prelude.{◌≡◌, List, [], ◌∷◌, ◌++◌, codes, ℕ, Some, None}
use Rattle.clap.specs.Words.{Shape, Row}
use Rattle.dbm_args.specs.Given.{IsWord}
use Rattle.dbm_programs.specs.declared.asm.Asm.{Asm}
use Rattle.dbm_reports.specs.declared.databases.Given.{Given}
use Rattle.dbm_reports.specs.Causes.{text_causes}
use Rattle.dbm_reports.specs.Known.{Known}
use Rattle.dbm_reports.specs.Reports.{PrintsOf}
use Rattle.hex.specs.Hex.{encode_lower}
use Rattle.bpf_insn.specs.declared.insn.Insn.{Insn}
use Rattle.bpf_insn.specs.Code.{IsImage}
use Rattle.bpf_asm.specs.Denotes.{Denotes, IsOnlyCode}
use Rattle.dbm_args.specs.CommandLine.{required_word, subcommand}
use Rattle.dbm_args.specs.Heads.{head_on}
use Rattle.dbm_args.specs.declared.options.Head.{Head}

abbrev pub asm : Shape
asm = subcommand (codes "asm") (required_word (codes "FILE") ∷ [])

abbrev pub AsmAsks : List Row → Asm → Type 0
AsmAsks rows asm =
    IsWord (codes "FILE") rows asm.file

-- the line has the image, in hex, of the only code that the text denotes
pub record IsAssembled (text line : List ℕ) : Type 0 where
  pub code : List Insn
  pub denotes : Denotes text code
  pub only : IsOnlyCode text code
  pub image : List ℕ
  pub is_image : IsImage code image
  pub is : line ≡ encode_lower image ++ 10 ∷ []

abbrev pub asm_in : Given → Known
asm_in given = record {
  reports = PrintsOf IsAssembled given.file.items;
  causes = text_causes given.file.items;
}

-- the file that the subcommand reads
abbrev pub asm_head : Asm → Head
asm_head asm = record (head_on None) { file = Some asm.file }
