-- The arguments of `disasm`, its possible reports, and the conditions of its faults.
use Rattle.std.specs.Prelude.{◌≡◌, List, [], ◌∷◌, codes, ℕ, Some, None, true}
use Rattle.clap.specs.Words.{Shape, Row}
use Rattle.dbm_args.specs.Given.{IsWord}
use Rattle.dbm_programs.specs.declared.disasm.Disasm.{Disasm}
use Rattle.dbm_reports.specs.declared.databases.Given.{Given}
use Rattle.dbm_reports.specs.Known.{Known}
use Rattle.dbm_reports.specs.Reports.{PrintsOf}
use Rattle.bpf_insn.specs.declared.insn.Insn.{Insn}
use Rattle.bpf_insn.specs.Code.{IsImage}
use Rattle.bpf_asm.specs.Denotes.{Denotes}
use Rattle.bpf_asm.specs.Printed.{text_of}
use Rattle.prog_registry.specs.Judged.{IsUndecoded}
use Rattle.dbm_args.specs.CommandLine.{required_word, subcommand}
use Rattle.dbm_reports.specs.Causes.{Causes, no_causes}
use Rattle.dbm_args.specs.Heads.{head_on}
use Rattle.dbm_args.specs.declared.options.Head.{Head}

abbrev pub disasm : Shape
disasm = subcommand (codes "disasm") (required_word (codes "FILE") ∷ [])

abbrev pub DisasmAsks : List Row → Disasm → Type 0
DisasmAsks rows disasm =
    IsWord (codes "FILE") rows disasm.file

-- the text denotes the code in the program image
pub record IsDisassembled (image text : List ℕ) : Type 0 where
  pub code : List Insn
  pub is_image : IsImage code image
  pub denotes : Denotes text code
  pub is : text ≡ text_of code

-- the faults of a file with the image of a program
abbrev pub image_causes : List ℕ → Causes
image_causes file = record no_causes { decoding = IsUndecoded file }

abbrev pub disasm_in : Given → Known
disasm_in given = record {
  reports = PrintsOf IsDisassembled given.file.items;
  causes = image_causes given.file.items;
}

-- the file that the subcommand reads
abbrev pub disasm_head : Disasm → Head
disasm_head disasm = record (head_on None) { file = Some disasm.file; image = true }
