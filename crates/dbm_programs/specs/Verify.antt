-- The arguments of `verify`, its possible reports, and the conditions of its faults.
use Rattle.std.specs.Prelude.{◌≡◌, List, [], ◌∷◌, codes, Some, None}
use Rattle.clap.specs.Words.{Shape, Row}
use Rattle.dbm_args.specs.Given.{IsWord, is_given}
use Rattle.dbm_programs.specs.declared.verify.Verify.{Verify}
use Rattle.dbm_reports.specs.declared.databases.Given.{Given}
use Rattle.dbm_reports.specs.Causes.{file_causes}
use Rattle.dbm_reports.specs.Known.{Known}
use Rattle.dbm_programs.specs.Judging.{VerifyReports}
use Rattle.dbm_args.specs.CommandLine.{required_word, flag, subcommand}
use Rattle.dbm_args.specs.Heads.{head_on}
use Rattle.dbm_args.specs.declared.options.Head.{Head}

abbrev pub verify : Shape
verify = subcommand (codes "verify") (required_word (codes "FILE") ∷ flag (codes "image") ∷ flag (codes "explain") ∷ [])

abbrev pub VerifyAsks : List Row → Verify → Type 0
VerifyAsks rows verify =
    IsWord (codes "FILE") rows verify.file × ((verify.image ≡ is_given (codes "image") rows) × (verify.explain ≡ is_given (codes "explain") rows))

abbrev pub verify_in : Verify → Given → Known
verify_in verify given = record {
  reports = VerifyReports verify.explain verify.image given.file.items;
  causes = file_causes verify.image given.file.items;
}

-- the file that the subcommand reads
abbrev pub verify_head : Verify → Head
verify_head verify = record (head_on None) { file = Some verify.file; image = verify.image }
