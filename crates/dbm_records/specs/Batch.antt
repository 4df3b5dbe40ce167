-- The arguments of `batch` and the request that they make.
use Rattle.std.specs.Prelude.{◌≡◌, List, ◌∷◌, None, codes, Some, true}
use Rattle.std.specs.Option.{option_map_or}
use Rattle.clap.specs.Words.{Shape, Row, Text, first_of, new_rule}
use Rattle.dbm_args.specs.Given.{IsForm, IsNotation, IsWord, is_given}
use Rattle.dbm_records.specs.declared.batch.Batch.{Batch}
use Rattle.dbm_args.specs.CommandLine.{required_word, flag, subcommand, writing_in}
use Rattle.dbm_args.specs.Heads.{head_on}
use Rattle.dbm_args.specs.declared.options.Head.{Head}

-- the argument that means one worker for each core, which is also the default
abbrev pub each_core : Text
each_core = codes "cores"

-- the argument for the number of workers
abbrev pub workers_in : List Row → Text
workers_in rows = option_map_or (λ word. word) (first_of (codes "WORKERS") rows) each_core

abbrev pub batch : Shape
batch = subcommand (codes "batch") (required_word (codes "BASE") ∷ required_word (codes "FILE") ∷ new_rule (codes "WORKERS") ∷ flag (codes "image") ∷ flag (codes "clock") ∷ writing_in)

abbrev pub BatchAsks : List Row → Batch → Type 0
BatchAsks rows batch =
    IsWord (codes "BASE") rows batch.base × (IsForm rows batch.form × (IsNotation rows batch.notation × (IsWord (codes "FILE") rows batch.file × ((batch.workers.now ≡ workers_in rows) × ((batch.image ≡ is_given (codes "image") rows) × ((batch.clock ≡ is_given (codes "clock") rows) × (batch.time ≡ None)))))))

-- the head of the subcommand: its files and its notation
abbrev pub batch_head : Batch → Head
batch_head batch = record (head_on (Some batch.base)) { file = Some batch.file; image = batch.image; writes = true; notation = batch.notation }
