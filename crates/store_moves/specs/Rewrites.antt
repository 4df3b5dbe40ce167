-- Runs whose records are saved in place.
use Rattle.std.specs.Prelude.{◌≡◌, ℕ, List, Some, ◌≤◌, length, take}
use Rattle.sdbm_addr.specs.Pairs.{Pair, value_at, IsPlace}
use Rattle.bpf_helpers.specs.Runs.{Outcome}
use Rattle.store_cmd.specs.declared.Command.{Command}
use Rattle.store_cmd.specs.declared.Command.TheVariants.{Run}
use Rattle.store_moves.specs.declared.runs.RunInput.{RunInput}
use Rattle.store_moves.specs.declared.in_place.RunOnCopy.{RunOnCopy}
use Rattle.store_moves.specs.Worked.{outcome_on}

-- A program was run on a copy of the value of its key. The record that it left is a prefix of `bytes`.
pub record IsRunCopied {A : Type 0} (pairs : List Pair) (input : RunInput A) (copied : RunOnCopy) (bytes : List ℕ) : Type 0 where
  pub outcome : Outcome
  pub place : IsPlace pairs input.key.now copied.i
  pub is : outcome_on input (value_at pairs copied.i) ≡ Some outcome
  pub code_is : copied.ended.code ≡ outcome.code
  pub word_is : copied.ended.word ≡ outcome.word
  pub left : take copied.len bytes ≡ outcome.bytes
  pub value_long : length (value_at pairs copied.i) ≡ copied.len
  pub long : copied.len ≤ length bytes

-- the command of a run
abbrev pub command_of : {A : Type 0} → RunInput A → Command A
command_of input = Run input.key.now input.program.now.code input.arg.now input.blank input.time
