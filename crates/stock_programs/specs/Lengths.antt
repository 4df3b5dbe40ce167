-- The lengths that a program needs, and its answer if the record or the argument is shorter.
use Rattle.std.specs.Prelude.{ℕ, ◌≡◌, ◌⊎◌, ◌<◌, ◌≤◌, List, length}
use Rattle.bpf_helpers.specs.Runs.{Outcome}

-- The record and the argument have at least these numbers of bytes.
pub record HasLengths (record_size argument_size : ℕ) (bytes argument : List ℕ) : Type 0 where
  pub of_record : record_size ≤ length bytes
  pub of_argument : argument_size ≤ length argument

-- The code of a run whose record or argument is too short. No other answer of a stock program has it.
abbrev pub short_code : ℕ
short_code = 4

-- The record or the argument is too short, and the run changes nothing.
pub record IsShort (record_size argument_size : ℕ) (bytes argument : List ℕ) (o : Outcome) : Type 0 where
  pub short : (length bytes < record_size) ⊎ (length argument < argument_size)
  pub code_is : o.code ≡ short_code
  pub word_is : o.word ≡ 0
  pub bytes_are : o.bytes ≡ bytes
