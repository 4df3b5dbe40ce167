-- The arguments of `incr`, its possible reports, and the conditions of its faults.
use Rattle.std.specs.Prelude.{◌≡◌, ℕ, ◌++◌, List, [], ◌∷◌, codes, cond, drop, length, min, nat_eq, Option, Some, None, IsSome, true, false}
use Rattle.std.specs.List.{starts_with}
use Rattle.std.specs.Borrow.{Bor}
use Rattle.std.specs.declared.alloc.Global.{Global}
use Rattle.clap.specs.Words.{Shape, Row, Text, new_rule}
use Rattle.byte_text.specs.Numbers.{number_of, signed_of}
use Rattle.dbm_script.specs.Incr.{counter_argument}
use Rattle.sdbm_addr.specs.Database.{Database}
use Rattle.bpf_insn.specs.Code.{IsImage}
use Rattle.stock_programs.specs.BoundedCounter.{bounded_counter}
use Rattle.dbm_script.specs.Notation.{bytes_of_word, reads_hex}
use Rattle.dbm_script.specs.declared.notations.Notation.{Notation}
use Rattle.dbm_script.specs.declared.run_words.RunWords.{RunWords}
use Rattle.dbm_args.specs.CommandLine.{required_word, flag, valued_option, subcommand, writing_in}
use Rattle.dbm_args.specs.Given.{IsForm, IsOptionGiven, IsNotation, IsWord, is_given}
use Rattle.dbm_args.specs.Heads.{head_on}
use Rattle.dbm_args.specs.declared.options.Form.{Form}
use Rattle.dbm_args.specs.declared.options.Head.{Head}
use Rattle.dbm_reports.specs.Causes.{Causes, no_causes}
use Rattle.dbm_reports.specs.Databases.{IsOpened, IsShut}
use Rattle.dbm_reports.specs.Known.{Known}
use Rattle.dbm_reports.specs.Words.{word_asked}
use Rattle.dbm_reports.specs.declared.databases.Given.{Given}
use Rattle.dbm_reports.specs.declared.report.Report.{Report}
use Rattle.dbm_records.specs.Running.{RunsImage}
use Rattle.dbm_records.specs.declared.incr.Incr.{Incr}
use Rattle.dbm_records.specs.declared.incr.IncrNumbers.{IncrNumbers}

abbrev pub incr : Shape
incr = subcommand (codes "incr") (required_word (codes "BASE") ∷ required_word (codes "KEY") ∷ new_rule (codes "AMOUNT") ∷ valued_option (codes "min") ∷ valued_option (codes "max") ∷ flag (codes "raw-key") ∷ writing_in)

abbrev pub IncrAsks : List Row → Incr → Type 0
IncrAsks rows incr =
    IsWord (codes "BASE") rows incr.base × (IsForm rows incr.form × (IsNotation rows incr.notation × (IsWord (codes "KEY") rows incr.key × (IsOptionGiven (codes "AMOUNT") rows incr.amount × (IsOptionGiven (codes "min") rows incr.min × (IsOptionGiven (codes "max") rows incr.max × (incr.raw_key ≡ is_given (codes "raw-key") rows)))))))

-- the head of the subcommand: its files and its notation
abbrev pub incr_head : Incr → Head
incr_head incr = record (head_on (Some incr.base)) { writes = true; notation = incr.notation }

-- the amount, by default 1; None if the argument is not a number
abbrev pub amount_in : Option (Bor Text) → Option ℕ
amount_in None = Some 1
amount_in (Some word) = signed_of word.now

-- a bound, by default `least`; None if the option is not a number
abbrev pub bound_in : ℕ → Option (Bor Text) → Option ℕ
bound_in least None = Some least
bound_in least (Some word) = number_of 18446744073709551615 word.now

abbrev pub all_numbers : Option ℕ → Option ℕ → Option ℕ → Option IncrNumbers
all_numbers None min max = None
all_numbers (Some amount) None max = None
all_numbers (Some amount) (Some min) None = None
all_numbers (Some amount) (Some min) (Some max) = Some (record { amount = amount; min = min; max = max })

-- the amount in two's complement, and the bounds
abbrev pub numbers_of : Option (Bor Text) → Option (Bor Text) → Option (Bor Text) → Option IncrNumbers
numbers_of amount min max = all_numbers (amount_in amount) (bound_in 0 min) (bound_in 18446744073709551615 max)

-- the words of the run of the stock program; the record of a missing key begins as 8 zeros
abbrev pub incr_words : List ℕ → IncrNumbers → RunWords Global
incr_words key numbers = record { key = key; arg = counter_argument numbers.amount numbers.min numbers.max; blank = Some 8; now = 0 }

-- the text without `ran CODE ` at its start; CODE is one digit
abbrev pub after_code : List ℕ → List ℕ
after_code text = cond (starts_with nat_eq text (codes "ran ")) (drop (min (length text) 6) text) text

-- `after_code`, except that the text for code 4 is `too short`
abbrev pub number_alone : List ℕ → List ℕ
number_alone text = cond (starts_with nat_eq text (codes "ran 4 ")) (codes "too short" ++ 10 ∷ []) (after_code text)

-- the bytes of the key; None if the argument is invalid
abbrev pub key_asked : Notation Global → Incr → Option (List ℕ)
key_asked n incr = bytes_of_word n (word_asked incr.raw_key n incr.key.now)

-- the report of a run of `bounded_counter` with the expected code 1; if the program ran, the text is its reply word alone
pub record OnIncr (n : Notation Global) (incr : Incr) (given : Given) (report : Report) : Type 0 where
  pub before : Database
  pub opened : IsOpened incr.form given before
  pub key : List ℕ
  pub key_is : key_asked n incr ≡ Some key
  pub numbers : IncrNumbers
  pub numbers_are : numbers_of incr.amount incr.min incr.max ≡ Some numbers
  pub image : List ℕ
  pub image_is : IsImage bounded_counter image
  pub run : Report
  pub runs : RunsImage n before (incr_words key numbers) (Some 1) image run
  pub text_is : report.text.items ≡ number_alone run.text.items
  pub status_is : report.status ≡ run.status
  pub written : report.database ≡ run.database

-- the fault of an invalid key
abbrev pub key_causes : Notation Global → List ℕ → Causes
key_causes n word = record no_causes {
  words = (reads_hex n ≡ true) × (bytes_of_word n word ≡ None);
  texts = (reads_hex n ≡ false) × (bytes_of_word n word ≡ None);
}

-- the faults of the subcommand; the key is read first, then the numbers, and then the database is opened
abbrev pub incr_causes : Notation Global → Incr → Given → Causes
incr_causes n incr given = record no_causes {
  words = (reads_hex n ≡ true) × (key_asked n incr ≡ None);
  texts = (reads_hex n ≡ false) × (key_asked n incr ≡ None);
  numbers = IsSome (key_asked n incr) × (numbers_of incr.amount incr.min incr.max ≡ None);
  opening = λ reason. (IsSome (key_asked n incr) × IsSome (numbers_of incr.amount incr.min incr.max)) × IsShut incr.form given reason;
}

abbrev pub incr_in : Notation Global → Incr → Given → Known
incr_in n incr given = record {
  reports = OnIncr n incr given;
  causes = incr_causes n incr given;
}
