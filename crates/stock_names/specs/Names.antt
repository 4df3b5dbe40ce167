-- The stock programs by name.
use Rattle.std.specs.Prelude.{ℕ, Bool, true, false, List, [], ◌∷◌, Option, Some, None, codes, cond, nat_eq}
use Rattle.std.specs.List.{find}
use Rattle.std.specs.Str.{bytes_eq}
use Rattle.bpf_insn.specs.declared.insn.Insn.{Insn}
use Rattle.bpf_insn.specs.Code.{IsImage}
use Rattle.bpf_asm.specs.Denotes.{Denotes}
use Rattle.stock_programs.specs.Counter.{counter}
use Rattle.stock_programs.specs.BoundedAdd.{bounded_add}
use Rattle.stock_programs.specs.BoundedCounter.{bounded_counter}
use Rattle.stock_programs.specs.CompareAndSet.{compare_and_set}
use Rattle.stock_programs.specs.Sequence.{sequence}
use Rattle.stock_programs.specs.Lease.{lease}
use Rattle.stock_programs.specs.FencedLease.{fenced_lease}
use Rattle.stock_programs.specs.RateLimit.{rate_limit}
use Rattle.stock_programs.specs.Semaphore.{semaphore}
use Rattle.stock_programs.specs.TokenBucket.{token_bucket}
use Rattle.stock_names.specs.declared.Stock.{Stock}
use Rattle.stock_names.specs.declared.Stock.TheVariants as stocks
use Rattle.stock_names.specs.declared.TheConstants.{ALL}
use Rattle.stock_names.specs.declared.ProgramWord.{ProgramWord}
use Rattle.stock_names.specs.declared.ProgramWord.TheVariants as words

-- The name of a program.
abbrev pub name_of_stock : Stock → List ℕ
name_of_stock stocks.Counter = codes "counter"
name_of_stock stocks.BoundedAdd = codes "bounded_add"
name_of_stock stocks.BoundedCounter = codes "bounded_counter"
name_of_stock stocks.CompareAndSet = codes "compare_and_set"
name_of_stock stocks.Sequence = codes "sequence"
name_of_stock stocks.Lease = codes "lease"
name_of_stock stocks.FencedLease = codes "fenced_lease"
name_of_stock stocks.RateLimit = codes "rate_limit"
name_of_stock stocks.Semaphore = codes "semaphore"
name_of_stock stocks.TokenBucket = codes "token_bucket"

-- The code of a program. `stock_programs` proves its meaning.
abbrev pub code_of_stock : Stock → List Insn
code_of_stock stocks.Counter = counter
code_of_stock stocks.BoundedAdd = bounded_add
code_of_stock stocks.BoundedCounter = bounded_counter
code_of_stock stocks.CompareAndSet = compare_and_set
code_of_stock stocks.Sequence = sequence
code_of_stock stocks.Lease = lease
code_of_stock stocks.FencedLease = fenced_lease
code_of_stock stocks.RateLimit = rate_limit
code_of_stock stocks.Semaphore = semaphore
code_of_stock stocks.TokenBucket = token_bucket

-- The program with a name.
unfoldable pub stock_named : List ℕ → Option Stock
stock_named name = find (λ s. bytes_eq (name_of_stock s) name) ALL

abbrev of_name : Option Stock → ProgramWord
of_name (Some s) = words.Stock s
of_name None = words.Unknown

-- A word that begins with @ names a stock program, or is unknown; any other word names a file.
abbrev pub word_named : List ℕ → ProgramWord
word_named [] = words.File
word_named (c ∷ name) = cond (nat_eq c 64) (of_name (stock_named name)) words.File

-- The file is the image of the code (`true`), or a text that denotes the code (`false`).
abbrev pub IsFileOf : Bool → List Insn → List ℕ → Type 0
IsFileOf true code file = IsImage code file
IsFileOf false code file = Denotes file code
