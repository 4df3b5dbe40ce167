-- The stock program that a command line names.
use Rattle.std.specs.Prelude.{◌≡◌, ℕ, Bool, List, Option, Some, None, IsSomeAnd}
use Rattle.stock_names.specs.Names.{IsFileOf, code_of_stock, word_named}
use Rattle.stock_names.specs.declared.ProgramWord.{ProgramWord}
use Rattle.stock_names.specs.declared.ProgramWord.TheVariants as words

-- The meaning of the argument for a program. No argument names no stock program, so it counts as a file.
abbrev pub word_in : Option (List ℕ) → ProgramWord
word_in None = words.File
word_in (Some word) = word_named word

abbrev only_file : List ℕ → ProgramWord → Option (List ℕ)
only_file word words.File = Some word
only_file word (words.Stock _) = None
only_file word words.Unknown = None

-- The file that the argument for a program names.
abbrev pub file_in : Option (List ℕ) → Option (List ℕ)
file_in None = None
file_in (Some word) = only_file word (word_named word)

-- The bytes are those of the named stock program, as an image or as a text. If the argument names a file, there are no bytes (`None`).
abbrev pub IsStockFile : Bool → ProgramWord → Option (List ℕ) → Type 0
IsStockFile is_image words.File file = file ≡ None
IsStockFile is_image (words.Stock s) file = IsSomeAnd file (IsFileOf is_image (code_of_stock s))
IsStockFile is_image words.Unknown file = ⊥
