-- The blank of a run, as a word.
use Rattle.std.specs.Prelude.{ℕ, List, cond, codes, Option, Some, None, option_map}
use Rattle.std.specs.Str.{bytes_eq}
pub use Rattle.byte_text.specs.Numbers.{number_of}

-- the length of a blank, or a dot for no blank
abbrev pub blank_of : List ℕ → Option (Option ℕ)
blank_of text = cond (bytes_eq text (codes ".")) (Some None) (option_map Some (number_of 65535 text))
