-- Numbers in decimal, and as little-endian bytes.
use Rattle.std.specs.Prelude.{ℕ, zero, suc, ◌+◌, ◌-◌, ◌*◌, ◌/◌, ◌%◌, ◌==◌, List, [], ◌∷◌, cond, decimal, nat_le, nat_lt, Option, Some, None, option_map}
use Rattle.std.specs.Str.{bytes_eq}
use Rattle.std.specs.Str.Parse.{digits_value}

-- the number n, if the text is n in decimal and n does not exceed the bound
abbrev pub written : ℕ → List ℕ → ℕ → Option ℕ
written most text n = cond (bytes_eq text (decimal n)) (cond (nat_le n most) (Some n) None) None

-- the number that a text represents in decimal without leading zeros, if the number does not exceed the bound
unfoldable pub number_of : ℕ → List ℕ → Option ℕ
number_of most text = written most text (digits_value 10 text)

-- the word of 64 bits that represents -n in two's complement
abbrev pub negated : ℕ → ℕ
negated n = cond (n == 0) 0 (18446744073709551616 - n)

-- the 64-bit word of the signed number that a text represents: a decimal number, after a minus sign if it is negative
abbrev pub signed_of : List ℕ → Option ℕ
signed_of [] = None
signed_of (c ∷ cs) =
    cond (c == 45) (option_map negated (number_of 9223372036854775808 cs)) (number_of 9223372036854775807 (c ∷ cs))

-- the text of a word of 64 bits as a signed number
abbrev pub signed_text : ℕ → List ℕ
signed_text word = cond (nat_lt word 9223372036854775808) (decimal word) (45 ∷ decimal (18446744073709551616 - word))

-- the low bytes of a number, little-endian
abbrev pub low_bytes : ℕ → ℕ → List ℕ
low_bytes zero n = []
low_bytes (suc width) n = n % 256 ∷ low_bytes width (n / 256)

-- the number with these little-endian bytes
abbrev pub number_in : List ℕ → ℕ
number_in [] = 0
number_in (b ∷ bs) = b + 256 * number_in bs
