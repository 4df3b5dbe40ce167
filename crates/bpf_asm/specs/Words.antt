-- Registers, numbers and names.
use Rattle.std.specs.Prelude.{ℕ, ℤ, pos, negsuc, neg_ℤ, ◌-◌, ◌==◌, ◌&&◌, ◌||◌, Bool, nat_lt, nat_le, int_le, List, [], ◌∷◌, length, drop, Option, Some, None, Result, Ok, Err, slice_index, ◌≡◌, ◌≤◌, ◌^◌, IfSome, if◌then◌else◌}
use Rattle.std.specs.Option.{option_map, option_and_then}
use Rattle.std.specs.List.{list_all}
use Rattle.std.specs.Char.{digit_value}
use Rattle.std.specs.Str.Parse.{digits_value}

infixl 10 ◌>>=◌
abbrev pub ◌>>=◌ : {A B : Type 0} → Option A → (A → Option B) → Option B
o >>= f = option_and_then f o

-- a function's result, seen through `view`, is the value of a definition; an error means no value
abbrev pub Gives : {X Y E : Type 0} → (X → Y) → Result X E → Option Y → Type 0
Gives view (Ok x) o = o ≡ Some (view x)
Gives view (Err e) o = o ≡ None

-- the same for a number, except that a number of 2 ^ 64 or more is an error
abbrev pub GivesUnlessLarge : {E : Type 0} → Result ℕ E → Option ℕ → Type 0
GivesUnlessLarge (Ok n) o = o ≡ Some n
GivesUnlessLarge (Err e) o = IfSome o (λ n. 2 ^ 64 ≤ n)

-- `r0` to `r10`
abbrev pub register : List ℕ → Option ℕ
register [] = None
register (r ∷ []) = None
register (r ∷ d ∷ []) = if (r == 114) && nat_le 48 d && nat_le d 57 then Some (d - 48) else None
register (r ∷ a ∷ b ∷ []) = if (r == 114) && (a == 49) && (b == 48) then Some 10 else None
register (r ∷ a ∷ b ∷ c ∷ more) = None

-- at least one digit, and nothing else
abbrev pub is_numeral : ℕ → List ℕ → Bool
is_numeral radix ds = nat_lt 0 (length ds) && list_all (λ c. nat_lt (digit_value c) radix) ds

-- the number that the digits spell; leading zeros are allowed
unfoldable pub numeral : ℕ → List ℕ → Option ℕ
numeral radix ds = if is_numeral radix ds then Some (digits_value radix ds) else None

-- begins with `0x`
abbrev pub is_hex : List ℕ → Bool
is_hex ds = (slice_index ds 0 == 48) && (slice_index ds 1 == 120)

-- decimal, or hex in either case after `0x`
unfoldable pub magnitude : List ℕ → Option ℕ
magnitude ds = if is_hex ds then numeral 16 (drop 2 ds) else numeral 10 ds

-- a decimal or hex number, with an optional '-' before it
unfoldable pub number : List ℕ → Option ℤ
number bs = if slice_index bs 0 == 45 then option_map (λ n. neg_ℤ (pos n)) (magnitude (drop 1 bs)) else option_map pos (magnitude bs)

-- the number n, if it is within the bounds
abbrev pub within : ℤ → ℤ → ℤ → Option ℤ
within lo hi n = if int_le lo n && int_le n hi then Some n else None

-- a signed number of 32 bits
unfoldable pub word : List ℕ → Option ℤ
word bs = number bs >>= within (neg_ℤ (pos 2147483648)) (pos 2147483647)

-- a number as 64 bits, in two's complement
abbrev pub bits64 : ℤ → ℕ
bits64 (pos n) = n
bits64 (negsuc n) = 18446744073709551615 - n

-- a number of 64 bits, signed or unsigned
unfoldable pub long : List ℕ → Option ℕ
long bs = option_map bits64 (number bs >>= within (neg_ℤ (pos 9223372036854775808)) (pos 18446744073709551615))

-- a sign and decimal digits
unfoldable pub distance : List ℕ → Option ℤ
distance bs = if slice_index bs 0 == 45 then option_map (λ n. neg_ℤ (pos n)) (numeral 10 (drop 1 bs))
    else (if slice_index bs 0 == 43 then option_map pos (numeral 10 (drop 1 bs)) else None)

-- a distance of 16 bits
unfoldable pub near : List ℕ → Option ℤ
near bs = distance bs >>= within (neg_ℤ (pos 32768)) (pos 32767)

-- a distance of 32 bits
unfoldable pub far : List ℕ → Option ℤ
far bs = distance bs >>= within (neg_ℤ (pos 2147483648)) (pos 2147483647)

-- `a` to `z` and `_`
abbrev pub is_name_start : ℕ → Bool
is_name_start c = (nat_le 97 c && nat_le c 122) || (c == 95)

-- `a` to `z`, `_`, and digits
abbrev pub is_name_part : ℕ → Bool
is_name_part c = is_name_start c || (nat_le 48 c && nat_le c 57)

-- a label's name, of at most 32 characters
unfoldable pub is_name : List ℕ → Bool
is_name bs = nat_le (length bs) 32 && is_name_start (slice_index bs 0) && list_all is_name_part bs
