-- The hash of a key (Yigit, sdbm 1990: hash.c, `sdbm_hash`): the sum of its bytes, each multiplied by a power of 65599, modulo 2^32.
use Rattle.std.specs.Prelude.{ℕ, ◌+◌, ◌*◌, ◌%◌, ◌^◌, ◌-◌, Bool, List, [], ◌∷◌, length, nat_lt, if◌then◌else◌, ◌==◌}
use Rattle.sdbm_addr.specs.declared.KeyBytes.{KeyBytes}
use Rattle.sdbm_addr.specs.declared.KeyBytes.TheVariants.{Signed, Unsigned}

-- The weight of a byte, modulo 2^32. The original adds a plain `char`; if that type is signed, a byte b of 128 or more counts as b - 256.
abbrev pub byte_weight : KeyBytes → ℕ → ℕ
byte_weight Signed b = if nat_lt b 128 then b else b + (2 ^ 32 - 256)
byte_weight Unsigned b = b

-- the sum of the weights of all bytes; the weight of a byte that n bytes follow is multiplied by 65599^n
abbrev pub weighted_sum : KeyBytes → List ℕ → ℕ
weighted_sum kind [] = 0
weighted_sum kind (b ∷ bs) = byte_weight kind b * 65599 ^ length bs + weighted_sum kind bs

unfoldable pub hash_of : KeyBytes → List ℕ → ℕ
hash_of kind key = weighted_sum kind key % 2 ^ 32

-- two hashes have the same n lowest bits
abbrev pub agree : ℕ → ℕ → ℕ → Bool
agree n a b = (a % 2 ^ n) == (b % 2 ^ n)
