-- Facts about the ranges of sums, products and numbers of bits.
use Rattle.std.proofs.Common.{bit_and, ◌≡◌, ℕ, ◌+◌, ◌-◌, ◌*◌, ◌%◌, ◌^◌, ◌<◌, ◌≤◌, bit_or, bit_xor, ◌∙◌, arith}
use Rattle.std.proofs.Math.Nat.{mod-eq_of_lt, mul-le-mul, mod-eq-sub-mod}
use Rattle.std.proofs.lemmas.Nat.{and_le_l, and_le_r, or_lt, xor_lt}
use Rattle.bpf_range.specs.declared.values.Range.{Range}
use Rattle.bpf_range.specs.Bits.{IsFill}
use Rattle.bpf_range.specs.Sets.{In, Within, IsOnly}

pub and_greatest : (x y : ℕ) → (bit_and x y ≤ x) × (bit_and x y ≤ y)
and_greatest x y = (and_le_l x y, and_le_r x y)

pub wrapped : (n m : ℕ) → m ≤ n → n < m + m → n % m ≡ n - m
wrapped n m h k = let e : n % m ≡ (n - m) % m = mod-eq-sub-mod h in let f : (n - m) % m ≡ n - m = mod-eq_of_lt (omega arith) in e ∙ f

pub mul_between : (x y al ah bl bh m : ℕ) → al ≤ x → x ≤ ah → bl ≤ y → y ≤ bh → ah * bh < m → (al * bl ≤ x * y % m) × (x * y % m ≤ ah * bh)
mul_between x y al ah bl bh m p q r s h =
    let low : al * bl ≤ x * y = mul-le-mul p r in
    let high : x * y ≤ ah * bh = mul-le-mul q s in
    let e : x * y % m ≡ x * y = mod-eq_of_lt (omega arith) in
    rw e (low, high)

pub or_fill : (x y m f : ℕ) → IsFill m f → x ≤ m → y ≤ m → bit_or x y ≤ f
or_fill x y m f h p q =
    let k : ℕ = h.ones.0 in
    let e : f + 1 ≡ 2 ^ k = h.ones.1 in
    let n : m ≤ f = h.enough in
    let l : bit_or x y < 2 ^ k = or_lt k x y (omega arith) (omega arith) in
    omega arith

pub xor_fill : (x y m f : ℕ) → IsFill m f → x ≤ m → y ≤ m → bit_xor x y ≤ f
xor_fill x y m f h p q =
    let k : ℕ = h.ones.0 in
    let e : f + 1 ≡ 2 ^ k = h.ones.1 in
    let n : m ≤ f = h.enough in
    let l : bit_xor x y < 2 ^ k = xor_lt k x y (omega arith) (omega arith) in
    omega arith

pub rem_below : (x y : ℕ) → x < y → x % y ≡ x
rem_below x y h = mod-eq_of_lt h

-- a range within a range of one number is that range
pub only_within : (r s : Range) (x : ℕ) → Within r s → IsOnly s x → IsOnly r x
only_within r s x w o =
    let p : r.lo ≤ r.hi = r.ordered in
    let l : In s r.lo = w r.lo (record { least = omega arith; greatest = p }) in
    let h : In s r.hi = w r.hi (record { least = p; greatest = omega arith }) in
    let a : s.lo ≡ x = o.lo_is in
    let b : s.hi ≡ x = o.hi_is in
    let c : r.lo ≤ s.hi = l.greatest in
    let d : s.lo ≤ r.lo = l.least in
    let e : r.hi ≤ s.hi = h.greatest in
    let f : s.lo ≤ r.hi = h.least in
    record { lo_is = omega arith; hi_is = omega arith }
