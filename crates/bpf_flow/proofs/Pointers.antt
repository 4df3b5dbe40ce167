-- Arithmetic on pointers and numbers.
use Rattle.std.proofs.Common.{◌≡◌, ℕ, ℤ, pos, true, false, ◌&&◌, arith, Some}
use Rattle.std.specs.Prelude.{◌+ℤ◌, neg_ℤ, ◌≤ℤ◌, int_le}
use Rattle.std.specs.Int.{cast_signed, w64}
use Rattle.std.specs.Int.Signed.{lt_z}
use Rattle.std.proofs.lemmas.Int.{ints}
use Rattle.std.proofs.lemmas.Bool.{and_from, cond-true}
use Rattle.bpf_insn.specs.declared.insn.Width.TheVariants.{W64}
use Rattle.bpf_insn.specs.declared.insn.Op.TheVariants.{Add, Sub}
use Rattle.bpf_helpers.specs.declared.values.Region.{Region}
use Rattle.bpf_helpers.specs.declared.values.Value.{Value}
use Rattle.bpf_helpers.specs.declared.values.Value.TheVariants.{Nothing, Number, Pointer}
use Rattle.bpf_insn.specs.Arithmetic.{result_of}
use Rattle.bpf_helpers.specs.Machine.{moved_pointer, sum_of, difference_of, on_numbers, on_number}
use Rattle.bpf_range.specs.declared.known.Known.{Known}
use Rattle.bpf_range.specs.Sets.{Contains}
use Rattle.bpf_range.specs.declared.kinds.Kind.{Kind}
use Rattle.bpf_flow.specs.Kinds.{HoldsKind, IsNumber, IsPointer, Between, KindKeeps}

le_true : (a b : ℤ) → a ≤ℤ b → int_le a b ≡ true
le_true a b h = grind (arith, ints)

pub moved_is : (r : Region) (z : ℤ) → neg_ℤ (pos 65536) ≤ℤ z → z ≤ℤ pos 65536 → moved_pointer r z ≡ Some (Pointer r z)
moved_is r z h k = cond-true (int_le (neg_ℤ (pos 65536)) z && int_le z (pos 65536)) _ _ (and_from _ _ (le_true _ _ h) (le_true _ _ k))

pub not_below : (a b : ℤ) → lt_z a b ≡ false → b ≤ℤ a
not_below a b h = grind (arith, ints)

-- each of these pointers, moved by a number, is of the kind k
pub record Moves (r : Region) (lo hi : ℤ) (number : Known) (by : ℕ → ℤ) (k : Kind) : Type 0 where
  pub each : (m n : ℕ) (o : ℤ) (x : ℕ) → Between lo hi o → Contains number x → KindKeeps k m n (moved_pointer r (o +ℤ by x))

pub plus : (r : Region) (lo hi : ℤ) (number : Known) (k : Kind) → Moves r lo hi number (cast_signed w64) k → (m n : ℕ) (x y : Value) → IsPointer r (Between lo hi) x → IsNumber (Contains number) y → KindKeeps k m n (sum_of x y)
plus r lo hi number k mv m n Nothing y p s = absurd p
plus r lo hi number k mv m n (Number a) y p s = absurd p
plus r lo hi number k mv m n (Pointer q o) Nothing p s = absurd s
plus r lo hi number k mv m n (Pointer q o) (Number z) p s = rw p.0 (mv.each m n o z p.1 s)
plus r lo hi number k mv m n (Pointer q o) (Pointer a b) p s = absurd s

pub plus_turned : (r : Region) (lo hi : ℤ) (number : Known) (k : Kind) → Moves r lo hi number (cast_signed w64) k → (m n : ℕ) (x y : Value) → IsPointer r (Between lo hi) x → IsNumber (Contains number) y → KindKeeps k m n (sum_of y x)
plus_turned r lo hi number k mv m n Nothing y p s = absurd p
plus_turned r lo hi number k mv m n (Number a) y p s = absurd p
plus_turned r lo hi number k mv m n (Pointer q o) Nothing p s = absurd s
plus_turned r lo hi number k mv m n (Pointer q o) (Number z) p s = rw p.0 (mv.each m n o z p.1 s)
plus_turned r lo hi number k mv m n (Pointer q o) (Pointer a b) p s = absurd s

pub minus : (r : Region) (lo hi : ℤ) (number : Known) (k : Kind) → Moves r lo hi number (λ x. neg_ℤ (cast_signed w64 x)) k → (m n : ℕ) (x y : Value) → IsPointer r (Between lo hi) x → IsNumber (Contains number) y → KindKeeps k m n (difference_of x y)
minus r lo hi number k mv m n Nothing y p s = absurd p
minus r lo hi number k mv m n (Number a) y p s = absurd p
minus r lo hi number k mv m n (Pointer q o) Nothing p s = absurd s
minus r lo hi number k mv m n (Pointer q o) (Number z) p s = rw p.0 (mv.each m n o z p.1 s)
minus r lo hi number k mv m n (Pointer q o) (Pointer a b) p s = absurd s

-- sums of numbers are numbers
pub numbers_sum : (k : Kind) (m n : ℕ) (x y : Value) → KindKeeps k m n (on_numbers (result_of Add W64) x y) → KindKeeps k m n (sum_of x y)
numbers_sum k m n Nothing y h = absurd h
numbers_sum k m n (Number a) Nothing h = absurd h
numbers_sum k m n (Number a) (Number b) h = h
numbers_sum k m n (Number a) (Pointer r o) h = absurd h
numbers_sum k m n (Pointer r o) y h = absurd h

pub numbers_difference : (k : Kind) (m n : ℕ) (x y : Value) → KindKeeps k m n (on_numbers (result_of Sub W64) x y) → KindKeeps k m n (difference_of x y)
numbers_difference k m n Nothing y h = absurd h
numbers_difference k m n (Number a) Nothing h = absurd h
numbers_difference k m n (Number a) (Number b) h = h
numbers_difference k m n (Number a) (Pointer r o) h = absurd h
numbers_difference k m n (Pointer r o) y h = absurd h

-- the result of a function on two numbers of sets
pub of_two : (f : ℕ → ℕ → ℕ) (a b : Known) (k : Kind) (m n : ℕ) (x y : Value) → ((u v : ℕ) → Contains a u → Contains b v → HoldsKind k m n (Number (f u v))) → IsNumber (Contains a) x → IsNumber (Contains b) y → KindKeeps k m n (on_numbers f x y)
of_two f a b k m n Nothing y h p q = absurd p
of_two f a b k m n (Number u) Nothing h p q = absurd q
of_two f a b k m n (Number u) (Number v) h p q = h u v p q
of_two f a b k m n (Number u) (Pointer r o) h p q = absurd q
of_two f a b k m n (Pointer r o) y h p q = absurd p

pub of_one : (f : ℕ → ℕ) (b : Known) (k : Kind) (m n : ℕ) (y : Value) → ((v : ℕ) → Contains b v → HoldsKind k m n (Number (f v))) → IsNumber (Contains b) y → KindKeeps k m n (on_number f y)
of_one f b k m n Nothing h q = absurd q
of_one f b k m n (Number v) h q = h v q
of_one f b k m n (Pointer r o) h q = absurd q
