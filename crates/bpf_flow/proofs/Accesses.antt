-- Accesses inside their regions.
use Rattle.std.proofs.Common.{◌≡◌, ℕ, ◌+◌, ◌≤◌, length, ℤ, pos, negsuc, refl, arith}
use Rattle.std.specs.Prelude.{◌+ℤ◌, ◌≤ℤ◌, IsSome}
use Rattle.std.proofs.lemmas.Int.{ints}
use Rattle.std.proofs.lemmas.Bool.{le-leb}
use Rattle.bpf_helpers.specs.declared.values.Region.{Region}
use Rattle.bpf_helpers.specs.Machine.{Config, base_of, contents, inside, access}
use Rattle.bpf_flow.specs.Kinds.{Between}

inside_is : (z : ℤ) (n len : ℕ) → pos 0 ≤ℤ z → (z +ℤ pos n) ≤ℤ pos len → IsSome (inside z n len)
inside_is (pos p) n len h k = let l : p + n ≤ len = omega (arith, ints) in rw (le-leb (p + n) len l) refl
inside_is (negsuc p) n len h k = absurd (omega (arith, ints))

pub accessed : (c : Config) (q : Region) (lo hi off first last : ℤ) (size : ℕ) → first +ℤ base_of q ≡ pos 0 → (last +ℤ base_of q) ≤ℤ pos (length (contents c q)) → first ≤ℤ (lo +ℤ off) → (hi +ℤ off +ℤ pos size) ≤ℤ last → (o : ℤ) (n : ℕ) → Between lo hi o → n ≤ size → IsSome (access c q (o +ℤ off) n)
accessed c q lo hi off first last size e l f g o n b h =
    let h0 : lo ≤ℤ o = b.0 in
    let h1 : o ≤ℤ hi = b.1 in
    inside_is (o +ℤ off +ℤ base_of q) n (length (contents c q)) (omega (arith, ints)) (omega (arith, ints))
