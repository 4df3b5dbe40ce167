-- Jumps, with the state before them.
use Rattle.std.proofs.Common.{◌≡◌, ℕ, ℤ, pos, negsuc, ◌+◌, ◌%◌, length, refl, sym, ap, ◌∙◌, arith, Option, Some, None, inl, inr, Bool, true, false}
use Rattle.std.specs.Prelude.{◌⊎◌, IsSome, IsSomeAnd, ◌≤ℤ◌}
use Rattle.std.specs.Int.{w64, cast_unsigned}
use Rattle.std.specs.Option.{option_and_then}
use Rattle.std.proofs.lemmas.Int.{ints}
use Rattle.bpf_insn.specs.declared.insn.Width.{Width}
use Rattle.bpf_insn.specs.declared.insn.Width.TheVariants.{W32, W64}
use Rattle.bpf_insn.specs.declared.insn.Test.{Test}
use Rattle.bpf_insn.specs.declared.insn.Operand.{Operand}
use Rattle.bpf_insn.specs.declared.insn.Insn.TheVariants.{Branch, Jump, JumpFar}
use Rattle.bpf_helpers.specs.declared.values.Value.{Value}
use Rattle.bpf_helpers.specs.declared.values.Value.TheVariants.{Nothing, Number, Pointer}
use Rattle.bpf_insn.specs.declared.insn.Operand.TheVariants.{Imm, Reg}
use Rattle.bpf_insn.specs.Arithmetic.{modulus}
use Rattle.bpf_insn.specs.Conditions.{comparison, holds_of}
use Rattle.bpf_helpers.specs.Machine.{Config, register, operand, effect, exit_code, comparison_of, branch_by, jump_by}
use Rattle.bpf_range.specs.declared.known.Known.{Known}
use Rattle.bpf_range.specs.Sets.{Contains}
use Rattle.bpf_flow.specs.declared.state.State.{State}
use Rattle.bpf_flow.specs.Kinds.{IsNumber}
use Rattle.bpf_flow.specs.States.{Fits}
use Rattle.bpf_flow.specs.Steps.{Edges, Sound, Flows, Lands, FitsSome}
use Rattle.bpf_flow.specs.Tested.{tested}
use Rattle.bpf_flow.proofs.Memories.{same_fits}

cut_once : (w : Width) (n : ℕ) → n % modulus w % modulus w ≡ n % modulus w
cut_once W32 n = omega arith
cut_once W64 n = omega arith

-- a test reads only the low bits of an immediate, by its width
takes_tested : (t : Test) (w : Width) (v : Value) (c : Config) (o : Operand) → comparison_of t w v (operand c o) ≡ comparison_of t w v (tested w c o)
takes_tested t w Nothing c o = refl
takes_tested t w (Number a) c (Imm k) = ap (λ (x : ℕ). Some (comparison t w (a % modulus w) x)) (sym (cut_once w (cast_unsigned w64 k)))
takes_tested t w (Number a) c (Reg r) = refl
takes_tested t w (Pointer q p) c o = refl

pub natural : (z : ℤ) → pos 0 ≤ℤ z → (k : ℕ) × (z ≡ pos k)
natural (pos k) h = (k, refl)
natural (negsuc k) h = absurd (omega (arith, ints))

compares : (t : Test) (w : Width) (a b : Known) (x y : Value) → IsNumber (Contains a) x → IsNumber (Contains b) y → (v : Bool) × (comparison_of t w x y ≡ Some v)
compares t w a b Nothing y p q = absurd p
compares t w a b (Number x) Nothing p q = absurd q
compares t w a b (Number x) (Number y) p q = (holds_of t w x y, refl)
compares t w a b (Number x) (Pointer r o) p q = absurd q
compares t w a b (Pointer r o) y p q = absurd p

fits_some : (o : Option State) (c d : Config) → d.registers ≡ c.registers → d.bytes ≡ c.bytes → d.argument ≡ c.argument → IsSomeAnd o (λ t. Fits t c) → FitsSome o d
fits_some None c d r b a h = let e : ⊥ = h in absurd e
fits_some (Some t) c d r b a h = same_fits t c d r (ap length b) (ap length a) h

pub branch_sound : (t : Test) (w : Width) (r : ℕ) (o : Operand) (off : ℤ) (s : State) (e : Edges) (a b : Known) → pos 0 ≤ℤ off
    → ((c : Config) → Fits s c → IsNumber (Contains a) (register c r))
    → ((c : Config) → Fits s c → IsNumber (Contains b) (tested w c o))
    → ((c : Config) → Fits s c → IsNumber (Contains a) (register c r) → IsNumber (Contains b) (tested w c o) → comparison_of t w (register c r) (tested w c o) ≡ Some false → IsSomeAnd e.next (λ n. Fits n c))
    → ((c : Config) → Fits s c → IsNumber (Contains a) (register c r) → IsNumber (Contains b) (tested w c o) → comparison_of t w (register c r) (tested w c o) ≡ Some true → IsSomeAnd e.jump (λ n. Fits n c))
    → Sound (Branch t w r o off) s e
branch_sound t w r o off s e a b forward first second next jump = λ c config f.
    let v = compares t w a b (register c r) (tested w c o) (first c f) (second c f) in
    decide c f (first c f) (second c f) v.0 v.1
  where
    far : (k : ℕ) × (off ≡ pos k)
    far = natural off forward

    decide : (c : Config) → Fits s c → IsNumber (Contains a) (register c r) → IsNumber (Contains b) (tested w c o) → (v : Bool) → comparison_of t w (register c r) (tested w c o) ≡ Some v → IsSome (exit_code (Branch t w r o off) c) ⊎ ((d : Config) × (effect (Branch t w r o off) c ≡ Some d) × Lands (Branch t w r o off) e c d)
    decide c f x y false h = inr (record c { place = c.place + 1 }, ap (option_and_then (λ z. branch_by z off c)) (takes_tested t w (register c r) c o ∙ h), inl (refl, fits_some e.next c (record c { place = c.place + 1 }) refl refl refl (next c f x y h)))
    decide c f x y true h =
        let k : (k : ℕ) × (off ≡ pos k) = natural off forward in
        inr (record c { place = c.place + 1 + k.0 }, ap (option_and_then (λ z. branch_by z off c)) (takes_tested t w (register c r) c o ∙ h) ∙ ap (λ z. jump_by z c) k.1, inr (k.0, k.1, refl, fits_some e.jump c (record c { place = c.place + 1 + k.0 }) refl refl refl (jump c f x y h)))

-- a conditional jump may have both edges
pub branch_flows : (t : Test) (w : Width) (r : ℕ) (o : Operand) (off : ℤ) (s : State) (e : Edges) → Sound (Branch t w r o off) s e → Flows (Branch t w r o off) s e
branch_flows t w r o off s e sound = record { sound = sound; next = λ _. tt; jump = λ _. tt }

jump_sound : (off : ℤ) (s : State) → pos 0 ≤ℤ off → Sound (Jump off) s (record { next = None; jump = Some s })
jump_sound off s forward = λ c config f.
    let k : (k : ℕ) × (off ≡ pos k) = natural off forward in
    inr (record c { place = c.place + 1 + k.0 }, ap (λ z. jump_by z c) k.1, inr (k.0, k.1, refl, same_fits s c (record c { place = c.place + 1 + k.0 }) refl refl refl f))

jump_far_sound : (off : ℤ) (s : State) → pos 0 ≤ℤ off → Sound (JumpFar off) s (record { next = None; jump = Some s })
jump_far_sound off s forward = λ c config f.
    let k : (k : ℕ) × (off ≡ pos k) = natural off forward in
    inr (record c { place = c.place + 1 + k.0 }, ap (λ z. jump_by z c) k.1, inr (k.0, k.1, refl, same_fits s c (record c { place = c.place + 1 + k.0 }) refl refl refl f))

no_next : IsSome {T = State} None → ⊥
no_next h = cc

pub jump_flows : (off : ℤ) (s : State) → pos 0 ≤ℤ off → Flows (Jump off) s (record { next = None; jump = Some s })
jump_flows off s forward = record { sound = jump_sound off s forward; next = λ h. no_next h; jump = λ _. tt }

pub jump_far_flows : (off : ℤ) (s : State) → pos 0 ≤ℤ off → Flows (JumpFar off) s (record { next = None; jump = Some s })
jump_far_flows off s forward = record { sound = jump_far_sound off s forward; next = λ h. no_next h; jump = λ _. tt }
