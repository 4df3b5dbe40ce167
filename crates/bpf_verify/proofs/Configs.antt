-- Properties of configurations that a step preserves.
use Rattle.std.proofs.Common.{◌≡◌, ℕ, ℤ, pos, negsuc, zero, suc, ◌+◌, ◌-◌, ◌/◌, ◌^◌, ◌<◌, ◌≤◌, length, take, drop, Some, None, Bool, true, false, ◌∙◌, subst, arith, List, [], ◌∷◌, ◌++◌, lit<, length-drop}
use Rattle.std.specs.Prelude.{slice_set, ◌==◌, nat_le, ◌+ℤ◌, if◌then◌else◌}
use Rattle.std.specs.Option.{option_and_then, option_map}
use Rattle.std.specs.Int.{bytes_low_first, byte_at}
use Rattle.byteorder.specs.Endian.{little_bytes}
use Rattle.std.proofs.Math.ListN.{length-set}
use Rattle.std.proofs.Math.Nat.{mod-lt}
use Rattle.std.proofs.lemmas.Option.{option_and_then_some, same_Some}
use Rattle.bpf_insn.specs.declared.insn.Insn.{Insn}
use Rattle.bpf_insn.specs.declared.insn.Insn.TheVariants.{Alu, Unary, Branch, Jump, JumpFar, Call, Exit, Load, LoadSigned, StoreImm, Store, Wide}
use Rattle.bpf_helpers.specs.declared.values.Region.{Region}
use Rattle.bpf_helpers.specs.declared.values.Region.TheVariants.{Record, Argument, Stack}
use Rattle.bpf_helpers.specs.declared.values.Value.{Value}
use Rattle.bpf_helpers.specs.declared.values.Value.TheVariants.{Nothing, Number, Pointer}
use Rattle.bpf_insn.specs.Arithmetic.{bytes_of, sign_extension}
use Rattle.bpf_helpers.specs.Machine.{Config, register, effect, with_register, jump_by, branch_by, splice, with_contents, contents, access, base_of, after_number_store, after_store, next_unit, after_answer, answered, after_reply, helper_call, copy_of, after_copy}
use Rattle.bpf_helpers.specs.declared.helpers.Helper.{Helper}
use Rattle.bpf_helpers.specs.declared.helpers.Helper.TheVariants.{Reply, Now, Present, Who, Copy}
use Rattle.bpf_helpers.specs.Helpers.{Answer, answer_of}
use Rattle.bpf_helpers.specs.Runs.{AreBytes}
use Rattle.bpf_flow.specs.States.{IsConfig}
use Rattle.bpf_helpers.proofs.Lengths.{allowed, length_splice, inside_at, length_low, taken, mapped, moved}
use Rattle.bpf_flow.proofs.Memories.{contents_bytes, drop_bytes}

-- ---- bytes

bytes_none : AreBytes []
bytes_none i = lit< tt

bytes_append : (xs ys : List ℕ) → AreBytes xs → AreBytes ys → AreBytes (xs ++ ys)
bytes_append [] ys p q i = q i
bytes_append (x ∷ xs) ys p q zero = p 0
bytes_append (x ∷ xs) ys p q (suc i) = bytes_append xs ys (λ j. p (suc j)) q i

bytes_take : (k : ℕ) (xs : List ℕ) → AreBytes xs → AreBytes (take k xs)
bytes_take zero xs p i = lit< tt
bytes_take (suc k) [] p i = lit< tt
bytes_take (suc k) (x ∷ xs) p zero = p 0
bytes_take (suc k) (x ∷ xs) p (suc i) = bytes_take k xs (λ j. p (suc j)) i

byte_below : (k n : ℕ) → byte_at k n < 256
byte_below zero n = mod-lt n (lit< tt)
byte_below (suc k) n = mod-lt (n / 256 ^ suc k) (lit< tt)

bytes_low : (i k n : ℕ) → AreBytes (bytes_low_first i k n)
bytes_low i zero n j = lit< tt
bytes_low i (suc k) n zero = byte_below i n
bytes_low i (suc k) n (suc j) = bytes_low (suc i) k n j

bytes_splice : (xs : List ℕ) (p : ℕ) (new : List ℕ) → AreBytes xs → AreBytes new → AreBytes (splice xs p new)
bytes_splice xs p new a b = bytes_append (take p xs) (new ++ drop (p + length new) xs) (bytes_take p xs a) (bytes_append new (drop (p + length new) xs) b (drop_bytes (p + length new) xs a))

-- ---- steps

keeps_register : (c d : Config) (u r : ℕ) (v : Value) → IsConfig c → with_register c u r v ≡ Some d → IsConfig d
keeps_register c d u r v h e =
    let s = allowed (r == 10) (record c { place = c.place + u; registers = slice_set c.registers r v }) d e in
    subst (λ x. IsConfig x) s (record { eleven = length-set c.registers r v ∙ h.eleven; stack_fits = h.stack_fits; are_bytes = h.are_bytes; are_argument = h.are_argument; are_stack = h.are_stack; now_fits = h.now_fits; who_fits = h.who_fits })

keeps_place : (c : Config) (p : ℕ) → IsConfig c → IsConfig (record c { place = p })
keeps_place c p h = record { eleven = h.eleven; stack_fits = h.stack_fits; are_bytes = h.are_bytes; are_argument = h.are_argument; are_stack = h.are_stack; now_fits = h.now_fits; who_fits = h.who_fits }

keeps_jump : (c d : Config) (z : ℤ) → IsConfig c → jump_by z c ≡ Some d → IsConfig d
keeps_jump c d (pos k) h e = subst (λ x. IsConfig x) (same_Some _ d e) (keeps_place c (c.place + 1 + k) h)
keeps_jump c d (negsuc k) h e = let f : ⊥ = cc in absurd f

keeps_branch : (b : Bool) (c d : Config) (z : ℤ) → IsConfig c → branch_by b z c ≡ Some d → IsConfig d
keeps_branch true c d z h e = keeps_jump c d z h e
keeps_branch false c d z h e = subst (λ x. IsConfig x) (same_Some _ d e) (keeps_place c (c.place + 1) h)

keeps_contents : (c d : Config) (r : Region) (p : ℕ) (new : List ℕ) → IsConfig c → AreBytes new → p + length new ≤ length (contents c r) → with_contents c r p new ≡ Some d → IsConfig d
keeps_contents c d Record p new h b l e = subst (λ y. IsConfig y) (same_Some _ d e) (record { eleven = h.eleven; stack_fits = h.stack_fits; are_bytes = bytes_splice c.bytes p new h.are_bytes b; are_argument = h.are_argument; are_stack = h.are_stack; now_fits = h.now_fits; who_fits = h.who_fits })
keeps_contents c d Argument p new h b l e = let f : ⊥ = cc in absurd f
keeps_contents c d Stack p new h b l e =
    subst (λ y. IsConfig y) (same_Some _ d e) (record { eleven = h.eleven; stack_fits = length_splice c.stack p new l ∙ h.stack_fits; are_bytes = h.are_bytes; are_argument = h.are_argument; are_stack = bytes_splice c.stack p new h.are_stack b; now_fits = h.now_fits; who_fits = h.who_fits })

keeps_number_store : (c d : Config) (a : Value) (off : ℤ) (n x : ℕ) → IsConfig c → after_number_store c a off n x ≡ Some d → IsConfig d
keeps_number_store c d Nothing off n x h e = let f : ⊥ = cc in absurd f
keeps_number_store c d (Number k) off n x h e = let f : ⊥ = cc in absurd f
keeps_number_store c d (Pointer r o) off n x h e =
    option_and_then_some (λ p. option_map next_unit (with_contents c r p (little_bytes n x))) (access c r (o +ℤ off) n) d e
    (λ p is to. mapped next_unit (with_contents c r p (little_bytes n x)) d to (λ w was same.
    let m : length (little_bytes n x) ≡ n = length_low 0 n x in
    let l : p + n ≤ length (contents c r) = inside_at (o +ℤ off +ℤ base_of r) n (length (contents c r)) p is in
    subst (λ y. IsConfig y) same (keeps_place w (w.place + 1) (keeps_contents c w r p (little_bytes n x) h (bytes_low 0 n x) (rw m l) was))))

keeps_store : (c d : Config) (a v : Value) (off : ℤ) (n : ℕ) → IsConfig c → after_store c a off n v ≡ Some d → IsConfig d
keeps_store c d a Nothing off n h e = let f : ⊥ = cc in absurd f
keeps_store c d a (Number x) off n h e = keeps_number_store c d a off n x h e
keeps_store c d a (Pointer r o) off n h e = let f : ⊥ = cc in absurd f

keeps_answer : (c : Config) (a : Answer) → IsConfig c → IsConfig (after_answer a c)
keeps_answer c a h =
    let l : length (drop 6 c.registers) ≡ length c.registers - 6 = length-drop 6 c.registers in
    let e : length c.registers ≡ 11 = h.eleven in
    record { eleven = omega arith; stack_fits = h.stack_fits; are_bytes = h.are_bytes; are_argument = h.are_argument; are_stack = h.are_stack; now_fits = h.now_fits; who_fits = h.who_fits }

keeps_answered : (c d : Config) (h : Helper) (n : ℕ) → IsConfig c → Some (answered h n c) ≡ Some d → IsConfig d
keeps_answered c d h n config e = subst (λ y. IsConfig y) (same_Some _ d e) (keeps_answer c (answer_of h n c.env c.word) config)

keeps_reply : (c d : Config) (v : Value) → IsConfig c → after_reply v c ≡ Some d → IsConfig d
keeps_reply c d Nothing h e = let f : ⊥ = cc in absurd f
keeps_reply c d (Number n) h e = keeps_answered c d Reply n h e
keeps_reply c d (Pointer r o) h e = let f : ⊥ = cc in absurd f

keeps_copy : (c d : Config) (r q : Region) (o p : ℤ) (n : ℕ) → IsConfig c → copy_of r o q p n c ≡ Some d → IsConfig d
keeps_copy c d r q o p n h e = tested (nat_le n 1024) e
  where
    within : moved c r q o p n ≡ Some d → IsConfig d
    within e =
        option_and_then_some (λ to. option_and_then (λ from. option_map (answered Copy n) (with_contents c r to (take n (drop from (contents c q))))) (access c q p n)) (access c r o n) d e (λ to is e'.
        option_and_then_some (λ from. option_map (answered Copy n) (with_contents c r to (take n (drop from (contents c q))))) (access c q p n) d e' (λ from is' e''.
        mapped (answered Copy n) (with_contents c r to (take n (drop from (contents c q)))) d e'' (λ w was same.
        let i : to + n ≤ length (contents c r) = inside_at (o +ℤ base_of r) n (length (contents c r)) to is in
        let j : from + n ≤ length (contents c q) = inside_at (p +ℤ base_of q) n (length (contents c q)) from is' in
        let m : length (take n (drop from (contents c q))) ≡ n = taken n from (contents c q) j in
        subst (λ y. IsConfig y) same (keeps_answer w (answer_of Copy n w.env w.word) (keeps_contents c w r to (take n (drop from (contents c q))) h (bytes_take n _ (drop_bytes from _ (contents_bytes c q h))) (rw m i) was)))))

    tested : (b : Bool) → (if b then moved c r q o p n else None) ≡ Some d → IsConfig d
    tested true e = within e
    tested false e = let f : ⊥ = cc in absurd f

keeps_after_copy : (c d : Config) (x y z : Value) → IsConfig c → after_copy x y z c ≡ Some d → IsConfig d
keeps_after_copy c d Nothing y z h e = let f : ⊥ = cc in absurd f
keeps_after_copy c d (Number n) y z h e = let f : ⊥ = cc in absurd f
keeps_after_copy c d (Pointer r o) Nothing z h e = let f : ⊥ = cc in absurd f
keeps_after_copy c d (Pointer r o) (Number n) z h e = let f : ⊥ = cc in absurd f
keeps_after_copy c d (Pointer r o) (Pointer q p) Nothing h e = let f : ⊥ = cc in absurd f
keeps_after_copy c d (Pointer r o) (Pointer q p) (Number n) h e = keeps_copy c d r q o p n h e
keeps_after_copy c d (Pointer r o) (Pointer q p) (Pointer i j) h e = let f : ⊥ = cc in absurd f

keeps_helper : (c d : Config) (h : Helper) → IsConfig c → helper_call c h ≡ Some d → IsConfig d
keeps_helper c d Reply config e = keeps_reply c d (register c 1) config e
keeps_helper c d Now config e = keeps_answered c d Now 0 config e
keeps_helper c d Present config e = keeps_answered c d Present 0 config e
keeps_helper c d Who config e = keeps_answered c d Who 0 config e
keeps_helper c d Copy config e = keeps_after_copy c d (register c 1) (register c 2) (register c 3) config e

pub keeps_config : (i : Insn) (c d : Config) → IsConfig c → effect i c ≡ Some d → IsConfig d
keeps_config (Alu op w r s) c d h e = option_and_then_some (with_register c 1 r) _ d e (λ v is to. keeps_register c d 1 r v h to)
keeps_config (Unary op w r) c d h e = option_and_then_some (with_register c 1 r) _ d e (λ v is to. keeps_register c d 1 r v h to)
keeps_config (Branch t w r s off) c d h e = option_and_then_some (λ b. branch_by b off c) _ d e (λ b is to. keeps_branch b c d off h to)
keeps_config (Jump off) c d h e = keeps_jump c d off h e
keeps_config (JumpFar off) c d h e = keeps_jump c d off h e
keeps_config (Call id) c d h e = option_and_then_some (helper_call c) _ d e (λ helper is to. keeps_helper c d helper h to)
keeps_config Exit c d h e = let f : ⊥ = cc in absurd f
keeps_config (Load n r s off) c d h e = option_and_then_some (λ x. with_register c 1 r (Number x)) _ d e (λ x is to. keeps_register c d 1 r (Number x) h to)
keeps_config (LoadSigned n r s off) c d h e = option_and_then_some (λ x. with_register c 1 r (Number (sign_extension n x))) _ d e (λ x is to. keeps_register c d 1 r (Number (sign_extension n x)) h to)
keeps_config (StoreImm n r off k) c d h e = keeps_number_store c d _ off (bytes_of n) _ h e
keeps_config (Store n r off s) c d h e = keeps_store c d _ _ off (bytes_of n) h e
keeps_config (Wide r n) c d h e = keeps_register c d 2 r (Number n) h e
