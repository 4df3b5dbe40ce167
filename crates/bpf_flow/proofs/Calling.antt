-- Calls, with the state before them.
use Rattle.std.proofs.Common.{◌≡◌, ℕ, ℤ, pos, ◌+◌, ◌≤◌, length, take, drop, refl, ap, ◌∙◌, arith, Some, None, cond, lit<}
use Rattle.std.specs.Prelude.{IsSome, ◌+ℤ◌}
use Rattle.std.specs.Option.{option_and_then, option_map}
use Rattle.std.proofs.lemmas.Bool.{le-leb}
use Rattle.std.proofs.lemmas.Int.{ints}
use Rattle.bpf_insn.specs.declared.insn.Insn.TheVariants.{Call}
use Rattle.bpf_helpers.specs.declared.values.Region.{Region}
use Rattle.bpf_helpers.specs.declared.values.Region.TheVariants.{Argument}
use Rattle.bpf_helpers.specs.declared.values.Value.{Value}
use Rattle.bpf_helpers.specs.declared.values.Value.TheVariants.{Nothing, Number, Pointer}
use Rattle.bpf_helpers.specs.declared.helpers.Helper.{Helper}
use Rattle.bpf_helpers.specs.declared.helpers.Helper.TheVariants.{Reply, Now, Present, Who, Copy}
use Rattle.bpf_helpers.specs.Helpers.{Answer, AnswersIn, IsEnv, answer_of, numbered}
use Rattle.bpf_helpers.specs.Machine.{Config, register, contents, with_contents, access, base_of, after_answer, answered, helper_call, copy_of, after_copy}
use Rattle.bpf_range.specs.declared.known.Known.{Known}
use Rattle.bpf_range.specs.Sets.{Contains, range_of}
use Rattle.bpf_flow.specs.declared.state.State.{State}
use Rattle.bpf_flow.specs.Kinds.{IsNumber, IsPointer, Between}
use Rattle.bpf_flow.specs.States.{Fits, IsConfig}
use Rattle.bpf_flow.specs.Steps.{Passes, IsCalled, Accesses}
use Rattle.bpf_helpers.proofs.Lengths.{inside_at, taken, moved}
use Rattle.bpf_flow.proofs.Memories.{Written, writes_contents, found}

pub call_passes : (id : ℤ) (h : Helper) (s t : State) → numbered id ≡ Some h → IsCalled h s t → Passes (Call id) s t
call_passes id h s t is called = λ c config f.
    let d = called c config f in
    (d.0, ap (option_and_then (helper_call c)) is ∙ d.1, d.2, d.3)

-- a state fits after a call whose result is one of these numbers
pub record Answers (s t : State) (k : Known) : Type 0 where
  pub by : (c : Config) (a : Answer) → Fits s c → Contains k a.value → Fits t (after_answer a c)

env_of : (c : Config) → IsConfig c → IsEnv c.env
env_of c config = record { now_fits = config.now_fits; who_fits = config.who_fits }

pub now_called : (s t : State) (k : Known) → Answers s t k → AnswersIn (Contains k) Now → IsCalled Now s t
now_called s t k a all = λ c config f. (answered Now 0 c, refl, refl, a.by c (answer_of Now 0 c.env c.word) f (all 0 c.word c.env (lit< tt) (env_of c config)))

pub present_called : (s t : State) (k : Known) → Answers s t k → AnswersIn (Contains k) Present → IsCalled Present s t
present_called s t k a all = λ c config f. (answered Present 0 c, refl, refl, a.by c (answer_of Present 0 c.env c.word) f (all 0 c.word c.env (lit< tt) (env_of c config)))

pub who_called : (s t : State) (k : Known) → Answers s t k → AnswersIn (Contains k) Who → IsCalled Who s t
who_called s t k a all = λ c config f. (answered Who 0 c, refl, refl, a.by c (answer_of Who 0 c.env c.word) f (all 0 c.word c.env (lit< tt) (env_of c config)))

pub reply_called : (s t : State) (k z : Known) → Answers s t z → Contains z 0 → ((c : Config) → Fits s c → IsNumber (Contains k) (register c 1)) → IsCalled Reply s t
reply_called s t k z a zero num = λ c config f. at c f (register c 1) refl (num c f)
  where
    at : (c : Config) → Fits s c → (v : Value) → register c 1 ≡ v → IsNumber (Contains k) v → (d : Config) × (helper_call c Reply ≡ Some d) × (d.place ≡ c.place + 1) × Fits t d
    at c f Nothing e h = absurd h
    at c f (Number n) e h = (answered Reply n c, ap (λ v. Rattle.bpf_helpers.specs.Machine.after_reply v c) e, refl, a.by c (answer_of Reply n c.env c.word) f zero)
    at c f (Pointer r o) e h = absurd h

plus_none : (o : ℤ) → o +ℤ pos 0 ≡ o
plus_none o = omega (arith, ints)

copy_is : (c d : Config) (r q : Region) (o e : ℤ) (n to from : ℕ) → n ≤ 1024 → access c r o n ≡ Some to → access c q e n ≡ Some from → with_contents c r to (take n (drop from (contents c q))) ≡ Some d → copy_of r o q e n c ≡ Some (answered Copy n d)
copy_is c d r q o e n to from l a b w =
    ap (λ z. cond z (moved c r q o e n) None) (le-leb n 1024 l)
    ∙ ap (option_and_then (λ to. option_and_then (λ from. option_map (answered Copy n) (with_contents c r to (take n (drop from (contents c q))))) (access c q e n))) a
    ∙ ap (option_and_then (λ from. option_map (answered Copy n) (with_contents c r to (take n (drop from (contents c q)))))) b
    ∙ ap (option_map (answered Copy n)) w

copies : (s t : State) (z : Known) (c : Config) (r q : Region) (o e : ℤ) (n : ℕ) → Answers s t z → Contains z n → Fits s c → n ≤ 1024 → (r ≡ Argument → ⊥) → IsSome (access c r (o +ℤ pos 0) n) → IsSome (access c q (e +ℤ pos 0) n)
    → (d : Config) × (copy_of r o q e n c ≡ Some d) × (d.place ≡ c.place + 1) × Fits t d
copies s t z c r q o e n a zn f l ne p u =
    let p' : IsSome (access c r o n) = rw (plus_none o) at p in
    let u' : IsSome (access c q e n) = rw (plus_none e) at u in
    let to = found (access c r o n) p' in
    let from = found (access c q e n) u' in
    let i : to.0 + n ≤ length (contents c r) = inside_at (o +ℤ base_of r) n (length (contents c r)) to.0 to.1 in
    let j : from.0 + n ≤ length (contents c q) = inside_at (e +ℤ base_of q) n (length (contents c q)) from.0 from.1 in
    let m : length (take n (drop from.0 (contents c q))) ≡ n = taken n from.0 (contents c q) j in
    let w : Written s c r to.0 (take n (drop from.0 (contents c q))) = writes_contents s c r to.0 (take n (drop from.0 (contents c q))) ne (rw m i) f in
    (answered Copy n w.next, copy_is c w.next r q o e n to.0 from.0 l to.1 from.1 w.is, ap (λ x. x + 1) w.place, a.by w.next (answer_of Copy n w.next.env w.next.word) w.fits zn)

pub copy_called : (s t : State) (k z : Known) (r q : Region) (rlo rhi qlo qhi : ℤ) → Answers s t z → ((n : ℕ) → n ≤ 1024 → Contains z n) → (range_of k).hi ≤ 1024 → (r ≡ Argument → ⊥)
    → ((c : Config) → Fits s c → IsPointer r (Between rlo rhi) (register c 1))
    → ((c : Config) → Fits s c → IsPointer q (Between qlo qhi) (register c 2))
    → ((c : Config) → Fits s c → IsNumber (Contains k) (register c 3))
    → Accesses r rlo rhi s (pos 0) (range_of k).hi → Accesses q qlo qhi s (pos 0) (range_of k).hi
    → IsCalled Copy s t
copy_called s t k z r q rlo rhi qlo qhi a all few ne first second third reach reach' = λ c config f. at c config f (register c 1) (register c 2) (register c 3) refl refl refl (first c f) (second c f) (third c f)
  where
    at : (c : Config) → IsConfig c → Fits s c → (x y v : Value) → register c 1 ≡ x → register c 2 ≡ y → register c 3 ≡ v → IsPointer r (Between rlo rhi) x → IsPointer q (Between qlo qhi) y → IsNumber (Contains k) v → (d : Config) × (helper_call c Copy ≡ Some d) × (d.place ≡ c.place + 1) × Fits t d
    at c config f Nothing y v e e' e'' p u w = absurd p
    at c config f (Number x) y v e e' e'' p u w = absurd p
    at c config f (Pointer r' o) Nothing v e e' e'' p u w = absurd u
    at c config f (Pointer r' o) (Number y) v e e' e'' p u w = absurd u
    at c config f (Pointer r' o) (Pointer q' o') Nothing e e' e'' p u w = absurd w
    at c config f (Pointer r' o) (Pointer q' o') (Pointer i j) e e' e'' p u w = absurd w
    at c config f (Pointer r' o) (Pointer q' o') (Number n) e e' e'' p u w =
        let b : n ≤ (range_of k).hi = w.inside.greatest in
        let l : n ≤ 1024 = omega arith in
        let d = copies s t z c r q o o' n a (all n l) f l ne (reach c config f o n p.1 b) (reach' c config f o' n u.1 b) in
        let g : copy_of r' o q' o' n c ≡ Some d.0 = rw (p.0, u.0) d.1 in
        (d.0, ap (λ x. after_copy x (register c 2) (register c 3) c) e ∙ ap (λ x. after_copy (Pointer r' o) x (register c 3) c) e' ∙ ap (λ x. after_copy (Pointer r' o) (Pointer q' o') x c) e'' ∙ g, d.2, d.3)
