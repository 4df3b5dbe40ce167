-- Two `Known` values are equal if their parts are.
use Rattle.std.proofs.Common.{◌≡◌, ◌∙◌, ◌≤◌, ℕ, Bool, true, false, refl, ap, subst, bit_and}
use Rattle.std.proofs.Math.Bool.{◌&&◌}
use Rattle.std.proofs.Math.Dec.{eqb}
use Rattle.std.proofs.Math.Nat.{ℕ_set}
use Rattle.std.proofs.Math.Bridge.{le_prop}
use Rattle.std.proofs.lemmas.Bool.{eqb-true, false≢true}
use Rattle.bpf_range.specs.declared.values.Range.{Range}
use Rattle.bpf_range.specs.declared.values.Bits.{Bits}
use Rattle.bpf_range.specs.declared.known.Known.{Known}

both : (s t : Bool) → (s && t) ≡ true → (s ≡ true) × (t ≡ true)
both true t e = (refl, e)
both false t e = absurd (false≢true e)

abbrev range : (lo hi : ℕ) → lo ≤ hi → Range
range lo hi p = record { lo = lo; hi = hi; ordered = p }

abbrev bits : (value unknown : ℕ) → bit_and value unknown ≡ 0 → Bits
bits value unknown p = record { value = value; unknown = unknown; apart = p }

same_ranges : (a b : Range) → a.lo ≡ b.lo → a.hi ≡ b.hi → a ≡ b
same_ranges a b e f = subst (λ (l : ℕ). (q : l ≤ b.hi) → a ≡ range l b.hi q) e (subst (λ (h : ℕ). (q : a.lo ≤ h) → a ≡ range a.lo h q) f (λ q. ap (λ (p : a.lo ≤ a.hi). range a.lo a.hi p) (le_prop a.ordered q))) b.ordered

same_bits : (a b : Bits) → a.value ≡ b.value → a.unknown ≡ b.unknown → a ≡ b
same_bits a b e f = subst (λ (v : ℕ). (q : bit_and v b.unknown ≡ 0) → a ≡ bits v b.unknown q) e (subst (λ (u : ℕ). (q : bit_and a.value u ≡ 0) → a ≡ bits a.value u q) f (λ q. ap (λ (p : bit_and a.value a.unknown ≡ 0). bits a.value a.unknown p) (ℕ_set _ _ a.apart q))) b.apart

abbrev known : Range → Bits → Known
known r b = record { range = r; bits = b }

pub same_known : (a b : Known) → ((eqb a.range.lo b.range.lo && eqb a.range.hi b.range.hi) && (eqb a.bits.value b.bits.value && eqb a.bits.unknown b.bits.unknown)) ≡ true → a ≡ b
same_known a b h =
    let all = both _ _ h in
    let first = both _ _ all.0 in
    let second = both _ _ all.1 in
    ap (λ (r : Range). known r a.bits) (same_ranges a.range b.range (eqb-true _ _ first.0) (eqb-true _ _ first.1)) ∙ ap (λ (s : Bits). known b.range s) (same_bits a.bits b.bits (eqb-true _ _ second.0) (eqb-true _ _ second.1))
