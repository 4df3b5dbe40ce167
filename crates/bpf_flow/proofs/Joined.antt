-- The join of two states.
use Rattle.std.proofs.Common.{◌≡◌, ℕ, ◌+◌, ◌<◌, length, ◌∙◌, arith, List, ⊎_elim}
use Rattle.std.specs.Prelude.{slice_index_or, slice_set}
use Rattle.std.proofs.lemmas.Bool.{cases_eq}
use Rattle.std.proofs.Math.ListN.{length-set}
use Rattle.std.proofs.lemmas.List.{get_or-set_other}
use Rattle.std.proofs.lemmas.Grind.{get_or-set_at}
use Rattle.bpf_helpers.specs.declared.values.Value.{Value}
use Rattle.bpf_helpers.specs.Machine.{Config, register}
use Rattle.bpf_range.specs.declared.values.Range.{Range}
use Rattle.bpf_range.specs.declared.kinds.Kind.{Kind}
use Rattle.bpf_range.specs.declared.kinds.Kind.TheVariants.{Unset}
use Rattle.bpf_range.specs.Sets.{In}
use Rattle.bpf_flow.specs.Kinds.{HoldsKind}
use Rattle.bpf_flow.specs.declared.state.State.{State}
use Rattle.bpf_flow.specs.States.{Fits}

-- each value of the kind a is one of the kind r if the lengths are in the ranges
pub record Wider (bytes argument : Range) (a r : Kind) : Type 0 where
  pub by : (m n : ℕ) (v : Value) → In bytes m → In argument n → HoldsKind a m n v → HoldsKind r m n v

-- each kind below i is wider
pub record WiderBelow (s : State) (kinds : List Kind) (i : ℕ) : Type 0 where
  pub long : length kinds ≡ 11
  pub each : (k : ℕ) → k < i → Wider s.bytes s.argument (slice_index_or s.kinds k Unset) (slice_index_or kinds k Unset)

pub wider_fits : (s t : State) (c : Config) → WiderBelow s t.kinds 11 → ((n : ℕ) → In s.bytes n → In t.bytes n) → ((n : ℕ) → In s.argument n → In t.argument n) → Fits s c → Fits t c
wider_fits s t c w b a f = record {
  kinds = λ r h. (w.each r h).by (length c.bytes) (length c.argument) (register c r) f.bytes f.argument (f.kinds r h);
  bytes = b (length c.bytes) f.bytes;
  argument = a (length c.argument) f.argument;
}

pub wider_more : (s : State) (kinds : List Kind) (i : ℕ) (k : Kind) → i < 11 → WiderBelow s kinds i → Wider s.bytes s.argument (slice_index_or s.kinds i Unset) k → WiderBelow s (slice_set kinds i k) (i + 1)
wider_more s kinds i k h w new =
    let n : length kinds ≡ 11 = w.long in
    record {
      long = length-set kinds i k ∙ w.long;
      each = λ j below. ⊎_elim
          (λ (e : j ≡ i). let same : slice_index_or (slice_set kinds i k) j Unset ≡ k = get_or-set_at kinds i j k Unset e (omega arith) in
          rw (same, e) new)
          (λ (ne : j ≡ i → ⊥). let same : slice_index_or (slice_set kinds i k) j Unset ≡ slice_index_or kinds j Unset = get_or-set_other kinds i j k Unset ne in
          rw same (w.each j (omega arith)))
          (cases_eq j i);
    }
