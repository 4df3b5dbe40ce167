use Rattle.std.proofs.Common.{rules, arith, ◌≤ℤ◌, ◌+ℤ◌, neg_ℤ, pos, refl}
use Rattle.std.proofs.lemmas.Int.{ints, to_z-of_z}
use Rattle.std.specs.Prelude.{FitsSigned}
use Rattle.std.specs.Int.{w64}
use Rattle.bpf_helpers.specs.declared.values.Value.TheVariants.{Pointer}
use Rattle.bpf_flow.proofs.Pointers.{moved_is, not_below}
use Rattle.bpf_flow.proofs.numbers.moved.Goals as goal

pub returns : goal.returns
returns c = λ m n o d p q.
    let f : FitsSigned w64 c.in-Some.lo = search rules in
    let g : FitsSigned w64 c.in-Some-checked_add.hi = search rules in
    let l : neg_ℤ (pos 65536) ≤ℤ c.in-Some.lo = not_below c.in-Some.lo (neg_ℤ (pos 65536)) (simp to_z-of_z at c.if-lo-ltminus65536.false) in
    let h : c.in-Some-checked_add.hi ≤ℤ pos 65536 = not_below (pos 65536) c.in-Some-checked_add.hi (simp to_z-of_z at c.if-hi-gt65536.false) in
    rw (moved_is c.args.place.region (o +ℤ d) (omega (arith, ints, c.in-Some.ensures)) (omega (arith, ints, c.in-Some-checked_add.ensures)))
    (c.pointers.ensures m n (Pointer c.args.place.region (o +ℤ d)) (refl, (omega (arith, ints, c.in-Some.ensures), omega (arith, ints, c.in-Some-checked_add.ensures))))
