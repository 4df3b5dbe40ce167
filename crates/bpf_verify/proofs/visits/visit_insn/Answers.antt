use Rattle.std.proofs.Common.{◌≡◌, ◌+◌, arith, w64, to_z, of_z}
use Rattle.std.proofs.Math.IntN.{nat_abs}
use Rattle.std.proofs.lemmas.Int.{ints}
use Rattle.bpf_flow.specs.Steps.{distance_of}
use Rattle.bpf_flow.proofs.Jumping.{natural}
use Rattle.bpf_verify.proofs.Built.{distance_forward}
use Rattle.bpf_verify.proofs.Keeping.{plain}
use Rattle.bpf_verify.proofs.visits.visit_insn.Goals as goal

pub visit_branch-requires-clause-jump : goal.visit_branch-requires-clause-jump
visit_branch-requires-clause-jump g c =
    let k = natural (distance_of c.args.insn) (distance_forward c.args.insn c.requires.built) in
    let far : c.args.at + 1 + nat_abs (to_z w64 (of_z w64 c.distance.result)) ≡ c.args.at + 1 + k.0 = omega (arith, ints, c.distance.ensures.value, k.1) in
    rw far (c.requires.jump k.0 (rw c.in-Branch.is tt) k.1)

pub visit_plain-requires : goal.visit_plain-requires
visit_plain-requires g c = record {
  has = c.requires.has;
  built = c.requires.built;
  plain = plain c.args.insn c.in_default.not-Branch;
  next = λ h. rw c.units.ensures (c.requires.next h);
  jump = λ h.
      let k = natural (distance_of c.args.insn) (distance_forward c.args.insn c.requires.built) in
      let far : c.args.at + 1 + nat_abs (to_z w64 (of_z w64 c.distance.result)) ≡ c.args.at + 1 + k.0 = omega (arith, ints, c.distance.ensures.value, k.1) in
      rw far (c.requires.jump k.0 h k.1);
}

pub returns-in-Ok-visit_plain : goal.returns-in-Ok-visit_plain
returns-in-Ok-visit_plain g c = record {
  taken = record { to = _; far = λ k far. omega (arith, ints, c.distance.ensures.value, far); taken = rw c.units.ensures at c.in-Ok-visit_plain.ensures.taken };
  halts = tt;
  keeps = c.visit_plain.ensures.keeps;
}
