use Rattle.std.proofs.Common.{arith}
use Rattle.bpf_insn.proofs.Codes.{encodes_some, encodes_none, encodes_all}
use Rattle.bpf_insn.proofs.encoding.encode.Goals as goal
use Rattle.bpf_insn.proofs.encoding.encode.Goals.{in-Some+in_ok-put_insn-in-Some, in-None}

pub loop-unit-preserved : goal.loop-unit-preserved
loop-unit-preserved g c = elim c.match-insn_at.branch [
  | in-Some+in_ok-put_insn-in-Some w ↦ rw w.image-is (encodes_some c.args.code.now c.loop-unit.unit c.loop-unit.image.items _ w.in-Some.insn (omega (arith, c.units-units.ensures.value)) w.in-Some.ensures.value c.loop-unit.invariant w.in_ok-put_insn-in-Some.ensures)
  | in-None w ↦ rw w.image-is (encodes_none c.args.code.now c.loop-unit.unit c.loop-unit.image.items (omega (arith, c.units-units.ensures.value)) w.in-None.ensures.value c.loop-unit.invariant)
]

pub returns : goal.returns
returns g c = encodes_all c.args.code.now c.loop-unit.unit c.loop-unit.image.items c.units-units.ensures.is_code (omega (arith, c.units-units.ensures.value)) c.loop-unit.invariant
