use Rattle.std.proofs.Common.{◌≡◌, arith, string_bytes}
use Rattle.bpf_asm.specs.Printed.{text_of}
use Rattle.bpf_asm.proofs.Written.{writes_some, writes_none, writes_all}
use Rattle.bpf_asm.proofs.Printed.{denoted}
use Rattle.bpf_asm.proofs.disassembling.disassemble.Goals as goal
use Rattle.bpf_asm.proofs.disassembling.disassemble.Goals.{in-Some+in_ok-write_line-in-Some, in-None}

pub loop-unit-preserved : goal.loop-unit-preserved
loop-unit-preserved g c = elim c.match-insn_at.branch [
  | in-Some+in_ok-write_line-in-Some w ↦ rw w.text-is (writes_some c.args.code.now c.loop-unit.unit (string_bytes c.loop-unit.text) _ w.in-Some.insn (omega (arith, c.units-unit-end.ensures.value)) w.in-Some.ensures.value c.loop-unit.invariant w.in_ok-write_line-in-Some.ensures)
  | in-None w ↦ rw w.text-is (writes_none c.args.code.now c.loop-unit.unit (string_bytes c.loop-unit.text) (omega (arith, c.units-unit-end.ensures.value)) w.in-None.ensures.value c.loop-unit.invariant)
]

pub returns-clause-text : goal.returns-clause-text
returns-clause-text g c = writes_all c.args.code.now c.loop-unit.unit (string_bytes c.loop-unit.text) (omega (arith, c.units-unit-end.ensures.value)) c.loop-unit.invariant

pub returns-clause-denotes : goal.returns-clause-denotes
returns-clause-denotes g c =
    let e : string_bytes c.loop-unit.text ≡ text_of c.args.code.now = writes_all c.args.code.now c.loop-unit.unit (string_bytes c.loop-unit.text) (omega (arith, c.units-unit-end.ensures.value)) c.loop-unit.invariant in
    denoted c.args.code.now (string_bytes c.loop-unit.text) c.units-unit-end.ensures.is_code e
