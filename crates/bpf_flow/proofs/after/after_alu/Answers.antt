use Rattle.std.proofs.Common.{sym}
use Rattle.bpf_flow.proofs.Arms.{alu_passes}
use Rattle.bpf_flow.proofs.after.after_alu.Goals as goal

pub returns : goal.returns
returns c = alu_passes c.args.op c.args.width c.args.dst c.args.src c.args.state.now c.set.new.self c.operand-b.result c.in_ok-kind.kind c.set.ensures c.requires.dst c.requires.frame (rw (sym c.kind.ensures) c.in_ok-kind.ensures) c.operand-b.ensures
