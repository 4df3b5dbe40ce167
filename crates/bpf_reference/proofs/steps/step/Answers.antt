use Rattle.std.proofs.Common.{subst}
use Rattle.std.proofs.lemmas.Int.{to_z-of_z}
use Rattle.bpf_insn.specs.declared.insn.Insn.TheVariants.{Branch, Jump, JumpFar}
use Rattle.bpf_insn.specs.Spelling.{HasSpelling}
use Rattle.bpf_helpers.specs.Machine.{effect}
use Rattle.bpf_reference.specs.Cpu.{config_of, Leads}
use Rattle.bpf_helpers.proofs.Offsets.{fits_more}
use Rattle.bpf_reference.proofs.steps.step.Goals as goal

pub returns-in-Branch : goal.returns-in-Branch
returns-in-Branch g c =
    let here = config_of c.args.cpu.now c.args.bytes.now c.args.argument.now c.args.env in
    let has : HasSpelling (Branch c.in-Branch.test c.in-Branch.width c.in-Branch.dst c.in-Branch.src c.in-Branch.offset) = subst HasSpelling c.in-Branch.is c.requires.here.has in
    let led : Leads c.args.code.now (effect (Branch c.in-Branch.test c.in-Branch.width c.in-Branch.dst c.in-Branch.src c.in-Branch.offset) here) here (config_of c.step_branch.new.cpu c.args.bytes.now c.args.argument.now c.args.env) c.step_branch.result = simp (to_z-of_z, has.2) at (c.step_branch.ensures c.args.bytes.now c.args.argument.now c.args.env) in
    rw c.in-Branch.is led

pub returns-in-Jump : goal.returns-in-Jump
returns-in-Jump g c =
    let here = config_of c.args.cpu.now c.args.bytes.now c.args.argument.now c.args.env in
    let has : HasSpelling (Jump c.in-Jump.offset) = subst HasSpelling c.in-Jump.is c.requires.here.has in
    let led : Leads c.args.code.now (effect (Jump c.in-Jump.offset) here) here (config_of c.step_jump.new.cpu c.args.bytes.now c.args.argument.now c.args.env) c.step_jump.result = simp (to_z-of_z, has, fits_more c.in-Jump.offset has) at (c.step_jump.ensures c.args.bytes.now c.args.argument.now c.args.env) in
    rw c.in-Jump.is led

pub returns-in-JumpFar : goal.returns-in-JumpFar
returns-in-JumpFar g c =
    let here = config_of c.args.cpu.now c.args.bytes.now c.args.argument.now c.args.env in
    let has : HasSpelling (JumpFar c.in-JumpFar.offset) = subst HasSpelling c.in-JumpFar.is c.requires.here.has in
    let led : Leads c.args.code.now (effect (JumpFar c.in-JumpFar.offset) here) here (config_of c.step_jump-in-JumpFar.new.cpu c.args.bytes.now c.args.argument.now c.args.env) c.step_jump-in-JumpFar.result = simp (to_z-of_z, has) at (c.step_jump-in-JumpFar.ensures c.args.bytes.now c.args.argument.now c.args.env) in
    rw c.in-JumpFar.is led
