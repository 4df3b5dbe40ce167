use Rattle.std.proofs.Common.{subst}
use Rattle.std.proofs.lemmas.Int.{to_z-of_z}
use Rattle.bpf_insn.specs.declared.insn.Insn.TheVariants.{Load, LoadSigned}
use Rattle.bpf_insn.specs.Spelling.{HasSpelling}
use Rattle.bpf_helpers.specs.Machine.{effect}
use Rattle.bpf_reference.specs.Cpu.{config_of, Leads}
use Rattle.bpf_reference.proofs.steps.step_any_load.Goals as goal

pub returns-in-Load : goal.returns-in-Load
returns-in-Load g c = λ env.
    let here = config_of c.args.cpu.now c.args.bytes.now c.args.argument.now env in
    let has : HasSpelling (Load c.in-Load.size c.in-Load.dst c.in-Load.base c.in-Load.offset) = subst HasSpelling c.in-Load.is c.requires.here.has in
    let led : Leads c.args.code.now (effect (Load c.in-Load.size c.in-Load.dst c.in-Load.base c.in-Load.offset) here) here (config_of c.step_load.new.cpu c.args.bytes.now c.args.argument.now env) c.step_load.result = simp (to_z-of_z, has.2) at (c.step_load.ensures env) in
    rw c.in-Load.is led

pub returns-in-LoadSigned : goal.returns-in-LoadSigned
returns-in-LoadSigned g c = λ env.
    let here = config_of c.args.cpu.now c.args.bytes.now c.args.argument.now env in
    let has : HasSpelling (LoadSigned c.in-LoadSigned.size c.in-LoadSigned.dst c.in-LoadSigned.base c.in-LoadSigned.offset) = subst HasSpelling c.in-LoadSigned.is c.requires.here.has in
    let led : Leads c.args.code.now (effect (LoadSigned c.in-LoadSigned.size c.in-LoadSigned.dst c.in-LoadSigned.base c.in-LoadSigned.offset) here) here (config_of c.step_load_signed.new.cpu c.args.bytes.now c.args.argument.now env) c.step_load_signed.result = simp (to_z-of_z, has.3) at (c.step_load_signed.ensures env) in
    rw c.in-LoadSigned.is led
