use Rattle.std.proofs.Common.{subst}
use Rattle.std.proofs.lemmas.Int.{to_z-of_z}
use Rattle.bpf_insn.specs.declared.insn.Insn.TheVariants.{StoreImm, Store}
use Rattle.bpf_insn.specs.Spelling.{HasSpelling}
use Rattle.bpf_helpers.specs.Machine.{effect}
use Rattle.bpf_reference.specs.Cpu.{config_of, Leads}
use Rattle.bpf_reference.proofs.steps.step_any_store.Goals as goal

pub returns-in-StoreImm : goal.returns-in-StoreImm
returns-in-StoreImm g c = λ argument env.
    let here = config_of c.args.cpu.now c.args.bytes.now argument env in
    let has : HasSpelling (StoreImm c.in-StoreImm.size c.in-StoreImm.base c.in-StoreImm.offset c.in-StoreImm.value) = subst HasSpelling c.in-StoreImm.is c.requires.here.has in
    let led : Leads c.args.code.now (effect (StoreImm c.in-StoreImm.size c.in-StoreImm.base c.in-StoreImm.offset c.in-StoreImm.value) here) here (config_of c.step_store_imm.new.cpu c.step_store_imm.new.bytes argument env) c.step_store_imm.result = simp (to_z-of_z, has.1, has.2) at (c.step_store_imm.ensures argument env) in
    rw c.in-StoreImm.is led

pub returns-in-Store : goal.returns-in-Store
returns-in-Store g c = λ argument env.
    let here = config_of c.args.cpu.now c.args.bytes.now argument env in
    let has : HasSpelling (Store c.in-Store.size c.in-Store.base c.in-Store.offset c.in-Store.src) = subst HasSpelling c.in-Store.is c.requires.here.has in
    let led : Leads c.args.code.now (effect (Store c.in-Store.size c.in-Store.base c.in-Store.offset c.in-Store.src) here) here (config_of c.step_store.new.cpu c.step_store.new.bytes argument env) c.step_store.result = simp (to_z-of_z, has.2) at (c.step_store.ensures argument env) in
    rw c.in-Store.is led
