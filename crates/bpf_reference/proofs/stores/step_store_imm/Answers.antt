use Rattle.std.proofs.Common.{◌≡◌, subst, of_z, w64, rules}
use Rattle.std.proofs.lemmas.Int.{to_z-of_z}
use Rattle.bpf_insn.specs.Arithmetic.{bytes_of}
use Rattle.bpf_helpers.specs.Machine.{after_number_store}
use Rattle.bpf_reference.specs.Cpu.{config_of, Leads}
use Rattle.bpf_reference.proofs.stores.step_store_imm.Goals as goal

pub returns : goal.returns
returns g c = λ argument env.
    let here = config_of c.args.cpu.now c.args.bytes.now argument env in
    let there = config_of c.store.new.cpu c.store.new.bytes argument env in
    let stored : Leads c.args.code.now (after_number_store here c.register.result c.args.offset (bytes_of c.args.size) c.cast_unsigned-x.result) here there c.store.result = simp (to_z-of_z, c.ranges.offset) at (c.store.ensures argument env) in
    let number : c.cast_unsigned-x.result ≡ of_z w64 c.args.value = search rules in
    subst (λ v. Leads c.args.code.now (after_number_store here v c.args.offset (bytes_of c.args.size) (of_z w64 c.args.value)) here there c.store.result) c.register.ensures
    (subst (λ n. Leads c.args.code.now (after_number_store here c.register.result c.args.offset (bytes_of c.args.size) n) here there c.store.result) number stored)
