use Rattle.std.proofs.Common.{◌≡◌, subst, sym, ◌∙◌}
use Rattle.std.proofs.lemmas.Int.{to_z-of_z}
use Rattle.bpf_insn.specs.Arithmetic.{bytes_of}
use Rattle.bpf_helpers.specs.declared.values.Value.TheVariants.{Number}
use Rattle.bpf_helpers.specs.Machine.{register, after_number_store, after_store}
use Rattle.bpf_reference.specs.Cpu.{config_of, Leads}
use Rattle.bpf_reference.proofs.stores.step_store.Goals as goal

pub returns : goal.returns
returns g c = λ argument env.
    let here = config_of c.args.cpu.now c.args.bytes.now argument env in
    let there = config_of c.store.new.cpu c.store.new.bytes argument env in
    let stored : Leads c.args.code.now (after_number_store here c.register-2.result c.args.offset (bytes_of c.args.size) c.in-Number.x) here there c.store.result = simp (to_z-of_z, c.ranges.offset) at (c.store.ensures argument env) in
    let number : Number c.in-Number.x ≡ register here c.args.src = sym c.in-Number.is ∙ c.register.ensures in
    subst (λ u. Leads c.args.code.now (after_store here (register here c.args.base) c.args.offset (bytes_of c.args.size) u) here there c.store.result) number
    (subst (λ v. Leads c.args.code.now (after_number_store here v c.args.offset (bytes_of c.args.size) c.in-Number.x) here there c.store.result) c.register-2.ensures stored)
