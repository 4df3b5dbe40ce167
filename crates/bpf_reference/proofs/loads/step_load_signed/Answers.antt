use Rattle.std.proofs.Common.{◌≡◌, None, Some, subst, sym, ◌∙◌}
use Rattle.std.proofs.lemmas.Int.{to_z-of_z}
use Rattle.bpf_insn.specs.Arithmetic.{bytes_of, sign_extension}
use Rattle.bpf_helpers.specs.declared.values.Value.TheVariants.{Number}
use Rattle.bpf_helpers.specs.Machine.{register, loaded_number, with_register}
use Rattle.bpf_reference.specs.Cpu.{config_of, Leads}
use Rattle.bpf_reference.proofs.Leading.{fails, gives}
use Rattle.bpf_reference.proofs.loads.step_load_signed.Goals as goal

pub returns-in_err-x : goal.returns-in_err-x
returns-in_err-x g c = λ env.
    let here = config_of c.args.cpu.now c.args.bytes.now c.args.argument.now env in
    let loaded : c.load.result ≡ loaded_number here c.register.result c.args.offset (bytes_of c.args.size) = simp (to_z-of_z, c.ranges.offset) at (c.load.ensures env) in
    let none : loaded_number here (register here c.args.base) c.args.offset (bytes_of c.args.size) ≡ None = subst (λ v. loaded_number here v c.args.offset (bytes_of c.args.size) ≡ None) c.register.ensures (sym loaded ∙ c.in_err-x.was) in
    fails c.args.code.now (λ x. with_register here 1 c.args.dst (Number (sign_extension c.args.size x))) _ here _ none c.from_residual.ensures

pub returns : goal.returns
returns g c = λ env.
    let here = config_of c.args.cpu.now c.args.bytes.now c.args.argument.now env in
    let loaded : c.load.result ≡ loaded_number here c.register.result c.args.offset (bytes_of c.args.size) = simp (to_z-of_z, c.ranges.offset) at (c.load.ensures env) in
    let found : loaded_number here (register here c.args.base) c.args.offset (bytes_of c.args.size) ≡ Some c.in_ok-x.x = subst (λ v. loaded_number here v c.args.offset (bytes_of c.args.size) ≡ Some c.in_ok-x.x) c.register.ensures (sym loaded ∙ c.in_ok-x.was) in
    let there = config_of c.set.new.self c.args.bytes.now c.args.argument.now env in
    gives c.args.code.now (λ x. with_register here 1 c.args.dst (Number (sign_extension c.args.size x))) _ c.in_ok-x.x here _ _ found
    (subst (λ n. Leads c.args.code.now (with_register here 1 c.args.dst (Number n)) here there c.set.result) c.sign_extended.ensures (c.set.ensures c.args.bytes.now c.args.argument.now env))
