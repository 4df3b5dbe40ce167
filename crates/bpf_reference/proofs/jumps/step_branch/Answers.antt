use Rattle.std.proofs.Common.{None, Some, true, false, ap, ◌∙◌, rules}
use Rattle.std.proofs.lemmas.Int.{to_z-of_z}
use Rattle.bpf_helpers.specs.Machine.{register, operand, branch_by, jump_by, comparison_of}
use Rattle.bpf_reference.specs.Cpu.{config_of, Leads}
use Rattle.bpf_helpers.proofs.Offsets.{fits_more}
use Rattle.bpf_reference.proofs.Leading.{fails, gives, of_two}
use Rattle.bpf_reference.proofs.jumps.step_branch.Goals as goal

pub returns-in_err-holds : goal.returns-in_err-holds
returns-in_err-holds g c = λ bytes argument env.
    let here = config_of c.args.cpu.now bytes argument env in
    fails c.args.code.now (λ taken. branch_by taken c.args.offset here) (comparison_of c.args.test c.args.width (register here c.args.dst) (operand here c.args.src)) here _
    (of_two (comparison_of c.args.test c.args.width) _ None _ (register here c.args.dst) _ (operand here c.args.src) c.comparison.ensures c.register.ensures (c.operand.ensures bytes argument env) c.in_err-holds.was)
    c.from_residual.ensures

pub returns-then-holds : goal.returns-then-holds
returns-then-holds g c = λ bytes argument env.
    let here = config_of c.args.cpu.now bytes argument env in
    let jumped : Leads c.args.code.now (jump_by c.args.offset here) here (config_of c.step_jump.new.cpu bytes argument env) c.step_jump.result = simp (to_z-of_z, c.ranges.offset, fits_more c.args.offset c.ranges.offset) at (c.step_jump.ensures bytes argument env) in
    gives c.args.code.now (λ taken. branch_by taken c.args.offset here) (comparison_of c.args.test c.args.width (register here c.args.dst) (operand here c.args.src)) true here _ _
    (of_two (comparison_of c.args.test c.args.width) _ (Some true) _ (register here c.args.dst) _ (operand here c.args.src) c.comparison.ensures c.register.ensures (c.operand.ensures bytes argument env) (c.in_ok-holds.was ∙ ap Some c.if-holds.true))
    jumped

pub returns : goal.returns
returns g c = λ bytes argument env.
    let here = config_of c.args.cpu.now bytes argument env in
    gives c.args.code.now (λ taken. branch_by taken c.args.offset here) (comparison_of c.args.test c.args.width (register here c.args.dst) (operand here c.args.src)) false here _ _
    (of_two (comparison_of c.args.test c.args.width) _ (Some false) _ (register here c.args.dst) _ (operand here c.args.src) c.comparison.ensures c.register.ensures (c.operand.ensures bytes argument env) (c.in_ok-holds.was ∙ ap Some c.if-holds.false))
    (search rules)
