use Rattle.std.proofs.Common.{◌≡◌, subst, sym, ◌∙◌}
use Rattle.bpf_helpers.specs.declared.values.Value.TheVariants.{Number}
use Rattle.bpf_helpers.specs.Machine.{register, after_reply}
use Rattle.bpf_reference.specs.Cpu.{config_of, Leads}
use Rattle.bpf_reference.proofs.calls.step_reply.Goals as goal

pub returns : goal.returns
returns g c = λ bytes argument.
    let here = config_of c.args.cpu.now bytes argument c.args.env in
    let number : Number c.in-Number.given ≡ register here 1 = sym c.in-Number.is ∙ c.register.ensures in
    subst (λ v. Leads c.args.code.now (after_reply v here) here (config_of c.step_answer.new.cpu bytes argument c.args.env) c.step_answer.result) number (c.step_answer.ensures bytes argument)
