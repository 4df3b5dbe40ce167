use Rattle.std.proofs.Common.{◌≡◌, Some, sym, ap, ◌∙◌}
use Rattle.std.proofs.lemmas.Int.{to_z-of_z}
use Rattle.bpf_helpers.specs.declared.helpers.Helper.TheVariants.{Now, Present, Who}
use Rattle.bpf_helpers.specs.Helpers.{numbered}
use Rattle.bpf_helpers.specs.Machine.{helper_call}
use Rattle.bpf_reference.specs.Cpu.{config_of}
use Rattle.bpf_reference.proofs.Leading.{gives}
use Rattle.bpf_reference.proofs.calls.step_call.Goals as goal

pub returns-in-Now : goal.returns-in-Now
returns-in-Now g c =
    let here = config_of c.args.cpu.now c.args.bytes.now c.args.argument.now c.args.env in
    let which : c.helper_of.result ≡ numbered c.args.id = simp (to_z-of_z, c.ranges.id) at c.helper_of.ensures in
    gives c.args.code.now (helper_call here) (numbered c.args.id) Now here _ _ (sym which ∙ c.in_ok-helper_of.was ∙ ap Some c.in-Now.is) (c.step_answer.ensures c.args.bytes.now c.args.argument.now)

pub returns-in-Present : goal.returns-in-Present
returns-in-Present g c =
    let here = config_of c.args.cpu.now c.args.bytes.now c.args.argument.now c.args.env in
    let which : c.helper_of.result ≡ numbered c.args.id = simp (to_z-of_z, c.ranges.id) at c.helper_of.ensures in
    gives c.args.code.now (helper_call here) (numbered c.args.id) Present here _ _ (sym which ∙ c.in_ok-helper_of.was ∙ ap Some c.in-Present.is) (c.step_answer-in-Present.ensures c.args.bytes.now c.args.argument.now)

pub returns-in-Who : goal.returns-in-Who
returns-in-Who g c =
    let here = config_of c.args.cpu.now c.args.bytes.now c.args.argument.now c.args.env in
    let which : c.helper_of.result ≡ numbered c.args.id = simp (to_z-of_z, c.ranges.id) at c.helper_of.ensures in
    gives c.args.code.now (helper_call here) (numbered c.args.id) Who here _ _ (sym which ∙ c.in_ok-helper_of.was ∙ ap Some c.in-Who.is) (c.step_answer-in-Who.ensures c.args.bytes.now c.args.argument.now)
