use Rattle.std.proofs.Common.{◌≡◌, None, Some, subst, sym, rules, arith}
use Rattle.std.specs.Option.{option_and_then}
use Rattle.bpf_insn.specs.Code.{fetch}
use Rattle.bpf_helpers.specs.Machine.{Config, effect, arrives}
use Rattle.bpf_helpers.specs.Runs.{Reaches, start}
use Rattle.bpf_reference.specs.Cpu.{config_of}
use Rattle.bpf_reference.proofs.Chains.{told}
use Rattle.bpf_reference.proofs.checked.run_with.Goals as goal

pub steps-init : goal.steps-init
steps-init g c = record {
  chain = sym (c.start-cpu.ensures.value c.args.env);
  here = rw c.start-cpu.ensures.place (record { is = search rules; has = search rules; short = omega arith });
  bytes_fit = c.requires.bytes_fit;
  few = omega arith;
}

pub returns-in-None : goal.returns-in-None
returns-in-None g c =
    let first = start c.args.bytes.now c.args.argument.now c.args.env in
    let last = config_of c.step.new.cpu c.step.new.bytes c.args.argument.now c.args.env in
    let same : last ≡ config_of c.steps.cpu c.steps.bytes c.args.argument.now c.args.env = c.in-None.ensures.1 in
    told c.args.code.now c.args.bytes.now c.args.argument.now c.args.env c.steps.steps last c.steps.insn c.finished.result
    (subst (λ x. Reaches c.args.code.now c.steps.steps first x) (sym same) c.steps.invariant.chain)
    (subst (λ (x : Config). fetch c.args.code.now x.place ≡ Some c.steps.insn) (sym same) c.steps.invariant.here.is)
    (subst (λ (x : Config). option_and_then (arrives c.args.code.now) (effect c.steps.insn x) ≡ None) (sym same) c.in-None.ensures.0)
    (c.finished.ensures c.step.new.bytes c.args.argument.now c.args.env)
