use Rattle.std.proofs.Common.{◌≤◌, ◌-◌, length}
use Rattle.bpf_insn.specs.Code.{unit_limit}
use Rattle.bpf_helpers.specs.Runs.{Reaches, start, record_limit}
use Rattle.bpf_reference.specs.Cpu.{config_of, Begins}
use Rattle.bpf_reference.proofs.checked.run_with.Given as goal

abbrev pub invariant-steps : goal.invariant-steps
invariant-steps g l = record {
  chain : Reaches l.code l.steps (start l.fn.bytes l.argument l.env) (config_of l.cpu l.bytes l.argument l.env);
  here : Begins l.code l.cpu.place l.insn;
  bytes_fit : length l.bytes ≤ record_limit;
  few : l.steps ≤ l.cpu.place;
}

abbrev pub decreases-steps : goal.decreases-steps
decreases-steps g l = unit_limit - l.cpu.place
