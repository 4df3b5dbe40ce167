use Rattle.bpf_flow.specs.Steps.{edges_of}
use Rattle.bpf_verify.proofs.Keeping.{goes_next, goes_jump, one_way}
use Rattle.bpf_verify.proofs.visits.visit_plain.Goals as goal

pub settle-requires-clause-one : goal.settle-requires-clause-one
settle-requires-clause-one g c = one_way _ _ _ c.in_ok-way.way c.requires.plain c.in_ok-way.ensures

pub settle-requires-clause-next : goal.settle-requires-clause-next
settle-requires-clause-next g c = λ h. c.requires.next (goes_next _ _ _ c.in_ok-way.way c.in_ok-way.ensures h)

pub settle-requires-clause-jump : goal.settle-requires-clause-jump
settle-requires-clause-jump g c = λ h. c.requires.jump (goes_jump _ _ _ c.in_ok-way.way c.in_ok-way.ensures h)

pub returns-clause-taken : goal.returns-clause-taken
returns-clause-taken g c = record {
  edges = edges_of c.in_ok-way.way c.flow.new.state c.flow.new.state;
  flows = rw c.deref_mut.ensures.value at (c.in_ok-way.ensures c.flow.new.state);
  settles = c.settle.ensures.settles c.flow.new.state;
}
