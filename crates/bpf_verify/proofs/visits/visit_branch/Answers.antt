use Rattle.std.proofs.Common.{Some}
use Rattle.bpf_verify.proofs.visits.visit_branch.Goals as goal

pub returns-in-Both-clause-taken : goal.returns-in-Both-clause-taken
returns-in-Both-clause-taken g c = λ offset forward. record {
  edges = record { next = Some c.flow_branch.new.state; jump = Some c.flow_branch.new.target };
  flows = rw (c.in-Both.is, c.deref_mut.ensures.value) at (c.in_ok-way.ensures offset forward);
  settles = record { between = c.add.new.self.noted.states; first = c.add.ensures.joins; second = c.add-in-Both.ensures.joins };
}

pub returns-in-Both-clause-keeps : goal.returns-in-Both-clause-keeps
returns-in-Both-clause-keeps g c = λ all from k. c.add-in-Both.ensures.keeps all from (c.add.ensures.keeps all from k)
