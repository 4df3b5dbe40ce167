use Rattle.bpf_flow.proofs.Jumping.{jump_flows, jump_far_flows}
use Rattle.bpf_flow.proofs.after.flow.Goals as goal

pub returns-in-Jump : goal.returns-in-Jump
returns-in-Jump c = λ t. rw c.in-Jump.is (jump_flows c.in-Jump.offset c.args.state.now (rw c.in-Jump.is at c.requires.built))

pub returns-in-JumpFar : goal.returns-in-JumpFar
returns-in-JumpFar c = λ t. rw c.in-JumpFar.is (jump_far_flows c.in-JumpFar.offset c.args.state.now (rw c.in-JumpFar.is at c.requires.built))
