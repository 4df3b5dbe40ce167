use Rattle.bpf_flow.proofs.Calling.{now_called, present_called, who_called}
use Rattle.bpf_flow.proofs.calls.called.Goals as goal

pub returns-in-Now : goal.returns-in-Now
returns-in-Now c = rw c.in-Now.is (now_called c.args.state.now c.answered.new.state c.result.result (record { by = c.answered.ensures }) c.result.ensures.contains)

pub returns-in-Present : goal.returns-in-Present
returns-in-Present c = rw c.in-Present.is (present_called c.args.state.now c.answered-in-Present.new.state c.result-in-Present.result (record { by = c.answered-in-Present.ensures }) c.result-in-Present.ensures.contains)

pub returns-in-Who : goal.returns-in-Who
returns-in-Who c = rw c.in-Who.is (who_called c.args.state.now c.answered-in-Who.new.state c.result-in-Who.result (record { by = c.answered-in-Who.ensures }) c.result-in-Who.ensures.contains)
