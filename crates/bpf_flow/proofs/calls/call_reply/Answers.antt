use Rattle.std.proofs.Common.{arith, length}
use Rattle.bpf_flow.proofs.Calling.{reply_called}
use Rattle.bpf_flow.proofs.calls.call_reply.Goals as goal

pub returns : goal.returns
returns c =
    reply_called c.args.state.now c.answered.new.state c.in-Some._number c.result.result (record { by = c.answered.ensures }) ((c.result.ensures.exact 0).1 (omega arith))
    (λ d f. c.in-Some.ensures (length d.bytes) (length d.argument) _ f.bytes f.argument (rw c.kind-word.ensures (f.kinds 1 (omega arith))))
