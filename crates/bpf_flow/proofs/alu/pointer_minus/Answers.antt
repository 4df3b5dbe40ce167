use Rattle.std.proofs.lemmas.Result.{IfOk-weaker}
use Rattle.bpf_flow.proofs.Pointers.{minus}
use Rattle.bpf_flow.proofs.alu.pointer_minus.Goals as goal

pub returns : goal.returns
returns c = IfOk-weaker c.moved.result _ _ (λ k h. minus c.args.place.region c.args.place.lo c.args.place.hi c.args.number k (record { each = λ m n o x p q. h m n o _ p (c.in-Some-negated.ensures _ (c.in-Some.ensures x q)) })) c.moved.ensures
