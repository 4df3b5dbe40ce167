use Rattle.std.proofs.lemmas.Result.{IfOk-weaker}
use Rattle.bpf_flow.proofs.Pointers.{plus, plus_turned}
use Rattle.bpf_flow.proofs.alu.pointer_plus.Goals as goal

pub returns-clause-plus : goal.returns-clause-plus
returns-clause-plus c = IfOk-weaker c.moved.result _ _ (λ k h. plus c.args.place.region c.args.place.lo c.args.place.hi c.args.number k (record { each = λ m n o x p q. h m n o _ p (c.in-Some.ensures x q) })) c.moved.ensures

pub returns-clause-turned : goal.returns-clause-turned
returns-clause-turned c = IfOk-weaker c.moved.result _ _ (λ k h. plus_turned c.args.place.region c.args.place.lo c.args.place.hi c.args.number k (record { each = λ m n o x p q. h m n o _ p (c.in-Some.ensures x q) })) c.moved.ensures
