use Rattle.std.proofs.lemmas.Result.{IfOk-weaker}
use Rattle.bpf_flow.proofs.alu.difference.Goals as goal

pub returns-in-Some : goal.returns-in-Some
returns-in-Some c = IfOk-weaker c.pointer_minus.result _ _ (λ k h m n x y i j p q. h m n x y (c.in-Some.ensures m n x p) (c.in-Some-number_of.ensures m n y i j q)) c.pointer_minus.ensures
