use Rattle.std.proofs.lemmas.Result.{IfOk-weaker}
use Rattle.bpf_flow.proofs.alu.sum.Goals as goal

pub returns-in-Some : goal.returns-in-Some
returns-in-Some c = IfOk-weaker c.pointer_plus.result _ _ (λ k h m n x y i j p q. h m n x y (c.in-Some.ensures m n x p) (c.in-Some-number_of.ensures m n y i j q)) c.pointer_plus.ensures.plus

pub returns-in-Some-place_of : goal.returns-in-Some-place_of
returns-in-Some-place_of c = IfOk-weaker c.pointer_plus-in-Some-place_of.result _ _ (λ k h m n x y i j p q. h m n y x (c.in-Some-place_of.ensures m n y q) (c.in-Some-number_of-2.ensures m n x i j p)) c.pointer_plus-in-Some-place_of.ensures.turned
