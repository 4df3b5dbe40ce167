use Rattle.bpf_range.proofs.joining.join.Goals as goal

pub returns-clause-left : goal.returns-clause-left
returns-clause-left c = λ x h. c.settle.ensures.keeps x (c.hull.ensures.left x (c.range.ensures.covers x h)) (c.common_bits.ensures.left x (c.bits.ensures.has x h))

pub returns-clause-right : goal.returns-clause-right
returns-clause-right c = λ x h. c.settle.ensures.keeps x (c.hull.ensures.right x (c.range-2.ensures.covers x h)) (c.common_bits.ensures.right x (c.bits-2.ensures.has x h))

pub returns-clause-least : goal.returns-clause-least
returns-clause-least c = λ r p q x i. c.hull.ensures.least r (rw c.range.ensures.is p) (rw c.range-2.ensures.is q) x (c.settle.ensures.within x i)
