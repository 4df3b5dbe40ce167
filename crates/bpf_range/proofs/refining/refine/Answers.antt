use Rattle.bpf_range.proofs.refining.refine.Goals as goal

pub returns-clause-within : goal.returns-clause-within
returns-clause-within c =
    let w = c.in_ok-a_range.ensures.within in
    (λ x i. rw (← c.range.ensures.is) (w.0 x (c.settle.ensures.within x i)), λ x i. rw (← c.range-2.ensures.is) (w.1 x (c.settle-2.ensures.within x i)))
