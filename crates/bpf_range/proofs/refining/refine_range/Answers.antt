use Rattle.std.proofs.Common.{arith, ◌<◌, ◌∙◌, sym}
use Rattle.bpf_range.specs.Signs.{reach}
use Rattle.bpf_range.proofs.Results.{holds_is}
use Rattle.bpf_range.proofs.refining.refine_range.Goals as goal

pub returns-clause-keeps : goal.returns-clause-keeps
returns-clause-keeps c = λ x y p q t.
    let hx : x < reach c.args.test c.args.width = omega arith in
    let hy : y < reach c.args.test c.args.width = omega arith in
    c.compare.ensures.keeps x y p q (sym (c.unsigned.ensures c.args.width x y hx hy) ∙ sym (holds_is c.args.test c.args.width x y hx hy) ∙ t)
