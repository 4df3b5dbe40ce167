use Rattle.std.proofs.Common.{◌==◌, ◌∙◌, ap, ◌∷◌}
use Rattle.bpf_asm.proofs.Parts.{split_more}
use Rattle.bpf_asm.proofs.operands.last_part.Goals as goal

pub returns-in_default-Some : goal.returns-in_default-Some
returns-in_default-Some c =
    let e = rw c.in_default-Some.is-1 at c.cut.ensures.parts in
    let m = split_more (λ b. b == 44) c.in_default-Some.field-0-1.now in
    (c.cut.result.0.now, m.0, m.1, e ∙ ap (λ ps. c.cut.result.0.now ∷ ps) m.2)
