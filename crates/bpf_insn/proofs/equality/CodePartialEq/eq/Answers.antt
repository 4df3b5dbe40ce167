use Rattle.bpf_insn.proofs.Tells.{image_answer}
use Rattle.bpf_insn.proofs.equality.CodePartialEq.eq.Goals as goal

pub returns-clause-value : goal.returns-clause-value
returns-clause-value g c =
    let told = c.same_code.ensures in
    image_answer c.args.self.now c.args.other.now c.same_code.result told.left.each told.right.each told.same.0 told.same.1
