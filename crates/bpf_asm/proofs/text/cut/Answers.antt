use Rattle.std.proofs.Common.{◌==◌, arith, ℕ, ◌+◌}
use Rattle.std.proofs.lemmas.List.Splits.{slice_split_first}
use Rattle.bpf_asm.proofs.Cuts.{rest_is, split_end}
use Rattle.bpf_asm.proofs.text.cut.Goals as goal

pub returns-then-i-bytes-clause-parts : goal.returns-then-i-bytes-clause-parts
returns-then-i-bytes-clause-parts c =
    let p = λ (b : ℕ). b == c.args.at in
    let xs = c.args.bytes.now in
    let e = slice_split_first p xs 0 (omega (arith, c.position_or_len-i.ensures)) in
    rw (rest_is xs (c.position_or_len-i.result + 1), c.position_or_len-i.ensures) e

pub returns-else-i-bytes-clause-parts : goal.returns-else-i-bytes-clause-parts
returns-else-i-bytes-clause-parts c = split_end (λ b. b == c.args.at) c.args.bytes.now (omega (arith, c.position_or_len-i.ensures))
