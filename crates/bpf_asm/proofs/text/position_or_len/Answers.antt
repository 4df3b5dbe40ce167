use Rattle.std.proofs.Common.{◌==◌, length, sym, arith}
use Rattle.std.proofs.lemmas.List.Sums.{position_or_len_is}
use Rattle.bpf_asm.proofs.text.position_or_len.Goals as goal

pub returns : goal.returns
returns c = sym (position_or_len_is (λ b. b == c.args.at) c.args.bytes.now (length c.args.bytes.now) 0 (omega arith) (λ k h. c.loop-i.invariant k (omega arith)) (λ h. absurd (omega arith)))
