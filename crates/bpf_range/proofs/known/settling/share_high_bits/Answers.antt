use Rattle.std.proofs.Common.{arith}
use Rattle.bpf_range.proofs.FillFacts.{shared}
use Rattle.bpf_range.proofs.known.settling.share_high_bits.Goals as goal

pub returns-clause-keeps : goal.returns-clause-keeps
returns-clause-keeps c = λ x i m.
    record {
      inside = i;
      bits = shared c.args.range.lo c.args.range.hi x c.args.bits.value c.args.bits.unknown c.fill-low.result (omega arith) (omega arith) (omega arith) (omega arith) i.least i.greatest c.fill-low.ensures m;
    }
