use Rattle.std.proofs.Common.{arith}
use Rattle.bpf_range.proofs.FillFacts.{fill_is}
use Rattle.bpf_range.proofs.filling.fill.Goals as goal

pub returns-else-x-eq0 : goal.returns-else-x-eq0
returns-else-x-eq0 c = fill_is c.args.x (omega arith) (omega arith)
