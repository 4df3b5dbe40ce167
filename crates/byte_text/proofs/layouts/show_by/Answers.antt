use Rattle.std.proofs.Common.{arith}
use Rattle.byte_text.proofs.Laid.{reads_by}
use Rattle.byte_text.proofs.layouts.show_by.Goals as goal

pub returns-clause-reads : goal.returns-clause-reads
returns-clause-reads g c = reads_by c.args.layout.now c.args.bytes.now (λ i. let f = c.type_inv.bytes i in omega arith)
