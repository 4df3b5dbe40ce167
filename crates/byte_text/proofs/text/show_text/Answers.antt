use Rattle.std.proofs.Common.{arith}
use Rattle.byte_text.proofs.RoundTrip.{reads_text}
use Rattle.byte_text.proofs.text.show_text.Goals as goal

pub returns-clause-reads : goal.returns-clause-reads
returns-clause-reads g c = reads_text c.args.bytes.now (λ i. let f = c.type_inv.bytes i in omega arith)
