use Rattle.std.proofs.Common.{arith}
use Rattle.sdbm_tail.proofs.Parts.{part_written}
use Rattle.sdbm_tail.proofs.laying.lay_bytes.Goals as goal

pub returns-clause-laid : goal.returns-clause-laid
returns-clause-laid c = λ old inside is.
    part_written c.args.from c.args.at c.max-start.result c.min-stop.result c.args.bytes.now c.args.part.now old c.max-start.ensures c.min-stop.ensures (omega (arith, c.if-start-stop.false)) inside is c.write_in.new.file c.write_in.ensures
