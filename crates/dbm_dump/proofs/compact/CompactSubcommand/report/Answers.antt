use Rattle.dbm_dump.proofs.compact.CompactSubcommand.report.Goals as goal

pub returns-clause-ok : goal.returns-clause-ok
returns-clause-ok g c = (c.in_ok-image.image, (c.in_ok-image.ensures.ok, c.in_ok-compacted.ensures))
