use Rattle.dbm_reports.proofs.serving.check_length.Goals as goal

pub returns-then-is_too_long-clause-long : goal.returns-then-is_too_long-clause-long
returns-then-is_too_long-clause-long c = (c.in-Some.image, (c.in-Some.is, (c.is_too_long.ensures.database, c.is_too_long.ensures.long c.if-is_too_long.true)))
