use Rattle.std.proofs.Common.{Option, ap, is_some}
use Rattle.sdbm_addr.specs.Database.{Database}
use Rattle.dbm_databases.proofs.widen.WidenSubcommand.report.Goals as goal

pub returns-clause-ok : goal.returns-clause-ok
returns-clause-ok g c = (c.in_ok-image.image, (c.in_ok-image.ensures.ok, c.in_ok-widen_pages.ensures))

pub returns-clause-database : goal.returns-clause-database
returns-clause-database g c = ap (λ (db : Option Database). is_some db) c.in_ok-widen_pages.ensures.written
