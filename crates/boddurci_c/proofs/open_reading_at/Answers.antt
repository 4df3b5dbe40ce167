use Rattle.std.proofs.Common.{◌∙◌, Some, ap}
use Rattle.boddurci_handles.specs.Pieces.{bytes_read}
use Rattle.boddurci_c.proofs.CallLemmas.{whole}
use Rattle.boddurci_c.proofs.open_reading_at.Goals as goal

pub returns-in-Ok-clause-ok : goal.returns-in-Ok-clause-ok
returns-in-Ok-clause-ok c = (c.in_ok-db.db, (c.put.ensures ∙ ap Some c.in-Ok.ensures.ok, c.in_ok-db.ensures.ok))

pub returns-clause-fault : goal.returns-clause-fault
returns-clause-fault c = whole c.args.kind c.args.size c.args.dir.now (bytes_read c.args.reading.now.read) c.in_ok-db.db c.in_ok-db.ensures.ok
