use Rattle.std.proofs.Common.{◌∙◌, Option, ap, is_some}
use Rattle.std.proofs.lemmas.Result.{IfErr-weaker, IfOk-weaker}
use Rattle.sdbm_addr.specs.Database.{Database}
use Rattle.dbm_reports.proofs.Written.{printed_of, unserved_of}
use Rattle.dbm_batches.specs.Batches.{OnBatch, batch_causes}
use Rattle.dbm_batches.specs.Causes.{HasWishCause}
use Rattle.dbm_batches.proofs.batch.serve_batch.Goals as goal

pub returns-in-Ok-clause-ok : goal.returns-in-Ok-clause-ok
returns-in-Ok-clause-ok g c = IfOk-weaker c.write_report.result _ _ (λ served is. printed_of _ c.in-Ok.report _ _ _ _ c.in-Ok.ensures.ok is) c.write_report.ensures.ok

pub returns-in-Ok-clause-fault : goal.returns-in-Ok-clause-fault
returns-in-Ok-clause-fault g c = IfErr-weaker c.write_report.result _ _ (λ fault is. unserved_of _ _ c.in-Ok.report _ _ fault c.in-Ok.ensures.ok is) c.write_report.ensures.fault

pub returns-in-Ok-clause-database : goal.returns-in-Ok-clause-database
returns-in-Ok-clause-database g c = IfOk-weaker c.write_report.result _ _ (λ served is. ap (λ (db : Option Database). is_some db) (is ∙ c.in-Ok.ensures.ok.1.1.1.1.written)) c.write_report.ensures.database
