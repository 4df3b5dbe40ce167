use Rattle.std.proofs.Common.{Option, ap, is_some}
use Rattle.std.proofs.lemmas.Result.{IfOk-weaker}
use Rattle.sdbm_addr.specs.Database.{Database}
use Rattle.dbm_programs.proofs.Explained.{judged_alone}
use Rattle.dbm_programs.proofs.verify.VerifySubcommand.report.Goals as goal

pub returns-clause-database : goal.returns-clause-database
returns-clause-database g c = IfOk-weaker c.verify_file.result _ _ (λ report comes. ap (λ (db : Option Database). is_some db) (judged_alone comes.0 report comes.1.1)) c.verify_file.ensures.ok
