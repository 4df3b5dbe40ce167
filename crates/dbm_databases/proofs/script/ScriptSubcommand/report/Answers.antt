use Rattle.std.proofs.Common.{◌≡◌, ◌∙◌, Option, Some, None, Bor, List, ℕ, ap, is_some, rules, sym}
use Rattle.std.proofs.lemmas.Result.{IfErr-weaker, IfOk-weaker}
use Rattle.sdbm_addr.specs.Database.{Database}
use Rattle.dbm_databases.specs.Playing.{output_limit}
use Rattle.dbm_databases.proofs.Faults.{caused_alone, caused_on, unlimited}
use Rattle.dbm_databases.proofs.Played.{limited_alone, limited_on}
use Rattle.dbm_databases.proofs.script.ScriptSubcommand.report.Goals as goal

pub returns-in_default-clause-fault : goal.returns-in_default-clause-fault
returns-in_default-clause-fault g c =
    let is : output_limit c.args.self.now.max_output ≡ None = search rules in
    unlimited c.args.notation.now c.args.self.now.base c.args.self.now c.args.given.now _ is

pub returns-in-None-clause-ok : goal.returns-in-None-clause-ok
returns-in-None-clause-ok g c =
    let is : output_limit c.args.self.now.max_output ≡ Some c.in-Some.most = search rules in
    IfOk-weaker c.report_alone.result _ _ (λ report plays. limited_alone c.args.notation.now c.args.self.now c.args.given.now _ c.in-Some.most report c.in-None.is is plays) c.report_alone.ensures.ok

pub returns-in-None-clause-fault : goal.returns-in-None-clause-fault
returns-in-None-clause-fault g c =
    let is : output_limit c.args.self.now.max_output ≡ Some c.in-Some.most = search rules in
    IfErr-weaker c.report_alone.result _ _ (λ fault h. caused_alone c.args.notation.now c.args.self.now c.args.given.now (g.R.Read.remaining c.args.reader.now) c.in-Some.most fault c.in-None.is is h) c.report_alone.ensures.fault

pub returns-in-None-clause-database : goal.returns-in-None-clause-database
returns-in-None-clause-database g c =
    IfOk-weaker c.report_alone.result _ _ (λ report plays. ap (λ (db : Option Database). is_some db) plays.1.1 ∙ ap (λ (base : Option (Bor (List ℕ))). is_some base) (sym c.in-None.is)) c.report_alone.ensures.ok

pub returns-in-Some-base-clause-ok : goal.returns-in-Some-base-clause-ok
returns-in-Some-base-clause-ok g c =
    let is : output_limit c.args.self.now.max_output ≡ Some c.in-Some.most = search rules in
    IfOk-weaker c.report_played.result _ _ (λ report plays. limited_on c.args.notation.now c.in-Some-base.field-0 c.args.self.now c.args.given.now _ c.in-Some.most report c.in-Some-base.is is plays) c.report_played.ensures.ok

pub returns-in-Some-base-clause-fault : goal.returns-in-Some-base-clause-fault
returns-in-Some-base-clause-fault g c =
    let is : output_limit c.args.self.now.max_output ≡ Some c.in-Some.most = search rules in
    IfErr-weaker c.report_played.result _ _ (λ fault h. caused_on c.args.notation.now c.in-Some-base.field-0 c.args.self.now c.args.given.now (g.R.Read.remaining c.args.reader.now) c.in-Some.most fault c.in-Some-base.is is h) c.report_played.ensures.fault

pub returns-in-Some-base-clause-database : goal.returns-in-Some-base-clause-database
returns-in-Some-base-clause-database g c =
    IfOk-weaker c.report_played.result _ _ (λ report plays. ap (λ (db : Option Database). is_some db) plays.1.1.1.1 ∙ ap (λ (base : Option (Bor (List ℕ))). is_some base) (sym c.in-Some-base.is)) c.report_played.ensures.ok
