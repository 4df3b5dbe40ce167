use Rattle.std.proofs.Common.{◌≡◌, IfSome, List, None, Option, Some, ap, is_some, rules, subst, ℕ}
use Rattle.sdbm_addr.specs.Database.{Database}
use Rattle.sdbm_addr.specs.declared.Mode.{Mode}
use Rattle.dbm_dump.specs.Formats.{start_of}
use Rattle.dbm_dump.specs.Loading.{IsLoaded}
use Rattle.dbm_reports.specs.Reports.{OnDatabase}
use Rattle.dbm_reports.proofs.Asked.{within}
use Rattle.dbm_reports.proofs.Faults.{as_err}
use Rattle.dbm_dump.specs.Causes.{HasDumpCause}
use Rattle.dbm_dump.specs.Load.{Loads, load_causes, mode_of}
use Rattle.dbm_dump.proofs.Dumping.{shut_load, unloaded, unreadable}
use Rattle.dbm_dump.proofs.load.LoadSubcommand.report.Goals as goal

pub returns-in_default-clause-fault : goal.returns-in_default-clause-fault
returns-in_default-clause-fault g c =
    let is : start_of c.args.self.now.format ≡ None = search rules in
    unreadable (start_of c.args.self.now.format) (mode_of c.args.self.now.keep) c.args.self.now.form c.args.given.now (g.R.Read.remaining c.args.reader.now) is

pub returns-in_err-image-clause-fault : goal.returns-in_err-image-clause-fault
returns-in_err-image-clause-fault g c =
    let input : Option (List ℕ) = g.R.Read.remaining c.args.reader.now in
    let is : start_of c.args.self.now.format ≡ Some c.in-Some.start = search rules in
    as_err (HasDumpCause (load_causes (start_of c.args.self.now.format) (mode_of c.args.self.now.keep) c.args.self.now.form c.args.given.now input)) _ c.from_residual.ensures.1
    (shut_load (start_of c.args.self.now.format) c.in-Some.start (mode_of c.args.self.now.keep) c.args.self.now.form c.args.given.now input _ is c.in_err-image.ensures.fault)

pub returns-in_err-loaded-clause-fault : goal.returns-in_err-loaded-clause-fault
returns-in_err-loaded-clause-fault g c =
    let input : Option (List ℕ) = g.R.Read.remaining c.args.reader.now in
    let is : start_of c.args.self.now.format ≡ Some c.in-Some.start = search rules in
    as_err (HasDumpCause (load_causes (start_of c.args.self.now.format) (mode_of c.args.self.now.keep) c.args.self.now.form c.args.given.now input)) _ c.from_residual-in_err-loaded.ensures.1
    (unloaded (start_of c.args.self.now.format) c.in-Some.start (mode_of c.args.self.now.keep) _ c.args.self.now.form c.args.given.now input c.in_ok-image.image _ is c.mode_of.ensures
    c.in_ok-image.ensures.ok c.in_err-loaded.ensures.fault)

pub returns-clause-ok : goal.returns-clause-ok
returns-clause-ok g c =
    let input : Option (List ℕ) = g.R.Read.remaining c.args.reader.now in
    let is : start_of c.args.self.now.format ≡ Some c.in-Some.start = search rules in
    let told = c.in_ok-loaded_report.ensures in
    let loaded = c.in_ok-loaded.loaded in
    within (start_of c.args.self.now.format) c.in-Some.start
    (λ start. OnDatabase c.args.self.now.form c.args.given.now (Loads start (mode_of c.args.self.now.keep) input c.in_ok-loaded_report.field-0)) is (
      c.in_ok-image.image,
      (
        c.in_ok-image.ensures.ok,
        record {
          count = loaded.count;
          after = loaded.image;
          loads = subst (λ (m : Mode). IfSome input (λ bytes. IsLoaded c.in-Some.start m c.in_ok-image.image bytes loaded.count loaded.image)) c.mode_of.ensures c.in_ok-loaded.ensures.ok;
          kind = c.in_ok-loaded.ensures.kept.0;
          size = c.in_ok-loaded.ensures.kept.1;
          text_is = told.0;
          status_is = told.1.0;
          written = told.1.1;
        },
      ),
    )

pub returns-clause-database : goal.returns-clause-database
returns-clause-database g c = ap (λ (db : Option Database). is_some db) c.in_ok-loaded_report.ensures.1.1
