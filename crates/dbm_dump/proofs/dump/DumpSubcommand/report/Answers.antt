use Rattle.std.proofs.Common.{◌≡◌, None, Some, Option, ap, is_some, rules}
use Rattle.sdbm_addr.specs.Database.{Database}
use Rattle.dbm_dump.specs.Formats.{format_of}
use Rattle.dbm_reports.specs.Reports.{OnDatabase}
use Rattle.dbm_reports.proofs.Asked.{within}
use Rattle.dbm_reports.proofs.Faults.{as_err}
use Rattle.dbm_dump.specs.Causes.{HasDumpCause}
use Rattle.dbm_dump.specs.Dump.{Dumps, dump_causes}
use Rattle.dbm_dump.proofs.Dumping.{shut_dump, unwritable}
use Rattle.dbm_dump.proofs.dump.DumpSubcommand.report.Goals as goal

pub returns-in_default-clause-fault : goal.returns-in_default-clause-fault
returns-in_default-clause-fault g c =
    let is : format_of c.args.self.now.format ≡ None = search rules in
    unwritable (format_of c.args.self.now.format) c.args.self.now.form c.args.given.now is

pub returns-in_err-image-clause-fault : goal.returns-in_err-image-clause-fault
returns-in_err-image-clause-fault g c =
    let is : format_of c.args.self.now.format ≡ Some c.in-Some.format = search rules in
    as_err (HasDumpCause (dump_causes (format_of c.args.self.now.format) c.args.self.now.form c.args.given.now)) _ c.from_residual.ensures.1
    (shut_dump (format_of c.args.self.now.format) c.in-Some.format c.args.self.now.form c.args.given.now _ is c.in_err-image.ensures.fault)

pub returns-clause-ok : goal.returns-clause-ok
returns-clause-ok g c =
    let is : format_of c.args.self.now.format ≡ Some c.in-Some.format = search rules in
    within (format_of c.args.self.now.format) c.in-Some.format (λ format. OnDatabase c.args.self.now.form c.args.given.now (Dumps c.args.notation.now format c.in_ok-dumped.field-0)) is
    (c.in_ok-image.image, (c.in_ok-image.ensures.ok, c.in_ok-dumped.ensures))

pub returns-clause-database : goal.returns-clause-database
returns-clause-database g c = ap (λ (db : Option Database). is_some db) c.in_ok-dumped.ensures.written
