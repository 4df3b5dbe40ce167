use Rattle.std.proofs.Common.{inl, inr, ap, subst, Option, IfOk}
use Rattle.std.proofs.lemmas.Result.{IfOk-weaker}
use Rattle.sdbm_addr.specs.Database.{Database}
use Rattle.prog_registry.specs.Registry.{Registered}
use Rattle.dbm_reports.specs.Reports.{ReportsRefusal}
use Rattle.dbm_reports.proofs.Faults.{both_ok}
use Rattle.dbm_records.specs.EachRuns.{written_by}
use Rattle.dbm_records.proofs.EachLemmas.{in_turn}
use Rattle.dbm_records.proofs.RunFaults.{denied, given_program}
use Rattle.dbm_records.proofs.each_run.run_each.Goals as goal

pub returns-in-Ok : goal.returns-in-Ok
returns-in-Ok c =
    let empty = ap (λ (r : Registered). r.programs) c.in_ok-registry.ensures in
    let found = given_program c.in_ok-registry.registry c.submit.new.self c.args.image.now c.in-Ok.id.0 empty c.in-Ok.ensures.ok in
    IfOk-weaker c.run_program.result _ _
    (λ report h. inl (record {
      program = found.0;
      program_is = found.1.0;
      after = h.after;
      runs = in_turn c.submit.new.self.programs c.in-Ok.id.0 found.0 c.args.words c.args.database h.after _ found.1.1 h.runs;
      status_is = h.status_is;
      written = h.written;
    }))
    c.run_program.ensures

pub returns-in-Err : goal.returns-in-Err
returns-in-Err c =
    let empty = ap (λ (r : Registered). r.programs) c.in_ok-registry.ensures in
    let lines : IfOk c.refused.result (ReportsRefusal c.in-Err.fault 1 (written_by c.args.is_dry c.args.database)) =
    subst (λ (db : Option Database). IfOk c.refused.result (ReportsRefusal c.in-Err.fault 1 db)) c.written.ensures c.refused.ensures.line in
    both_ok _ _ _ c.refused.result
    (λ report told line. inr (c.in-Err.fault, (denied c.in_ok-registry.registry c.submit.new.self c.args.image.now c.in-Err.fault empty told c.in-Err.ensures.err, line)))
    c.refused.ensures.told lines
