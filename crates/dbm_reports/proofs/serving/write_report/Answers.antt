use Rattle.std.proofs.Common.{rules, refl}
use Rattle.dbm_reports.proofs.serving.write_report.Goals as goal

pub returns-in_default-clause-fault : goal.returns-in_default-clause-fault
returns-in_default-clause-fault g c = record { report = c.args.report; comes = refl; part = rw (← c.as_slice.ensures.value) c.in_default.ensures.part }

pub returns-in_default-check_length-clause-fault : goal.returns-in_default-check_length-clause-fault
returns-in_default-check_length-clause-fault g c =
    let long = c.in_default-check_length.ensures.long in
    record {
      report = c.args.report;
      comes = refl;
      printed = rw (← c.as_slice.ensures.value) c.in-Ok.ensures.ok;
      database = long.0;
      is = long.1.0;
      sound = long.1.1.0;
      long = long.1.1.1;
    }

pub returns-clause-ok : goal.returns-clause-ok
returns-clause-ok g c = record {
  report = c.args.report;
  comes = refl;
  printed = rw (← c.as_slice.ensures.value) c.in-Ok.ensures.ok;
  status_is = search rules;
  database_is = search rules;
  short = search rules;
}
