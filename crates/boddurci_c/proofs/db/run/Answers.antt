use Rattle.std.proofs.Common.{rules, refl}
use Rattle.std.specs.Arc.{arc_value}
use Rattle.store_cmd.specs.declared.Command.TheVariants.{Run}
use Rattle.boddurci_handles.proofs.Fitting.{fits_filled, within_filled}
use Rattle.boddurci_c.proofs.Bases.{same_db, does_again, runs_again}
use Rattle.boddurci_c.proofs.db.run.Goals as goal

pub invariant_of-db-in-Some-run_there : goal.invariant_of-db-in-Some-run_there
invariant_of-db-in-Some-run_there c = record { differ = c.in-Some-run_there.ensures.differ c.args.db.now.base.database c.args.db.now.differ }

pub returns-in-Some-run_there-clause-ok : goal.returns-in-Some-run_there-clause-ok
returns-in-Some-run_there-clause-ok c = record {
  program = arc_value c.in-Some.program.now;
  there = search rules;
  does = record {
    acts = c.in-Some-run_there.ensures.done;
    fits = fits_filled c.args.db.now.image c.run_there.new.image (Run c.args.key.now (arc_value c.in-Some.program.now).code c.args.arg.now c.args.blank c.args.now) c.in-Some-run_there.reply c.in-Some-run_there.ensures.done c.in-Some-run_there.ensures.fills;
    within = within_filled c.args.db.now.limit c.args.db.now.image c.run_there.new.image c.in-Some-run_there.ensures.fills;
    registry = refl;
    limit = refl;
    base = refl;
    marks = c.in-Some-run_there.ensures.more;
  };
}

pub returns-clause-ok : goal.returns-clause-ok
returns-clause-ok c =
    let program = arc_value c.in-Some.program.now in
    runs_again c.perform.result c.args.number c.args.key.now c.args.arg.now c.args.blank c.args.now c.args.db.now c.perform.new.db program (search rules)
    (does_again c.perform.result (Run c.args.key.now program.code c.args.arg.now c.args.blank c.args.now) c.in-Ok.command c.args.db.now _ c.perform.new.db
    (same_db c.args.db.now c.run_there.new.image c.run_there.new.marks _ c.in_default-run_there.ensures.none c.in_default-run_there.ensures.kept) c.in-Ok.ensures c.perform.ensures.ok)
