use Rattle.std.proofs.Common.{refl}
use Rattle.store_cmd.specs.declared.Command.TheVariants.{Store}
use Rattle.store_cmd.specs.declared.Reply.TheVariants.{Stored}
use Rattle.boddurci_handles.proofs.Fitting.{fits_filled, within_filled}
use Rattle.store_marks.proofs.Marked.{differ_unless}
use Rattle.boddurci_c.proofs.Bases.{same_db, does_again}
use Rattle.boddurci_c.proofs.db.store.Goals as goal

pub invariant_of-db : goal.invariant_of-db
invariant_of-db c = record {
  differ = differ_unless c.store_there.result c.args.db.now.base.database c.args.db.now.image c.store_there.new.image c.args.db.now.marks c.store_there.new.marks c.store_there.ensures.differ c.store_there.ensures.none c.store_there.ensures.kept c.args.db.now.differ;
}

pub returns-then-store_there-clause-ok : goal.returns-then-store_there-clause-ok
returns-then-store_there-clause-ok c =
    let acts = c.if-store_there.ensures.done refl in
    record {
      acts = acts;
      fits = fits_filled c.args.db.now.image c.store_there.new.image (Store c.args.key.now c.args.value.now c.args.mode) Stored acts (c.if-store_there.ensures.fills refl);
      within = within_filled c.args.db.now.limit c.args.db.now.image c.store_there.new.image (c.if-store_there.ensures.fills refl);
      registry = refl;
      limit = refl;
      base = refl;
      marks = c.if-store_there.ensures.more refl;
    }

pub returns-clause-ok : goal.returns-clause-ok
returns-clause-ok c =
    does_again c.perform.result (Store c.args.key.now c.args.value.now c.args.mode) _ c.args.db.now _ c.perform.new.db
    (same_db c.args.db.now c.store_there.new.image c.store_there.new.marks _ (c.if-store_there.ensures.none refl) (c.if-store_there.ensures.kept refl)) (cc (c.in-Ok.ensures, c.in-Ok-from_slice.ensures)) c.perform.ensures.ok
