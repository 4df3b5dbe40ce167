use Rattle.store_marks.proofs.Marked.{differ_either}
use Rattle.boddurci_c.proofs.finish_on.Goals as goal

pub invariant_of-db : goal.invariant_of-db
invariant_of-db c = record {
  differ = differ_either c.finish.result c.args.db.now.base.database c.args.db.now.image c.finish.new.image c.args.db.now.marks c.finish.new.marks c.finish.ensures.differ c.finish.ensures.err c.finish.ensures.unmarked c.args.db.now.differ;
}
