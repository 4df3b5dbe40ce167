use Rattle.std.proofs.Common.{subst, sym, arith}
use Rattle.sdbm_addr.specs.Directory.{Splits}
use Rattle.sdbm_addr.proofs.DirectoryLemmas.{child_fits}
use Rattle.sdbm_dir.specs.Words.{HasParent}
use Rattle.sdbm_dir.proofs.BitmapLemmas.{HasParent-of_depth}
use Rattle.test_pages.proofs.dirs.split.Goals as goal

pub mark-requires-clause-shallow : goal.mark-requires-clause-shallow
mark-requires-clause-shallow g c = child_fits c.place-place.result.depth c.args.hash c.place-place.result.bit (omega arith) c.place-place.ensures.bit

pub mark-requires-clause-parent : goal.mark-requires-clause-parent
mark-requires-clause-parent g c =
    subst (λ (d : Splits). HasParent d c.place-place.result.bit) (sym c.in_ok-grow_for.ensures.splits) (HasParent-of_depth c.args.dir.now.splits c.args.hash c.place-place.result.depth c.place-place.result.bit c.place-place.ensures.depth c.place-place.ensures.bit)
