use Rattle.std.proofs.Common.{Option, subst, IfNone, IfSome, get_or, sym}
use Rattle.sdbm_addr.specs.declared.Mode.TheVariants.{Insert}
use Rattle.sdbm_addr.specs.Database.{Database, empty_database}
use Rattle.sdbm_files.specs.Lent.{pair_lent}
use Rattle.dbm_dump.specs.Compact.{IsUnfit}
use Rattle.dbm_dump.specs.Loading.{StoresOne}
use Rattle.dbm_dump.proofs.Compacting.{anew_more, nothing_lent, unfit_next}
use Rattle.dbm_dump.proofs.compact.stored_in_order.Goals as goal

pub loop-pair-preserved : goal.loop-pair-preserved
loop-pair-preserved c =
    anew_more (empty_database c.args.kind c.args.size) c.args.pairs.now c.loop-pair.pair-index nothing_lent c.loop-pair.image c.in-Some.after c.loop-pair-test.true c.loop-pair.invariant
    (subst (λ (o : Option Database). IfSome o (StoresOne Insert c.loop-pair.image (pair_lent (get_or c.args.pairs.now c.loop-pair.pair-index nothing_lent)))) c.in-Some.is c.in_ok-after.ensures.some)

pub returns-in_default-clause-none : goal.returns-in_default-clause-none
returns-in_default-clause-none c =
    unfit_next c.args.kind c.args.size c.args.pairs.now c.loop-pair.pair-index nothing_lent c.loop-pair.image c.loop-pair-test.true c.loop-pair.invariant
    (subst (λ (o : Option Database). IfNone o (IsUnfit c.loop-pair.image (pair_lent (get_or c.args.pairs.now c.loop-pair.pair-index nothing_lent)))) c.in_default.is c.in_ok-after.ensures.none)
