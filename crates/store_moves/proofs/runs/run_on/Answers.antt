use Rattle.std.proofs.Common.{List, Option, sym, ap, subst}
use Rattle.std.specs.Prelude.{◌≡◌, IfSome}
use Rattle.std.specs.Borrow.{Bor}
use Rattle.std.proofs.lemmas.Result.{IfOk-weaker}
use Rattle.sdbm_addr.specs.Pairs.{Pair, Content, AreSmall, HasDistinctKeys}
use Rattle.store_moves.specs.Works.{pairs_lent}
use Rattle.store_moves.specs.Worked.{IsWorked, run_by}
use Rattle.store_moves.proofs.RunLemmas.{value_fits, there_worked}
use Rattle.store_moves.proofs.runs.run_on.Goals as goal

pub run_there-requires-clause-record_fits : goal.run_there-requires-clause-record_fits
run_there-requires-clause-record_fits g c =
    let small = subst (AreSmall c.args.site.size) (ap pairs_lent c.in-Some.ensures.page) c.requires.placed.page.laid.small in
    value_fits c.args.site.size c.in-Some.page.now.pairs c.in-Some.i small c.in-Some.ensures.place.in_range

pub returns-in-Some-clause-worked : goal.returns-in-Some-clause-worked
returns-in-Some-clause-worked g c =
    let same = ap pairs_lent c.in-Some.ensures.page in
    let sized = subst (λ (p : Option (Bor Content)). IfSome p (λ (x : Bor Content). x.now.size ≡ c.args.site.size)) c.in-Some.ensures.page c.requires.size in
    let distinct = subst HasDistinctKeys same c.requires.placed.page.distinct in
    IfOk-weaker c.run_there.result _ _
    (λ w ran. subst (λ (ps : List Pair). IsWorked (run_by c.args.site ps c.args.input.now) w) (sym same)
    (there_worked g.row.A.Denot c.args.site c.in-Some.page.now c.args.input.now c.in-Some.i w sized distinct c.in-Some.ensures.place ran))
    c.run_there.ensures
