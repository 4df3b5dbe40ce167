use Rattle.std.proofs.Common.{sym, ap, subst}
use Rattle.std.specs.Prelude.{IfOk}
use Rattle.sdbm_files.proofs.SinkLemmas.{on_err}
use Rattle.store_moves.specs.Works.{PageResult}
use Rattle.store_moves.specs.Worked.{IsWorked, takes_memory}
use Rattle.store_moves.proofs.WorkLemmas.{stored_on-none}
use Rattle.store_moves.proofs.stores.store_in.Goals as goal

pub returns-in-None-clause-worked : goal.returns-in-None-clause-worked
returns-in-None-clause-worked g c =
    let is = stored_on-none {A = g.row.A.Denot} c.args.site c.args.page c.args.key.now c.args.value.now c.args.mode c.in-None.is c.requires.placed.shallow c.requires.small in
    subst (λ (wanted : PageResult g.row.A.Denot). IfOk c.store_first.result (IsWorked wanted)) (sym is) c.store_first.ensures

pub returns-in-None-clause-err : goal.returns-in-None-clause-err
returns-in-None-clause-err g c =
    let is = stored_on-none {A = g.row.A.Denot} c.args.site c.args.page c.args.key.now c.args.value.now c.args.mode c.in-None.is c.requires.placed.shallow c.requires.small in
    on_err _ c.store_first.result (ap (λ (r : PageResult g.row.A.Denot). takes_memory r.reply) is)
