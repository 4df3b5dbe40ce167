use Rattle.std.proofs.Common.{sym, subst}
use Rattle.std.specs.Prelude.{IfOk}
use Rattle.std.proofs.lemmas.Result.{IfOk-weaker}
use Rattle.sdbm_addr.specs.Database.{Database}
use Rattle.store_cmd.specs.declared.Reply.{Reply}
use Rattle.store_moves.specs.Acts.{IsPutIn}
use Rattle.store_moves.proofs.Acting.{Acts-done}
use Rattle.store_moves.proofs.action.act_by_run.Goals as goal

pub returns-in-Some-clause-ok : goal.returns-in-Some-clause-ok
returns-in-Some-clause-ok g c = Acts-done c.args.image.now _ c.place-place.ensures.database c.place-place.result c.args.session c.args.command.now c.ran.result c.requires.keyed c.requires.small
    (subst (λ (r : Reply g.row.A.Denot). IsPutIn c.args.image.now c.place-place.result c.args.session c.args.command.now r c.run_in_place.new.image) (sym c.ran.ensures) c.in-Some.ensures.done)

pub returns-clause-ok : goal.returns-clause-ok
returns-clause-ok g c =
    let done = subst (λ (db : Database). IfOk c.work_and_put.result (λ (reply : Reply g.row.A.Denot). IsPutIn db c.place-place.result c.args.session c.args.command.now reply c.work_and_put.new.image)) c.in_default.ensures.none c.work_and_put.ensures.done in
    IfOk-weaker c.work_and_put.result _ _ (λ reply is. Acts-done c.args.image.now _ c.place-place.ensures.database c.place-place.result c.args.session c.args.command.now reply c.requires.keyed c.requires.small is) done
