use Rattle.std.proofs.Common.{refl, subst}
use Rattle.std.specs.Prelude.{IfOk}
use Rattle.std.proofs.lemmas.Result.{IfOk-weaker}
use Rattle.sdbm_addr.specs.Database.{Database}
use Rattle.store_cmd.specs.declared.Reply.{Reply}
use Rattle.store_cmd.specs.declared.Reply.TheVariants.{Stored}
use Rattle.store_moves.specs.Acts.{IsPutIn}
use Rattle.store_moves.proofs.Acting.{Acts-done}
use Rattle.store_moves.proofs.action.act_on_page.Goals as goal

pub returns-then-try_store-clause-ok : goal.returns-then-try_store-clause-ok
returns-then-try_store-clause-ok g c =
    Acts-done c.args.image.now c.try_store.new.image c.place-place.ensures.database c.place-place.result c.args.session c.args.command.now Stored c.requires.keyed c.requires.small (c.if-try_store.ensures.done refl c.args.session)

pub returns-clause-ok : goal.returns-clause-ok
returns-clause-ok g c =
    let done = subst (λ (db : Database). IfOk c.work_and_put.result (λ (reply : Reply g.row.A.Denot). IsPutIn db c.place-place.result c.args.session c.args.command.now reply c.work_and_put.new.image)) (c.if-try_store.ensures.none refl) c.work_and_put.ensures.done in
    IfOk-weaker c.work_and_put.result _ _ (λ reply is. Acts-done c.args.image.now _ c.place-place.ensures.database c.place-place.result c.args.session c.args.command.now reply c.requires.keyed c.requires.small is) done
