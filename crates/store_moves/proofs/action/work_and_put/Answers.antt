use Rattle.std.proofs.Common.{Option, sym, ap, ◌∙◌, subst, is_some}
use Rattle.sdbm_split.specs.Planned.{PageChange}
use Rattle.store_moves.specs.Leads.{MayChange, changed_by}
use Rattle.store_moves.specs.Works.{change_of}
use Rattle.store_moves.proofs.Lifting.{works_lead}
use Rattle.store_moves.proofs.Wanting.{changing_takes, mapped_some}
use Rattle.store_moves.proofs.action.work_and_put.Goals as goal

pub put_in-requires : goal.put_in-requires
put_in-requires g c =
    let db = c.args.image.now in
    let leads = works_lead db c.requires.database c.args.place c.args.session c.args.command.now c.requires.keyed c.requires.small c.requires.place in
    subst (λ (x : Option PageChange). MayChange db c.args.place.page x) (sym c.in_ok-reply.ensures.worked.change) leads.may

pub returns-in-Ok-clause-done : goal.returns-in-Ok-clause-done
returns-in-Ok-clause-done g c = record {
  leads = c.requires.place;
  ends = c.in_ok-reply.ensures.ends;
  reply_is = c.in_ok-reply.ensures.worked.reply;
  database = c.in-Ok.ensures.ok ∙ ap (changed_by c.args.image.now c.args.place.page) c.in_ok-reply.ensures.worked.change;
}

pub returns-in-Err-clause-wants : goal.returns-in-Err-clause-wants
returns-in-Err-clause-wants g c =
    let db = c.args.image.now in
    let leads = works_lead db c.requires.database c.args.place c.args.session c.args.command.now c.requires.keyed c.requires.small c.requires.place in
    record {
      keyed = c.requires.keyed;
      place = c.args.place;
      leads = c.requires.place;
      takes = changing_takes _ _ (leads.changes ∙ (ap is_some (sym c.in_ok-reply.ensures.worked.change) ∙ mapped_some change_of _ c.in-Err.ensures.some));
    }
