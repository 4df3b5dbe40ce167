use Rattle.std.proofs.Common.{Option, sym, ap, ◌∙◌, subst}
use Rattle.sdbm_split.specs.Planned.{PageChange}
use Rattle.store_moves.specs.Leads.{MayChange, changed_by}
use Rattle.store_moves.proofs.Acting.{Acts-done}
use Rattle.store_moves.proofs.Lifting.{works_lead}
use Rattle.store_marks.proofs.changes.work_and_mark.Goals as goal

pub put_marked-requires : goal.put_marked-requires
put_marked-requires g c =
    let db = c.args.image.now in
    let leads = works_lead db c.requires.database c.args.place c.args.session c.args.command.now c.requires.keyed c.requires.small c.requires.place in
    subst (λ (x : Option PageChange). MayChange db c.args.place.page x) (sym c.in_ok-reply.ensures.worked.change) leads.may

pub returns-in-Ok-clause-ok : goal.returns-in-Ok-clause-ok
returns-in-Ok-clause-ok g c =
    Acts-done c.args.image.now c.put_marked.new.image c.requires.database c.args.place c.args.session c.args.command.now _ c.requires.keyed c.requires.small (record {
      leads = c.requires.place;
      ends = c.in_ok-reply.ensures.ends;
      reply_is = c.in_ok-reply.ensures.worked.reply;
      database = c.in-Ok.ensures.ok ∙ ap (changed_by c.args.image.now c.args.place.page) c.in_ok-reply.ensures.worked.change;
    })
