use Rattle.std.proofs.Common.{Some, ap, sym, ◌∙◌, subst}
use Rattle.sdbm_split.specs.Planned.{PageChange}
use Rattle.sdbm_split.specs.Faults.{IsFault}
use Rattle.std.specs.Option.{option_map}
use Rattle.store_moves.specs.Works.{PageResult, change_of}
use Rattle.store_moves.specs.Worked.{takes_memory}
use Rattle.store_moves.proofs.WorkLemmas.{stored_on-page, stored-fits, stored-crowded, change_of-planned}
use Rattle.store_moves.proofs.stores.store_beside.Goals as goal

pub returns-in-Ok-clause-worked : goal.returns-in-Ok-clause-worked
returns-in-Ok-clause-worked g c =
    let exact = c.in-Ok.ensures.exact in
    let is = stored_on-page {A = g.row.A.Denot} c.args.site c.args.page.now c.args.key.now c.args.value.now c.args.mode c.requires.size
    ∙ stored-fits c.args.mode c.args.site.kind c.args.page.now c.args.key.now c.args.value.now c.args.site.place.depth exact.0 c.in-Ok.ensures.allowed exact.1.splits in
    record {
      reply = sym (ap (λ (r : PageResult g.row.A.Denot). r.reply) is);
      change = ap (λ (x : PageChange). Some x) (change_of-planned c.args.site.kind c.args.page.now c.args.key.now c.args.value.now c.args.site.place.depth exact.0 c.in-Ok.plan exact.1)
          ∙ sym (ap (λ (r : PageResult g.row.A.Denot). r.change) is);
    }

pub returns-in-Err-Crowded-clause-worked : goal.returns-in-Err-Crowded-clause-worked
returns-in-Err-Crowded-clause-worked g c =
    let fault = subst (IsFault c.args.mode c.args.site.kind c.args.page.now c.args.key.now c.args.value.now c.args.site.place.depth) c.in-Err-Crowded.field-0-is c.in-Err-Crowded.ensures.fault in
    let is = stored_on-page {A = g.row.A.Denot} c.args.site c.args.page.now c.args.key.now c.args.value.now c.args.mode c.requires.size ∙ stored-crowded c.args.mode c.args.site.kind c.args.page.now c.args.key.now c.args.value.now c.args.site.place.depth fault.0 fault.1 in
    record {
      reply = c.unchanged-in-Err-Crowded.ensures.reply ∙ sym (ap (λ (r : PageResult g.row.A.Denot). r.reply) is);
      change = ap (λ o. option_map change_of o) c.unchanged-in-Err-Crowded.ensures.change ∙ sym (ap (λ (r : PageResult g.row.A.Denot). r.change) is);
    }

pub returns-in-Err-NoMemory-clause-err : goal.returns-in-Err-NoMemory-clause-err
returns-in-Err-NoMemory-clause-err g c =
    let fault = subst (IsFault c.args.mode c.args.site.kind c.args.page.now c.args.key.now c.args.value.now c.args.site.place.depth) c.in-Err-NoMemory.field-0-is c.in-Err-NoMemory.ensures.fault in
    ap (λ (r : PageResult g.row.A.Denot). takes_memory r.reply)
    (stored_on-page {A = g.row.A.Denot} c.args.site c.args.page.now c.args.key.now c.args.value.now c.args.mode c.requires.size
    ∙ stored-fits c.args.mode c.args.site.kind c.args.page.now c.args.key.now c.args.value.now c.args.site.place.depth fault.1.0 fault.0 fault.1.1)
