use Rattle.std.proofs.Common.{Some, Option, [], List, ap, sym, ◌∙◌, subst}
use Rattle.sdbm_addr.specs.Pairs.{Pair, Content, HasDistinctKeys, value_of}
use Rattle.sdbm_split.specs.Planned.{PageChange}
use Rattle.store_moves.specs.Works.{PageResult, deleted, pairs_lent}
use Rattle.store_moves.proofs.WorkLemmas.{deleted-there}
use Rattle.store_moves.proofs.work.delete.Goals as goal

pub returns-clause-worked : goal.returns-clause-worked
returns-clause-worked g c =
    let same = ap pairs_lent c.in-Some.ensures.page in
    let is = ap (λ (ps : List Pair). deleted {A = g.row.A.Denot} c.args.size ps c.args.key.now (value_of ps c.args.key.now)) same
    ∙ deleted-there {A = g.row.A.Denot} c.args.size c.in-Some.page.now.pairs c.args.key.now c.in-Some.i (subst HasDistinctKeys same c.requires.distinct) c.in-Some.ensures.place in
    record {
      reply = c.changed.ensures.reply ∙ sym (ap (λ (r : PageResult g.row.A.Denot). r.reply) is);
      change = c.changed.ensures.change
          ∙ ap (λ (leaf : Content). let x : Option PageChange = Some (record { leaf = leaf; twins = []; bits = [] }) in x) (c.in_ok-leaf.ensures ∙ c.in_ok-made.ensures)
          ∙ sym (ap (λ (r : PageResult g.row.A.Denot). r.change) is);
    }
