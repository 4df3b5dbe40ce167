use Rattle.std.proofs.Common.{◌∙◌, ap, subst}
use Rattle.sdbm_addr.specs.Database.{IsDatabase, pairs_at}
use Rattle.store_moves.proofs.Acting.{workable}
use Rattle.desk_core.specs.Desk.{DeskState}
use Rattle.desk_core.proofs.Desk.look_at.Goals as goal

pub invariant_of-result : goal.invariant_of-result
invariant_of-result g c =
    let s : DeskState g.row.A.Denot = c.args.self.now in
    let ok = subst (λ (x : DeskState g.row.A.Denot). IsDatabase x.database) c.self.view_is c.self.invariant.0.database in
    let kind = c.key_bytes-kind.ensures ∙ ap (λ (x : DeskState g.row.A.Denot). x.database.kind) c.self.view_is in
    let size = c.in-Ok.ensures.size ∙ ap (λ (x : DeskState g.row.A.Denot). x.database.size) c.self.view_is in
    let pairs = c.in-Ok.ensures.pairs ∙ ap (λ (x : DeskState g.row.A.Denot). pairs_at x.database c.args.place.page) c.self.view_is in
    workable s.database ok c.args.place c.key_bytes-kind.result c.in-Ok.page.size c.in-Ok.page.pairs c.args.command c.requires.keyed c.requires.may.small kind c.requires.place size pairs
