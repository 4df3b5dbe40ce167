use Rattle.std.proofs.Common.{◌≡◌, sym, ◌∙◌, ap, subst}
use Rattle.sdbm_addr.specs.Database.{IsDatabase}
use Rattle.desk_core.specs.declared.job.Open.{Open}
use Rattle.desk_core.specs.Desk.{DeskState}
use Rattle.desk_core.specs.Calls.{IsAsked}
use Rattle.store_moves.proofs.Acting.{workable}
use Rattle.desk_core.proofs.Ties.{keyed_may, may_first}
use Rattle.desk_core.proofs.Doing.{asked_so}
use Rattle.desk_core.proofs.Desk.take.Goals as goal

pub invariant_of-result : goal.invariant_of-result
invariant_of-result g c =
    let s : DeskState g.row.A.Denot = c.args.self.now in
    let asked = c.in-Ok.ensures.asked in
    let kind = asked.kind ∙ ap (λ (x : DeskState g.row.A.Denot). x.database.kind) (sym c.self.view_is) ∙ sym c.key_bytes-kind.ensures in
    let page = sym c.in-Ok-try_clone.ensures in
    let o : Open g.row.A.Denot = record { session = c.args.session; command = c.args.command; place = c.args.wanted.place; kind = c.key_bytes-kind.result; page = c.in-Ok-try_clone.page } in
    let same : c.in-Ok.own ≡ o = λ i. record { session = asked.session_is i; command = asked.command_is i; place = c.in-Ok.ensures.place i; kind = kind i; page = page i } in
    let own = subst (λ (x : Open g.row.A.Denot). IsAsked s c.args.session c.args.command x) same asked in
    let ok = subst (λ (x : DeskState g.row.A.Denot). IsDatabase x.database) c.self.view_is c.self.invariant.0.database in
    workable s.database ok o.place o.kind o.page.size o.page.pairs o.command (keyed_may c.args.command c.args.wanted.mode (may_first c.args.command c.args.wanted.mode c.requires.mode)) c.requires.may.small own.kind own.place own.size own.pairs

pub returns-clause-ok : goal.returns-clause-ok
returns-clause-ok g c =
    let asked = c.in-Ok.ensures.asked in
    let kind = asked.kind ∙ ap (λ (x : DeskState g.row.A.Denot). x.database.kind) (sym c.self.view_is) ∙ sym c.key_bytes-kind.ensures in
    let page = sym c.in-Ok-try_clone.ensures in
    let o : Open g.row.A.Denot = record { session = c.args.session; command = c.args.command; place = c.args.wanted.place; kind = c.key_bytes-kind.result; page = c.in-Ok-try_clone.page } in
    let same : c.in-Ok.own ≡ o = λ i. record { session = asked.session_is i; command = asked.command_is i; place = c.in-Ok.ensures.place i; kind = kind i; page = page i } in
    asked_so c.args.self.now c.enter.new.self c.args.session c.in-Ok-enter.ticket.0 c.args.command c.in-Ok.own o c.requires.may asked c.in-Ok-enter.ensures.ok same
