use Rattle.std.proofs.lemmas.Result.{IfOk-weaker}
use Rattle.desk_core.specs.Desk.{DeskState}
use Rattle.store_shared.specs.Shared.{ClosesTicket}
use Rattle.store_shared.proofs.serving.close_ticket.Goals as goal

pub returns-then-waited_for : goal.returns-then-waited_for
returns-then-waited_for g c =
    let S : Type 0 = DeskState g.row.A.Denot in
    let desk = c.deref_mut.result.now.desk in
    IfOk-weaker c.close_on-closed.result (λ settled. ClosesTicket c.args.closing desk settled c.close_on-closed.new.desk) (λ settled. (before : S) × ((after : S) × ClosesTicket c.args.closing before settled after))
    (λ settled closes. (desk, (c.close_on-closed.new.desk, closes))) c.close_on-closed.ensures

pub returns-else-waited_for : goal.returns-else-waited_for
returns-else-waited_for g c =
    let S : Type 0 = DeskState g.row.A.Denot in
    let desk = c.deref_mut.result.now.desk in
    IfOk-weaker c.close_on-closed.result (λ settled. ClosesTicket c.args.closing desk settled c.close_on-closed.new.desk) (λ settled. (before : S) × ((after : S) × ClosesTicket c.args.closing before settled after))
    (λ settled closes. (desk, (c.close_on-closed.new.desk, closes))) c.close_on-closed.ensures
