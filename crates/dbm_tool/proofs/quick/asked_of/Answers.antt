use Rattle.std.proofs.Common.{List, ℕ, Option, IfSome, sym, subst}
use Rattle.dbm_command_line.specs.declared.wish.Wish.{Wish}
use Rattle.dbm_command_line.specs.declared.wish.Wish.TheVariants as wish
use Rattle.dbm_records.specs.PageRequests.{IsMeant, FetchComes, StoreComes, DeleteComes, RunComes}
use Rattle.dbm_tool.specs.Services.{service_in}
use Rattle.dbm_tool.proofs.QuickParts.{meant_by, meant_where}
use Rattle.dbm_tool.proofs.quick.asked_of.Goals as goal

pub returns-in-Fetch : goal.returns-in-Fetch
returns-in-Fetch c =
    let n = c.args.notation.now in
    let file = c.args.file.now in
    let fetch = c.in-Fetch.fetch in
    subst (λ (w : Wish). IfSome c.meant.result (λ m. IsMeant m.0 file n (λ given report. (input : Option (List ℕ)) → (service_in n w given input).reports report) m.1)) (sym c.in-Fetch.is)
    (meant_where fetch.form file n (FetchComes n fetch) (λ given report. (input : Option (List ℕ)) → (service_in n (wish.Fetch fetch) given input).reports report) c.meant.result c.fetch_request.result (λ given report told input. told) c.meant.ensures c.fetch_request.ensures)

pub returns-in-Store : goal.returns-in-Store
returns-in-Store c =
    let n = c.args.notation.now in
    let file = c.args.file.now in
    let store = c.in-Store.store in
    subst (λ (w : Wish). IfSome c.meant-in-Store.result (λ m. IsMeant m.0 file n (λ given report. (input : Option (List ℕ)) → (service_in n w given input).reports report) m.1)) (sym c.in-Store.is)
    (meant_where store.form file n (StoreComes n store) (λ given report. (input : Option (List ℕ)) → (service_in n (wish.Store store) given input).reports report) c.meant-in-Store.result c.store_request.result (λ given report told input. told input) c.meant-in-Store.ensures c.store_request.ensures)

pub returns-in-Delete : goal.returns-in-Delete
returns-in-Delete c =
    let n = c.args.notation.now in
    let file = c.args.file.now in
    let delete = c.in-Delete.delete in
    subst (λ (w : Wish). IfSome c.meant-in-Delete.result (λ m. IsMeant m.0 file n (λ given report. (input : Option (List ℕ)) → (service_in n w given input).reports report) m.1)) (sym c.in-Delete.is)
    (meant_where delete.form file n (DeleteComes n delete) (λ given report. (input : Option (List ℕ)) → (service_in n (wish.Delete delete) given input).reports report) c.meant-in-Delete.result c.delete_request.result (λ given report told input. told) c.meant-in-Delete.ensures c.delete_request.ensures)

pub returns-in-Ok : goal.returns-in-Ok
returns-in-Ok c =
    let n = c.args.notation.now in
    let file = c.args.file.now in
    let run = c.in-Run.run' in
    subst (λ (w : Wish). IsMeant run.form file n (λ given report. (input : Option (List ℕ)) → (service_in n w given input).reports report) c.in-Ok.asked) (sym c.in-Run.is)
    (meant_by run.form file n (RunComes n run) (λ given report. (input : Option (List ℕ)) → (service_in n (wish.Run run) given input).reports report) c.in-Ok.asked (λ given report told input. told) c.in-Ok.ensures)
