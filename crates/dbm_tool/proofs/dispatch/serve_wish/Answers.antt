use Rattle.std.proofs.Common.{◌≡◌, ℕ, List, Option, Some, Result, Err, refl, subst, sym, ap}
use Rattle.dbm_command_line.specs.Wishes.{writes_files}
use Rattle.dbm_messages.specs.Faults.{report_fault}
use Rattle.dbm_args.specs.declared.options.Head.{Head}
use Rattle.dbm_reports.specs.Causes.{IsCaused}
use Rattle.dbm_reports.specs.Known.{layout_causes}
use Rattle.dbm_reports.specs.Notations.{notation_by}
use Rattle.dbm_tool.specs.Outcomes.{IsOutcome}
use Rattle.std.specs.declared.alloc.Global.{Global}
use Rattle.dbm_script.specs.declared.notations.Notation.{Notation}
use Rattle.dbm_tool.specs.Services.{Service, notation_for, reads_input, service_for, service_in}
use Rattle.dbm_messages.specs.declared.fault.ServeFault.{ServeFault}
use Rattle.dbm_reports.specs.declared.serving.Outcome.{Outcome}
use Rattle.dbm_tool.proofs.Faults.{unlaid}
use Rattle.dbm_tool.proofs.Turns.{failed_early, keeps_all, noted_outcome}
use Rattle.dbm_tool.proofs.dispatch.serve_wish.Goals as goal

pub returns-in-Ok : goal.returns-in-Ok
returns-in-Ok g c =
    noted_outcome (notation_for c.args.wish) c.in-Ok.notation (λ n. service_in n c.args.wish c.args.given.now (g.R.Read.remaining c.args.reader.now)) _ _ _ _ _ _ _
    (subst (λ (head : Head). notation_by head.notation.text head.notation.layout ≡ Some c.in-Ok.notation) c.head-head.ensures c.in-Ok.ensures.ok) c.serve_in.ensures

pub returns-in-Err : goal.returns-in-Err
returns-in-Err g c =
    let input : Option (List ℕ) = g.R.Read.remaining c.args.reader.now in
    let old : Option (List ℕ) = g.W.Write.contents c.args.writer.now in
    let failed : ServeFault → Result Outcome ServeFault = λ fault. Err fault in
    let known : Notation Global → Service = λ n. service_in n c.args.wish c.args.given.now input in
    subst (λ (o : Result Outcome ServeFault). IsOutcome (service_for c.args.wish c.args.given.now input) (writes_files c.args.wish) (reads_input c.args.wish) input input old old o)
    (sym (ap failed c.from.ensures))
    (failed_early (service_for c.args.wish c.args.given.now input) (writes_files c.args.wish) (reads_input c.args.wish) input input old old (report_fault c.in-Err.fault)
    (unlaid (notation_for c.args.wish) known c.in-Err.fault
    (subst (λ (head : Head). IsCaused (layout_causes (notation_by head.notation.text head.notation.layout)) c.in-Err.fault) c.head-head.ensures c.in-Err.ensures.fault)) (keeps_all old) (λ none. refl))
