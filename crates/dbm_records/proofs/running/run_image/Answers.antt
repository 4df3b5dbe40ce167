use Rattle.std.proofs.Common.{inl, inr, ap, sym, subst, ◌∙◌, ℕ, IfOk, Some}
use Rattle.std.proofs.lemmas.Option.{same_Some}
use Rattle.std.proofs.lemmas.Result.{IfOk-weaker}
use Rattle.bpf_verify.specs.Verified.{Accepted}
use Rattle.prog_registry.specs.Judged.{IsProgramOf}
use Rattle.prog_registry.specs.Registry.{Registered}
use Rattle.dbm_reports.specs.Reports.{ReportsRefusal}
use Rattle.dbm_reports.proofs.Faults.{both_ok}
use Rattle.dbm_records.specs.Running.{refusal_status}
use Rattle.dbm_records.proofs.RunFaults.{denied, given_program}
use Rattle.dbm_records.proofs.running.run_image.Goals as goal

pub returns-in-Ok : goal.returns-in-Ok
returns-in-Ok c =
    let empty = ap (λ (r : Registered). r.programs) c.in_ok-registry.ensures in
    let found = given_program c.in_ok-registry.registry c.submit.new.self c.args.image.now c.in-Ok.id.0 empty c.in-Ok.ensures.ok in
    IfOk-weaker c.run_program.result _ _
    (λ report h. inl (h.0, (subst (λ (p : Accepted). IsProgramOf c.args.image.now p) (same_Some found.0 h.0 (sym found.1.1 ∙ h.1.0)) found.1.0, h.1.1)))
    c.run_program.ensures

pub returns-in-Err : goal.returns-in-Err
returns-in-Err c =
    let empty = ap (λ (r : Registered). r.programs) c.in_ok-registry.ensures in
    let lines : IfOk c.refused.result (ReportsRefusal c.in-Err.fault (refusal_status c.args.expect) (Some c.args.database)) =
    subst (λ (status : ℕ). IfOk c.refused.result (ReportsRefusal c.in-Err.fault status (Some c.args.database))) c.refusal_status.ensures c.refused.ensures.line in
    both_ok _ _ _ c.refused.result
    (λ report told line. inr (c.in-Err.fault, (denied c.in_ok-registry.registry c.submit.new.self c.args.image.now c.in-Err.fault empty told c.in-Err.ensures.err, line)))
    c.refused.ensures.told lines
