use Rattle.std.proofs.Common.{inr}
use Rattle.std.proofs.lemmas.Result.{IfOk-weaker}
use Rattle.prog_registry.specs.declared.fault.RegFault.TheVariants.{Verify}
use Rattle.dbm_programs.specs.Judging.{Judges}
use Rattle.dbm_programs.proofs.verify.explain_refusal.Goals as goal

pub returns : goal.returns
returns c =
    let judged : Judges c.args.image.now c.in_ok-last.last = inr (Verify c.args.program.fault, (c.requires, c.in_ok-last.ensures.line)) in
    IfOk-weaker c.behind.result _ _ (λ report ends. (c.in_ok-last.last, (judged, ends))) c.behind.ensures
