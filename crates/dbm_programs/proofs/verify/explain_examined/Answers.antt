use Rattle.std.proofs.Common.{inl}
use Rattle.std.proofs.lemmas.Result.{IfOk-weaker}
use Rattle.dbm_programs.specs.Judging.{Judges}
use Rattle.dbm_programs.proofs.verify.explain_examined.Goals as goal

pub returns : goal.returns
returns c =
    let judged : Judges c.args.image.now c.printed.result = inl (record { program = c.args.examined; is = c.requires }, record { text_is = rw c.printed.ensures.text c.in_ok-line.ensures; status_is = c.printed.ensures.status; written = c.printed.ensures.database }) in
    IfOk-weaker c.behind.result _ _ (λ report ends. (c.printed.result, (judged, ends))) c.behind.ensures
