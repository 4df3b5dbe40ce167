use Rattle.std.proofs.Common.{refl}
use Rattle.dbm_reports.proofs.report.change.Goals as goal

pub returns : goal.returns
returns c =
    let told = c.in_ok-report.ensures.report in
    (c.command_report.new.image, (record { answer = told.answer; answers = told.answers; kind = told.kind; size = told.size; text_is = told.text_is; status_is = told.status_is }, refl))
