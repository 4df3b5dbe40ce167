use Rattle.dbm_reports.proofs.report.look.Goals as goal

pub returns : goal.returns
returns c = (c.command_report.new.image, (c.in_ok-report.ensures.report, c.in_ok-report.ensures.none))
