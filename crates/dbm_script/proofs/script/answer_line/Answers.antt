use Rattle.std.proofs.Common.{◌∙◌, sym}
use Rattle.dbm_script.proofs.Runs.{line_runs}
use Rattle.dbm_script.proofs.script.answer_line.Goals as goal

pub returns-clause-answer : goal.returns-clause-answer
returns-clause-answer g c =
    line_runs _ _ _ _ c.args.line.now c.args.text.now.items c.answer_words.new.text.items c.push.new.self.items
    (sym c.is_empty.ensures ∙ c.if-is_empty.false) c.in_ok-is_command.ensures.answer c.in_ok-push.ensures.items
