use Rattle.std.proofs.Common.{◌≡◌, None, sym, subst, ◌∙◌}
use Rattle.std.specs.declared.alloc.Global.{Global}
use Rattle.store_cmd.specs.declared.Command.{Command}
use Rattle.store_cmd.specs.declared.Command.TheVariants.{Run}
use Rattle.dbm_script.specs.Answers.{IsAnswerTo}
use Rattle.dbm_records.proofs.RunFaults.{ran_program}
use Rattle.dbm_records.proofs.each_run.run_key.Goals as goal

pub returns : goal.returns
returns c =
    let found = ran_program c.args.registry.now.programs c.in_ok-try_clone.field-0 c.args.prog c.in_ok-try_clone-2.field-0 None c.args.words.now.time _ (sym c.in-Some.is ∙ c.in_ok-command.ensures) in
    let is : c.in-Some.command ≡ Run c.args.key.now found.0.code c.args.words.now.arg None c.args.words.now.time
    = found.1.1 ∙ (λ i. Run (c.in_ok-try_clone.ensures i) found.0.code (c.in_ok-try_clone-2.ensures i) None c.args.words.now.time) in (
      found.0,
      (
        found.1.0,
        (
          c.in_ok-answer.answer,
          subst (λ (command : Command Global). IsAnswerTo Global c.args.database command c.in_ok-answer.answer c.answer_command.new.image) is c.in_ok-answer.ensures.answer,
        ),
      ),
    )
