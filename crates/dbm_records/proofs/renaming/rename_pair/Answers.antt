use Rattle.std.proofs.Common.{List, inr, subst, ℕ}
use Rattle.std.specs.declared.alloc.Global.{Global}
use Rattle.std.proofs.lemmas.Result.{IfOk-weaker}
use Rattle.store_cmd.specs.declared.Command.TheVariants.{Fetch}
use Rattle.dbm_script.specs.Answers.{IsAnswerTo}
use Rattle.dbm_records.proofs.renaming.rename_pair.Goals as goal

pub returns-in-Ok : goal.returns-in-Ok
returns-in-Ok c =
    IfOk-weaker c.store_anew.result _ _
    (λ r told. (
      c.in_ok-answer.answer,
      (
        c.answer_command.new.image,
        inr (c.in-Ok.value, (c.in-Ok.ensures.ok, (subst (λ (key : List ℕ). IsAnswerTo Global c.args.image.now (Fetch key) c.in_ok-answer.answer c.answer_command.new.image) c.in_ok-copy.ensures c.in_ok-answer.ensures.answer, told))),
      ),
    ))
    c.store_anew.ensures
