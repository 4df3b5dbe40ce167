use Rattle.std.proofs.Common.{ap, refl}
use Rattle.store_cmd.specs.declared.Reply.TheVariants.{Ran}
use Rattle.store_moves.specs.Rewrites.{command_of}
use Rattle.dbm_script.specs.Answers.{reply_text}
use Rattle.dbm_script.specs.declared.answers.Answer.TheVariants.{Replied}
use Rattle.dbm_script.proofs.direct.answer_run_input.Goals as goal

pub returns-clause-done : goal.returns-clause-done
returns-clause-done g c =
    let acts = c.in-Some.ensures.done in
    record {
      added = reply_text c.args.notation.now c.ran.result;
      is = c.in_ok-show_reply.ensures;
      holds = (
        Replied (record { session = c.args.input.now.session; command = command_of c.args.input.now; reply = Ran c.in-Some.ended.code c.in-Some.ended.word }),
        ((acts.small, (c.requires, (refl, acts))), ap (reply_text c.args.notation.now) c.ran.ensures),
      );
    }
