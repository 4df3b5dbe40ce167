use Rattle.std.proofs.Common.{codes, refl}
use Rattle.store_cmd.specs.declared.Command.TheVariants.{Store}
use Rattle.store_cmd.specs.declared.Reply.TheVariants.{Stored}
use Rattle.dbm_script.specs.declared.answers.Answer.TheVariants.{Replied}
use Rattle.dbm_script.proofs.direct.answer_store.Goals as goal

pub returns-clause-done : goal.returns-clause-done
returns-clause-done g c = λ notation.
    let acts = c.if-not-store_noted.ensures.done refl in
    record {
      added = codes "stored";
      is = c.in_ok-extend_from_slice.ensures.items;
      holds = (Replied (record { session = 0; command = Store c.args.key.now c.args.value.now c.args.mode; reply = Stored }), ((acts.small, (refl, (refl, acts))), refl));
    }

pub returns-clause-kept : goal.returns-clause-kept
returns-clause-kept g c =
    let acts = c.if-not-store_noted.ensures.done refl in
    (acts.move.kind, acts.move.size)
