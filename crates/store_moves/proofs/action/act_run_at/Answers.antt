use Rattle.std.proofs.Common.{Option, Some, None}
use Rattle.std.specs.Prelude.{IfSome}
use Rattle.store_cmd.specs.declared.Reply.TheVariants.{Ran}
use Rattle.store_moves.specs.Rewrites.{command_of}
use Rattle.store_moves.proofs.Acting.{Acts-done}
use Rattle.store_moves.proofs.action.act_run_at.Goals as goal

weaker : {T : Type 0} (P Q : T → Type 0) (o : Option T) → ((t : T) → P t → Q t) → IfSome o P → IfSome o Q
weaker P Q None more is = tt
weaker P Q (Some t) more is = more t is

pub returns-clause-done : goal.returns-clause-done
returns-clause-done g c =
    weaker _ _ c.run_input_in_place.result
    (λ ended is. Acts-done c.args.image.now c.run_input_in_place.new.image c.requires.database c.args.place c.args.input.now.session (command_of c.args.input.now) (Ran ended.code ended.word) tt c.requires.small is) c.run_input_in_place.ensures.done
