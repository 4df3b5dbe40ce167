use Rattle.std.proofs.Common.{sym, ◌∙◌, ap, arith, length-drop}
use Rattle.std.proofs.lemmas.List.{take_all}
use Rattle.sdbm_saves.specs.Redo.{rest_of, changes_of}
use Rattle.sdbm_saves.proofs.Replays.{rest_next}
use Rattle.dbm_files.proofs.sight.knows_pages.Goals as goal

pub loop-index-init : goal.loop-index-init
loop-index-init c = record { rest = take_all _ (changes_of c.args.plan.now) (omega (arith, length-drop 28 c.args.plan.now)) }

pub loop-index-preserved : goal.loop-index-preserved
loop-index-preserved c = record {
  rest = c.rest_of-rest.ensures ∙ ap rest_of c.loop-index.invariant.rest ∙ sym (rest_next c.loop-index.index (changes_of c.args.plan.now));
}
