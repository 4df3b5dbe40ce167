use Rattle.std.proofs.Common.{List, ℕ, subst}
use Rattle.dbm_records.specs.EachRuns.{RunsOne}
use Rattle.dbm_records.proofs.EachLemmas.{runs_more}
use Rattle.dbm_records.proofs.each_run.run_keys.Goals as goal

pub loop-key-preserved : goal.loop-key-preserved
loop-key-preserved c =
    runs_more c.args.registry.now.programs c.args.prog c.args.words.now c.args.database c.loop-key.image c.in_ok-image.image c.args.keys.now c.loop-key.key-index c.key-item.result c.loop-key-test.true
    c.loop-key.invariant
    (subst (λ (key : List ℕ). RunsOne c.args.registry.now.programs c.args.prog c.args.words.now c.loop-key.image key c.in_ok-image.image) c.key-item.is c.in_ok-image.ensures)
