use Rattle.std.proofs.Common.{List, ℕ, ◌++◌, ◌∷◌, [], get_or, ap, sym, ◌∙◌}
use Rattle.sdbm_files.specs.Lent.{pair_lent}
use Rattle.dbm_records.specs.EachRuns.{keys_with}
use Rattle.dbm_records.proofs.EachLemmas.{keys_more, nothing_lent}
use Rattle.dbm_records.proofs.each_run.keys_among.Goals as goal

pub loop-pair-preserved : goal.loop-pair-preserved
loop-pair-preserved c =
    let one : List (List ℕ) = keys_with c.args.prefix.now (pair_lent (get_or c.args.pairs.now c.loop-pair.pair-index nothing_lent) ∷ []) in
    c.in_ok-push_key.ensures ∙ ap (λ (keys : List (List ℕ)). keys ++ one) c.loop-pair.invariant
    ∙ sym (keys_more c.args.prefix.now c.args.pairs.now c.loop-pair.pair-index nothing_lent c.loop-pair-test.true)
