use Rattle.std.proofs.Common.{◌≡◌, ◌++◌, ◌∷◌, [], List, ℕ, get_or, sym, ap, ◌∙◌}
use Rattle.sdbm_files.specs.Lent.{pair_lent}
use Rattle.dbm_databases.specs.Rows.{rows}
use Rattle.dbm_databases.proofs.PairLines.{nothing_lent, rows_more}
use Rattle.dbm_databases.proofs.rows.show_rows.Goals as goal

pub loop-pair-preserved : goal.loop-pair-preserved
loop-pair-preserved g c =
    let n = c.args.notation.now in
    let begin = c.args.prefix.now in
    let row : List ℕ = rows n c.args.listing begin (pair_lent (get_or c.args.pairs.now c.loop-pair.pair-index nothing_lent) ∷ []) in
    let added : c.show_chosen.new.text.items ≡ c.loop-pair.text.items ++ row = c.in_ok-show_chosen.ensures.row in
    added ∙ ap (λ (text : List ℕ). text ++ row) c.loop-pair.invariant ∙ sym (rows_more n c.args.listing begin c.args.pairs.now c.loop-pair.pair-index nothing_lent c.loop-pair-test.true)
