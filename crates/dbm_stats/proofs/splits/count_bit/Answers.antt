use Rattle.std.proofs.Common.{◌+◌, ◌*◌, true, refl, sym, ◌∙◌}
use Rattle.dbm_stats.proofs.SplitsLemmas.{one_bit}
use Rattle.dbm_stats.proofs.splits.count_bit.Goals as goal

pub returns-then-is_set-clause-count : goal.returns-then-is_set-clause-count
returns-then-is_set-clause-count c = one_bit c.args.bytes.now (8 * c.args.index + c.args.k) 1 true (sym c.if-is_set.true ∙ c.is_set.ensures) refl
