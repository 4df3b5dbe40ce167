use Rattle.std.proofs.Common.{◌≡◌, ◌≤◌, length, take}
use Rattle.sdbm_files.specs.Lent.{pairs_lent}
use Rattle.dbm_databases.specs.Rows.{chosen}
use Rattle.dbm_databases.proofs.count.count_chosen.Given as goal

-- the first pairs are counted
abbrev pub invariant-loop-pair : goal.invariant-loop-pair
invariant-loop-pair l = record {
  is : l.count ≡ length (chosen l.prefix (pairs_lent (take l.pair-index l.pairs)));
  few : l.count ≤ l.pair-index;
}
