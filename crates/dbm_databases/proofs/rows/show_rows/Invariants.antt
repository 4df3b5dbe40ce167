use Rattle.std.proofs.Common.{◌≡◌, take}
use Rattle.sdbm_files.specs.Lent.{pairs_lent}
use Rattle.dbm_databases.specs.Rows.{rows}
use Rattle.dbm_databases.proofs.rows.show_rows.Given as goal

-- the first pairs are listed
abbrev pub invariant-loop-pair : goal.invariant-loop-pair
invariant-loop-pair g l = l.text.items ≡ rows l.notation l.listing l.prefix (pairs_lent (take l.pair-index l.pairs))
