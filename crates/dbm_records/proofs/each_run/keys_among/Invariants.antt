use Rattle.std.proofs.Common.{◌≡◌, take}
use Rattle.sdbm_files.specs.Lent.{pairs_lent}
use Rattle.dbm_records.specs.EachRuns.{keys_with}
use Rattle.dbm_records.proofs.each_run.keys_among.Given as goal

-- the keys of the first pairs are copied
abbrev pub invariant-loop-pair : goal.invariant-loop-pair
invariant-loop-pair l = l.keys.items ≡ keys_with l.prefix (pairs_lent (take l.pair-index l.pairs))
