use Rattle.std.proofs.Common.{◌≡◌, ◌+◌, length, take}
use Rattle.sdbm_files.specs.Lent.{pairs_lent}
use Rattle.dbm_databases.specs.Rows.{rows}
use Rattle.dbm_databases.proofs.streamed.measured_room.Given as goal

-- the bytes of the first rows are counted or in the buffer
abbrev pub invariant-loop-pair : goal.invariant-loop-pair
invariant-loop-pair l = l.count + length l.room.items ≡ length (rows l.notation l.listing l.prefix (pairs_lent (take l.pair-index l.pairs)))
