use Rattle.std.proofs.Common.{◌≡◌, false, take}
use Rattle.std.specs.Io.KnownBytes.{Keeps}
use Rattle.sdbm_files.specs.Lent.{pairs_lent}
use Rattle.dbm_databases.specs.Rows.{rows}
use Rattle.dbm_databases.specs.Streams.{IsSplit}
use Rattle.dbm_databases.proofs.streamed.write_rows.Given as goal

-- the first rows are written or in the buffer
abbrev pub invariant-loop-pair : goal.invariant-loop-pair
invariant-loop-pair g l = record {
  split : IsSplit (g.W.Write.contents l.fn.writer) (g.W.Write.contents l.writer) l.room.items (rows l.notation l.listing l.prefix (pairs_lent (take l.pair-index l.pairs)));
  kept : l.is_written ≡ false → Keeps (g.W.Write.contents l.fn.writer) (g.W.Write.contents l.writer);
}
