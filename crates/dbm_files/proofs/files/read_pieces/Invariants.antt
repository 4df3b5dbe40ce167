use Rattle.std.proofs.Common.{◌≡◌, ◌%◌, length}
use Rattle.sdbm_addr.specs.Pairs.{page_bytes}
use Rattle.dbm_files.proofs.files.read_pieces.Given as goal

-- whole pages are read
abbrev pub invariant-loop : goal.invariant-loop
invariant-loop l = length l.pages.bytes % page_bytes l.pages.size ≡ 0
