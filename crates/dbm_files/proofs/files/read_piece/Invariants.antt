use Rattle.std.proofs.Common.{◌≡◌, ◌≤◌, length}
use Rattle.dbm_files.proofs.files.read_piece.Given as goal

-- `count` bytes were read
abbrev pub invariant-loop : goal.invariant-loop
invariant-loop g l = record { count : l.count ≤ length l.room; room : length l.room ≡ length l.fn.room }
