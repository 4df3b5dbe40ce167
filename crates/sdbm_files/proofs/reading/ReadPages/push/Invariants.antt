use Rattle.std.proofs.Common.{◌≡◌, ◌*◌, take}
use Rattle.sdbm_addr.specs.Pairs.{page_bytes}
use Rattle.sdbm_files.specs.Reading.{with_piece}
use Rattle.sdbm_files.proofs.reading.ReadPages.push.Given as goal

-- the first pages of the piece are read
abbrev pub invariant-loop-index : goal.invariant-loop-index
invariant-loop-index g l = l.self ≡ with_piece l.fn.self (take (l.index * page_bytes l.fn.self.size) l.piece)
