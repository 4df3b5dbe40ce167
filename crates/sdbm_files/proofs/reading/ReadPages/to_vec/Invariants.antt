use Rattle.std.proofs.Common.{◌≡◌, ◌*◌, take}
use Rattle.sdbm_addr.specs.Pairs.{page_bytes}
use Rattle.sdbm_files.proofs.reading.ReadPages.to_vec.Given as goal

-- the first pages are copied
abbrev pub invariant-loop-number : goal.invariant-loop-number
invariant-loop-number g l = l.copy.items ≡ take (l.number * page_bytes l.self.size) l.self.bytes
