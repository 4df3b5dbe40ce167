use Rattle.std.proofs.Common.{◌≡◌, drop}
use Rattle.sdbm_addr.specs.Pairs.{value_of}
use Rattle.sdbm_page.specs.Fields.{end_at}
use Rattle.sdbm_page.proofs.Page.find_by_tail.Given as goal

-- the key is not before place i, and the pair at i ends at end
abbrev pub invariant-loop-i : goal.invariant-loop-i
invariant-loop-i g l = (value_of (drop l.i l.self.pairs) l.key ≡ value_of l.self.pairs l.key) × (l.end ≡ end_at l.bytes l.i)
