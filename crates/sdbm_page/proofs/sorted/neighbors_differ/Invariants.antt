use Rattle.std.proofs.Common.{ℕ, ◌+◌, ◌<◌}
use Rattle.sdbm_page.proofs.InOrder.{DifferAt}
use Rattle.sdbm_page.proofs.sorted.neighbors_differ.Given as goal

-- the keys before a place differ from their neighbors
abbrev pub invariant-loop-later : goal.invariant-loop-later
invariant-loop-later l = (k : ℕ) → k + 1 < l.later → DifferAt l.keys k (k + 1)
