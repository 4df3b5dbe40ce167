use Rattle.std.proofs.Common.{◌≢◌, ◌-◌, ◌<◌, ◌≤◌, ◌^◌, ℕ, [], get_or}
use Rattle.sdbm_addr.specs.Database.{pairs_at}
use Rattle.sdbm_saves.proofs.counting.count_from.Given as goal

abbrev pub invariant-loop-number : goal.invariant-loop-number
invariant-loop-number g l = record {
  least : l.fn.first ≤ l.count;
  few : l.count ≤ 2 ^ 32;
  last : pairs_at l.image (l.count - 1) ≢ [];
  past : (k d : ℕ) → k < l.number-index → pairs_at l.image (get_or l.numbers k d) ≢ [] → get_or l.numbers k d < l.count;
}
