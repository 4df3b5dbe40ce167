use Rattle.std.proofs.Common.{◌≡◌, ◌≤◌, length}
use Rattle.std.specs.Prelude.{vec_capacity, vec_len}
use Rattle.std.specs.List.{All}
use Rattle.worker_pool.specs.Shares.{IsUnused}
use Rattle.worker_pool.proofs.crew.hire.Given as goal

abbrev pub invariant-loop-worker : goal.invariant-loop-worker
invariant-loop-worker g l = record {
  len : vec_len l.crew ≡ l.worker;
  count : length l.crew.items ≡ l.worker;
  room : l.workers ≤ vec_capacity l.crew;
  unused : All (λ x. IsUnused x.session x.replies.items) l.crew.items;
  sizes : All (λ x. x.session.size ≡ l.store.size) l.crew.items;
}
