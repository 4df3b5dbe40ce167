use Rattle.std.proofs.Common.{◌≡◌, ◌∙◌, ◌+◌, sym, ap, subst, arith, length}
use Rattle.std.specs.List.{All}
use Rattle.std.proofs.lemmas.List.{length_push}
use Rattle.std.proofs.lemmas.List.Elements.{All-push}
use Rattle.worker_pool.specs.Shares.{IsUnused}
use Rattle.worker_pool.proofs.crew.hire.Goals as goal

pub loop-worker-preserved : goal.loop-worker-preserved
loop-worker-preserved g c = record {
  len = omega arith;
  count = ap length c.push_reserved.ensures.items ∙ (length_push c.loop-worker.crew.items _ ∙ ap (λ n. n + 1) c.loop-worker.invariant.count);
  room = omega arith;
  unused = subst (All (λ x. IsUnused x.session x.replies.items)) (sym c.push_reserved.ensures.items) (All-push (λ x. IsUnused x.session x.replies.items) c.loop-worker.crew.items _ c.loop-worker.invariant.unused (record { calls = c.in-Ok.ensures.calls; replies_are = c.new.ensures.items }));
  sizes = subst (All (λ x. x.session.size ≡ c.args.store.now.size)) (sym c.push_reserved.ensures.items) (All-push (λ x. x.session.size ≡ c.args.store.now.size) c.loop-worker.crew.items _ c.loop-worker.invariant.sizes c.in-Ok.ensures.size);
}
