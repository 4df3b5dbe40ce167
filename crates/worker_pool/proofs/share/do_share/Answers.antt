use Rattle.std.proofs.Common.{refl}
use Rattle.std.proofs.Math.Nat.{mod-eq_of_lt}
use Rattle.worker_pool.proofs.TriedLemmas.{tried_none, tried_all}
use Rattle.worker_pool.proofs.share.do_share.Goals as goal

pub loop-at-init : goal.loop-at-init
loop-at-init g c = record {
  its_own = mod-eq_of_lt c.requires.worker;
  tried = tried_none c.args.registry.now.programs c.args.tasks.now c.args.workers c.args.worker c.args.session.now c.args.replies.now.items c.requires.worker c.requires.unused;
  size = refl;
}

pub returns-clause-worked : goal.returns-clause-worked
returns-clause-worked g c =
    tried_all c.args.registry.now.programs c.args.tasks.now c.args.workers c.args.worker c.loop-at.at c.loop-at.session c.loop-at.replies.items c.loop-at.first c.loop-at-test.false c.loop-at.invariant.tried
