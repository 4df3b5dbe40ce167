use Rattle.std.proofs.Common.{◌-◌, refl, arith}
use Rattle.sdbm_page.proofs.InOrder.{unlike_from_places, differ_from_unlike, differ_from_sorted}
use Rattle.sdbm_page.proofs.sorted.neighbors_differ.Goals as goal

pub returns-then-eq : goal.returns-then-eq
returns-then-eq c = (λ never. absurd (cc), λ h. let differ = differ_from_unlike c.args.keys.now (c.loop-later.later - 1) c.loop-later.later h (omega arith) c.loop-later-test.true in grind arith)

pub returns : goal.returns
returns c = (λ _. unlike_from_places c.args.keys.now (differ_from_sorted c.args.keys.now c.requires (λ k h. c.loop-later.invariant k (omega arith))), λ _. refl)
