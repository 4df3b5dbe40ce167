use Rattle.sdbm_page.specs.Keys.{AreApart}
use Rattle.sdbm_page.proofs.keys.are_apart_one_by_one.Given as goal

-- the keys before place i are distinct
abbrev pub invariant-loop-i : goal.invariant-loop-i
invariant-loop-i l = AreApart l.bytes l.i
