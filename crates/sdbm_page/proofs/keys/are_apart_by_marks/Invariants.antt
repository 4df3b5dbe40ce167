use Rattle.std.proofs.Common.{◌≤◌}
use Rattle.sdbm_page.specs.Keys.{AreApart}
use Rattle.sdbm_page.proofs.Apart.{AreNoted}
use Rattle.sdbm_page.proofs.keys.are_apart_by_marks.Given as goal

-- the keys before place i are distinct and in the filter, and few of them hit it
abbrev pub invariant-loop-i : goal.invariant-loop-i
invariant-loop-i l = AreApart l.bytes l.i × AreNoted l.noted.words l.bytes l.i × (l.doubted ≤ 16)
