use Rattle.std.proofs.Common.{◌≡◌, ◌++◌, take}
use Rattle.sdbm_files.specs.Lent.{pairs_lent}
use Rattle.sdbm_files.proofs.pages.lend_page.Given as goal

abbrev pub invariant-loop-i : goal.invariant-loop-i
invariant-loop-i g l = pairs_lent l.lent.items ≡ pairs_lent l.initial.lent.items ++ take l.i l.page.pairs
