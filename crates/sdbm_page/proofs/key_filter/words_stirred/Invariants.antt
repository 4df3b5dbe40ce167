use Rattle.std.proofs.Common.{◌≡◌}
use Rattle.sdbm_page.specs.Marks.{words_stirred}
use Rattle.sdbm_page.proofs.key_filter.words_stirred.Given as goal

abbrev pub invariant-loop-i : goal.invariant-loop-i
invariant-loop-i l = l.sum ≡ words_stirred l.key l.i
