use Rattle.std.proofs.Common.{◌≡◌, ◌*◌, ◌/◌, length}
use Rattle.sdbm_page.specs.Marks.{words_stirred, bytes_stirred}
use Rattle.sdbm_page.proofs.key_filter.stirred.Given as goal

abbrev pub invariant-loop-i : goal.invariant-loop-i
invariant-loop-i l = l.sum ≡ bytes_stirred (words_stirred l.key (length l.key / 8)) l.key (8 * (length l.key / 8)) l.i
