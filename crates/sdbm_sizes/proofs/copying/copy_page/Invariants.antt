use Rattle.std.proofs.Common.{◌≡◌, ◌+◌, ◌*◌}
use Rattle.std.specs.Prelude.{slice_range}
use Rattle.sdbm_sizes.proofs.copying.copy_page.Given as goal

abbrev pub invariant-loop-index : goal.invariant-loop-index
invariant-loop-index g l = l.page.items ≡ slice_range l.pag.bytes (l.number * 8192) (l.number * 8192 + l.index * 1024)
