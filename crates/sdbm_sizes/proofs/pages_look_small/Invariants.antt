use Rattle.std.proofs.Common.{ℕ, ◌<◌}
use Rattle.sdbm_addr.specs.declared.PageSize.TheVariants.{Wide}
use Rattle.sdbm_addr.specs.Files.{page_at}
use Rattle.sdbm_sizes.specs.Sizes.{IsWritten}
use Rattle.sdbm_sizes.proofs.pages_look_small.Given as goal

abbrev pub invariant-loop-number : goal.invariant-loop-number
invariant-loop-number g l = (k : ℕ) → k < l.number → IsWritten (page_at Wide l.pag.bytes k) → ⊥
