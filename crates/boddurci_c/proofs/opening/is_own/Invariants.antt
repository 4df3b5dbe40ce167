use Rattle.std.proofs.Common.{◌≡◌, ◌+◌, ◌*◌, ◌<◌, ℕ}
use Rattle.std.specs.Prelude.{get_or}
use Rattle.sdbm_addr.specs.Pairs.{page_bytes}
use Rattle.boddurci_c.proofs.opening.is_own.Given as goal

abbrev pub invariant-loop-index : goal.invariant-loop-index
invariant-loop-index l = (i : ℕ) → i < l.index * 1024 → get_or l.pag.bytes (l.number * page_bytes l.image.size + i) 0 ≡ get_or l.own i 0
