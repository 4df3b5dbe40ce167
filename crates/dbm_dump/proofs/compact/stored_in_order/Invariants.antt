use Rattle.std.proofs.Common.{take}
use Rattle.sdbm_addr.specs.declared.Mode.TheVariants.{Insert}
use Rattle.sdbm_addr.specs.Database.{empty_database}
use Rattle.sdbm_files.specs.Lent.{pairs_lent}
use Rattle.dbm_dump.specs.Loading.{StoresAll}
use Rattle.dbm_dump.proofs.compact.stored_in_order.Given as goal

-- the first pairs are stored
abbrev pub invariant-loop-pair : goal.invariant-loop-pair
invariant-loop-pair l = StoresAll Insert (empty_database l.fn.kind l.fn.size) (pairs_lent (take l.pair-index l.pairs)) l.image
