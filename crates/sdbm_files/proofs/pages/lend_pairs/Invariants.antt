use Rattle.std.proofs.Common.{◌≡◌, ◌++◌}
use Rattle.std.specs.List.{flat_map}
use Rattle.std.specs.HashMap.{values}
use Rattle.sdbm_addr.specs.Pairs.{Content}
use Rattle.sdbm_files.specs.Lent.{pairs_lent}
use Rattle.sdbm_files.proofs.pages.lend_pairs.Given as goal

-- the pairs borrowed and those of the pages left make up all pairs
abbrev pub invariant-loop-page : goal.invariant-loop-page
invariant-loop-page g l =
    (goal.iterator-loop-page g).can_next l.page-iterator ×
    (goal.iterator-loop-page g).is_finite l.page-iterator ×
    (pairs_lent l.lent.items ++ flat_map (λ (c : Content). c.pairs) l.page-iterator ≡ flat_map (λ (c : Content). c.pairs) (values l.pages))
