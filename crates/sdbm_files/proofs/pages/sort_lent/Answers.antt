use Rattle.std.proofs.Common.{rules}
use Rattle.std.proofs.lemmas.List.Sorted.{IsPermutation-map, answers_always, ranks_by}
use Rattle.std.specs.Cmp.Lexicographic.{nat_list_cmp_total}
use Rattle.std.specs.Ordering.{is_lt}
use Rattle.sdbm_addr.specs.Pairs.{key_cmp}
use Rattle.sdbm_addr.proofs.SortedPairs.{sorted_entries}
use Rattle.sdbm_files.specs.Lent.{pair_lent}
use Rattle.sdbm_files.proofs.LentLemmas.{sorted_lent}
use Rattle.sdbm_files.proofs.pages.sort_lent.Goals as goal

pub returns : goal.returns
returns g c =
    sorted_entries _ _ c.requires (IsPermutation-map pair_lent _ _ c.sort_unstable_by.ensures.permutation)
    (sorted_lent _ (c.sort_unstable_by.ensures.sorted (λ x y. is_lt (key_cmp x.0.now y.0.now)) (ranks_by nat_list_cmp_total (λ p. p.0.now)) (answers_always _ _ _ (λ f a r q k. search rules))))
