use Rattle.std.proofs.Common.{◌≢◌, ℕ, [], subst, sym, eqb}
use Rattle.std.proofs.lemmas.List.Sorted.{All-permutation, Contains-permutation, IsNonDecreasingBy-from_sort}
use Rattle.std.proofs.lemmas.Map.Keys.{IsDistinct-IsPermutation, IsStrictlyIncreasing-from_distinct}
use Rattle.std.specs.List.{All, Contains, IsDistinct}
use Rattle.sdbm_addr.specs.Database.{Database, pairs_at}
use Rattle.sdbm_files.specs.Kept.{database_of}
use Rattle.sdbm_files.proofs.InstallLemmas.{eqb-sym}
use Rattle.sdbm_files.proofs.NumberLemmas.{numbers_cover, numbers_only}
use Rattle.sdbm_files.proofs.Image.page_numbers.Goals as goal

pub returns-clause-covers : goal.returns-clause-covers
returns-clause-covers g c =
    let a = c.self.inside in
    subst (λ (db : Database). (n : ℕ) → pairs_at db n ≢ [] → Contains c.sort_unstable.new.self.items n) c.self.view_is (λ n some.
    Contains-permutation c.in_ok-numbers.numbers.items _ n c.sort_unstable.ensures.permutation
    (subst (λ ns. Contains ns n) (sym c.in_ok-numbers.ensures.copy) (numbers_cover a.kind a.size a.dir.splits a.pages.entries n some)))

pub returns-clause-only : goal.returns-clause-only
returns-clause-only g c =
    let a = c.self.inside in
    let has : ℕ → Type 0 = λ n. pairs_at (database_of a.kind a.size a.dir.splits a.pages.entries) n ≢ [] in
    subst (λ (db : Database). All (λ (n : ℕ). pairs_at db n ≢ []) c.sort_unstable.new.self.items) c.self.view_is
    (All-permutation has c.in_ok-numbers.numbers.items _ c.sort_unstable.ensures.permutation
    (subst (All has) (sym c.in_ok-numbers.ensures.copy) (numbers_only a.kind a.size a.dir.splits a.pages.entries c.self.invariant.database)))

pub returns-clause-ascending : goal.returns-clause-ascending
returns-clause-ascending g c =
    IsStrictlyIncreasing-from_distinct _ (IsNonDecreasingBy-from_sort (λ n. n) _ c.sort_unstable.ensures.sorted)
    (IsDistinct-IsPermutation eqb eqb-sym c.in_ok-numbers.numbers.items _ c.sort_unstable.ensures.permutation
    (subst (IsDistinct eqb) (sym c.in_ok-numbers.ensures.copy) c.copy_numbers.ensures.unique))
