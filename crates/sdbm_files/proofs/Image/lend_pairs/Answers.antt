use Rattle.std.proofs.Common.{List, ap, ◌∙◌}
use Rattle.std.specs.FinMap as map
use Rattle.sdbm_addr.specs.Pairs.{Pair, Map, key_cmp}
use Rattle.sdbm_addr.specs.Database.{map_of}
use Rattle.sdbm_files.proofs.KeptLemmas.{distinct_all, map_of_all}
use Rattle.sdbm_files.proofs.Image.lend_pairs.Goals as goal

pub sort_lent-requires : goal.sort_lent-requires
sort_lent-requires g c =
    rw c.in_ok-lent.ensures.lent (distinct_all c.self.inside.kind c.self.inside.size c.self.inside.dir.splits c.self.inside.pages.entries c.self.invariant.database c.lend_pairs.ensures.unique)

pub returns-clause-pairs : goal.returns-clause-pairs
returns-clause-pairs g c =
    c.sort_lent.ensures ∙ ap (λ (ps : List Pair). map.entries (map.from_entries {R = key_cmp} ps)) c.in_ok-lent.ensures.lent
    ∙ ap (λ (m : Map). map.entries m) (map_of_all c.self.inside.kind c.self.inside.size c.self.inside.dir.splits c.self.inside.pages.entries c.self.invariant.database c.lend_pairs.ensures.unique)
    ∙ ap (λ db. map.entries (map_of db)) c.self.view_is
