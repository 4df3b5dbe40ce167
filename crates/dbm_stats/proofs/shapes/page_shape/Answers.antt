use Rattle.std.proofs.Common.{◌<◌, List, length, subst, sym, ap, ◌∙◌, refl}
use Rattle.sdbm_addr.specs.Pairs.{Content, key_at}
use Rattle.sdbm_files.proofs.LeadLemmas.{some_pair}
use Rattle.dbm_stats.specs.Totals.{totals_of}
use Rattle.dbm_stats.specs.Shapes.{filled}
use Rattle.dbm_stats.proofs.ShapesLemmas.{same_shape, depth_there}
use Rattle.dbm_stats.proofs.shapes.page_shape.Goals as goal

pub key-requires : goal.key-requires
key-requires g c =
    subst (λ (m : Content). 0 < length m.pairs) (sym c.page-page.ensures) (some_pair c.args.page.now.pairs (c.requires.database.pages c.args.number c.args.page.now.pairs c.requires.there).0)

pub returns-clause-shape : goal.returns-clause-shape
returns-clause-shape g c =
    let same = c.page-page.ensures in
    let some = some_pair c.args.page.now.pairs (c.requires.database.pages c.args.number c.args.page.now.pairs c.requires.there).0 in
    same_shape _ _ refl
    (depth_there c.args.image.now c.requires.database c.args.number c.args.page.now.pairs c.key.result.now c.place.result.depth c.requires.there some
    (c.key.ensures ∙ ap (λ (m : Content). key_at m.pairs 0) same) c.place.ensures.depth)
    (c.filled.ensures ∙ ap (λ (m : Content). filled m.pairs) same)
    (c.page_totals.ensures.totals ∙ ap (λ (m : Content). totals_of m.pairs) same)
