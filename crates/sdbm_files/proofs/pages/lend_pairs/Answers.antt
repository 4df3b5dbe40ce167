use Rattle.std.proofs.Common.{◌++◌, sym, ap, ◌∙◌, List, append_assoc}
use Rattle.std.specs.List.{flat_map}
use Rattle.sdbm_addr.specs.Pairs.{Content, Pair}
use Rattle.sdbm_files.specs.Lent.{pairs_lent}
use Rattle.sdbm_files.proofs.pages.lend_pairs.Goals as goal

pub loop-page-preserved : goal.loop-page-preserved
loop-page-preserved g c =
    let all : List Content → List Pair = flat_map (λ (x : Content). x.pairs) in
    let rest : List Content = c.next.new.self in
    let lent : List Pair = pairs_lent c.loop-page.lent.items in (
      tt,
      tt,
      ap (λ (ps : List Pair). ps ++ all rest) (c.in_ok-lend_page.ensures ∙ ap (λ (x : Content). lent ++ x.pairs) c.page.ensures)
          ∙ append_assoc lent c.in-Some.page.now.pairs (all rest) ∙ ap (λ (xs : List Content). lent ++ all xs) (sym c.in-Some.ensures.steps) ∙ c.loop-page.invariant.2,
    )
