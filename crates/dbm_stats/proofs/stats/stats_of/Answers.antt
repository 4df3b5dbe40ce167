use Rattle.std.proofs.Common.{◌≡◌, ◌≤◌, ◌+◌, ◌-◌, ◌^◌, ℕ, List, length, map as map_list, arith, sym, ap, ◌∙◌, subst}
use Rattle.std.specs.List.{All}
use Rattle.std.specs.FinMap as map
use Rattle.sdbm_dir.proofs.FileLemmas.{AreDirectoryBytes-unique}
use Rattle.dbm_stats.specs.Totals.{AreBelow}
use Rattle.dbm_stats.specs.declared.totals.PageShape.{PageShape}
use Rattle.dbm_stats.proofs.SplitsLemmas.{directory_short}
use Rattle.dbm_stats.proofs.ShapesLemmas.{few_shapes, shapes_rise, bars_is, ten_bars, fullest_is, depths_is, used_is, wide_is, holes_is, count_is}
use Rattle.dbm_stats.proofs.stats.stats_of.Goals as goal

pub all_totals-requires-clause-small : goal.all_totals-requires-clause-small
all_totals-requires-clause-small g c = subst (All (λ (s : PageShape). AreBelow s.totals 8192)) (sym c.as_slice-shapes.ensures.value) c.in_ok-pages.ensures.small

pub all_totals-requires-clause-few : goal.all_totals-requires-clause-few
all_totals-requires-clause-few g c =
    let few = few_shapes c.args.image.now c.page_count-count.ensures.database c.page_count-count.result c.page_count-count.ensures.count c.as_slice-shapes.result.now (c.as_slice-shapes.ensures.value ∙ c.in_ok-pages.ensures.shapes) in
    let most = c.page_count-count.ensures.few in
    omega arith

pub overflow_sub-result : goal.overflow_sub-result
overflow_sub-result g c =
    let few = few_shapes c.args.image.now c.page_count-count.ensures.database c.page_count-count.result c.page_count-count.ensures.count c.as_slice-shapes.result.now (c.as_slice-shapes.ensures.value ∙ c.in_ok-pages.ensures.shapes) in
    omega arith

pub used_of-used-requires : goal.used_of-used-requires
used_of-used-requires g c =
    let few = few_shapes c.args.image.now c.page_count-count.ensures.database c.page_count-count.result c.page_count-count.ensures.count c.as_slice-shapes.result.now (c.as_slice-shapes.ensures.value ∙ c.in_ok-pages.ensures.shapes) in
    let most = c.page_count-count.ensures.few in
    omega arith

pub bars_of-requires : goal.bars_of-requires
bars_of-requires g c =
    let few = few_shapes c.args.image.now c.page_count-count.ensures.database c.page_count-count.result c.page_count-count.ensures.count c.as_slice-shapes.result.now (c.as_slice-shapes.ensures.value ∙ c.in_ok-pages.ensures.shapes) in
    let most = c.page_count-count.ensures.few in
    omega arith

pub fullest_of-requires : goal.fullest_of-requires
fullest_of-requires g c = shapes_rise c.args.image.now c.as_slice-shapes.result.now (c.as_slice-shapes.ensures.value ∙ c.in_ok-pages.ensures.shapes)

pub count_splits-requires : goal.count_splits-requires
count_splits-requires g c = record { short = directory_short c.args.image.now.splits c.directory_bytes-directory.result.now c.directory_bytes-directory.ensures }

pub depths_of-requires : goal.depths_of-requires
depths_of-requires g c =
    let few = few_shapes c.args.image.now c.page_count-count.ensures.database c.page_count-count.result c.page_count-count.ensures.count c.as_slice-shapes.result.now (c.as_slice-shapes.ensures.value ∙ c.in_ok-pages.ensures.shapes) in
    let most = c.page_count-count.ensures.few in
    omega arith

pub returns-clause-stats : goal.returns-clause-stats
returns-clause-stats g c =
    let db = c.args.image.now in
    let ok = c.page_count-count.ensures.database in
    let n = c.page_count-count.result in
    let counted = c.page_count-count.ensures.count in
    let shapes = c.as_slice-shapes.result.now in
    let are = c.as_slice-shapes.ensures.value ∙ c.in_ok-pages.ensures.shapes in
    let few = few_shapes c.args.image.now ok n counted shapes are in
    record {
      pairs = c.all_totals.ensures db (map.entries db.pages) are;
      used = used_is db shapes _ are c.used_of-used.ensures;
      holes = holes_is db n c.used_of-used.result counted (omega arith);
      dir_bytes = λ dir is. ap length (AreDirectoryBytes-unique db.splits _ dir c.directory_bytes-directory.ensures is);
      pag_bytes = λ pag is. c.pag_len.ensures.length pag is;
      wide_bytes = wide_is db ok n c.bytes.result counted c.bytes.ensures;
      bars = bars_is db c.page_size-size.result shapes _ c.page_size-size.ensures are c.in_ok-bars.ensures;
      fullest = fullest_is db c.page_size-size.result shapes _ c.page_size-size.ensures are c.in_ok-fullest.ensures;
      splits = c.count_splits.ensures.count db.splits c.directory_bytes-directory.ensures.spells;
      depths = depths_is db shapes _ are c.depths_of.ensures;
    }

pub returns-clause-count : goal.returns-clause-count
returns-clause-count g c =
    let are = c.as_slice-shapes.ensures.value ∙ c.in_ok-pages.ensures.shapes in
    count_is c.args.image.now c.page_count-count.ensures.database _ (c.all_totals.ensures c.args.image.now (map.entries c.args.image.now.pages) are)

pub returns-clause-tenths : goal.returns-clause-tenths
returns-clause-tenths g c = ten_bars c.page_size-size.result c.as_slice-shapes.result.now _ c.in_ok-bars.ensures
