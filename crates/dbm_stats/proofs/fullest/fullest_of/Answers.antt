use Rattle.std.proofs.Common.{rules, List, subst, sym}
use Rattle.std.proofs.lemmas.List.Sorted.{answers_always, ties_still_rise, IsNonDecreasingBy-from_sort_by_key}
use Rattle.std.specs.List.Sorted.{IsPermutation}
use Rattle.dbm_stats.specs.declared.fullest.PageRoom.{PageRoom}
use Rattle.dbm_stats.proofs.ShapesLemmas.{rooms_rise}
use Rattle.dbm_stats.proofs.fullest.fullest_of.Goals as goal

pub returns : goal.returns
returns g c = record {
  sorted = c.sort_by_key.new.self.items;
  same = subst (λ (rs : List PageRoom). IsPermutation rs c.sort_by_key.new.self.items) c.in_ok-rooms.ensures c.sort_by_key.ensures.permutation;
  rising = IsNonDecreasingBy-from_sort_by_key (λ (r : PageRoom). r.free) _ c.in_ok-sort_by_key.ensures.sorted (λ a r q k. search rules);
  ties = ties_still_rise (λ (r : PageRoom). r.number) (λ (r : PageRoom). r.free) _ _ (rooms_rise c.args.size c.args.shapes.now _ c.in_ok-rooms.ensures c.requires)
      (c.sort_by_key.ensures.stable (λ (r : PageRoom). r.free) (answers_always _ _ _ (λ f a r g h. search rules)));
  first = c.truncate.ensures.items;
}
