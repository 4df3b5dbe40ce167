use Rattle.std.proofs.Common.{◌≡◌, ℕ, ◌<◌, get_or, ◌∙◌, arith, length-set}
use Rattle.sdbm_page.specs.Keys.{key_of}
use Rattle.sdbm_page.proofs.InOrder.{Slice, stored_next, apart_from_unlike, unlike_from_apart, unlike_moved, unlike_before}
use Rattle.sdbm_page.proofs.sorted.are_apart_sorted.Goals as goal

pub loop-i-preserved : goal.loop-i-preserved
loop-i-preserved c =
    let long = c.loop-i.invariant.0 in (
      length-set c.loop-i.room c.loop-i.i c.key_in.result ∙ long,
      stored_next c.args.bytes.now c.loop-i.room c.key_in.result c.loop-i.i (omega arith) c.key_in.ensures c.loop-i.invariant.1,
    )

pub returns : goal.returns
returns c =
    let bytes = c.args.bytes.now in
    let room = c.loop-i.room in
    let count = c.args.count in
    let moved = c.sort_unstable.ensures.permutation in
    let stored : (k : ℕ) (d : Slice) → k < count → (get_or room k d).now ≡ key_of bytes k = λ k d h. c.loop-i.invariant.1 k d (omega arith) in (
      λ yes. apart_from_unlike bytes room count (omega arith) stored (unlike_before _ _ moved (c.neighbors_differ.ensures.0 yes)),
      λ h. c.neighbors_differ.ensures.1 (unlike_moved _ _ moved (unlike_from_apart bytes room count (omega arith) stored h)),
    )
