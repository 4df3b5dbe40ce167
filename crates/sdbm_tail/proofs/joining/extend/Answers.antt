use Rattle.std.proofs.Common.{◌≡◌, ◌+◌, ◌-◌, List, ℕ, ◌++◌, length, take, drop, sym, ◌∙◌, ap, arith, length-drop}
use Rattle.std.proofs.lemmas.List.{take_all, length-take-le}
use Rattle.sdbm_saves.specs.Disk.{written}
use Rattle.sdbm_saves.specs.Drafts.{spelled}
use Rattle.sdbm_saves.specs.Redo.{count_of}
use Rattle.sdbm_saves.proofs.Lists.{length-written}
use Rattle.sdbm_tail.proofs.InRooms.{front_and_more, front_kept}
use Rattle.sdbm_tail.proofs.joining.extend.Goals as goal

pub returns-clause-joined : goal.returns-clause-joined
returns-clause-joined c =
    let next : List ℕ = c.args.next.now in
    let room : List ℕ = c.args.room.now in
    let n : ℕ = c.args.len in
    let more : List ℕ = drop 28 next in
    let long : length more ≡ length next - 28 = length-drop 28 next in
    let file : c.write_in.new.file ≡ written n more room = c.write_in.ensures ∙ ap (λ (l : List ℕ). written n l room) (take_all (length next - 28) more (omega (arith, long))) in
    let inside : n + length more ≡ n + (length next - 28) = omega (arith, long) in
    let front : take n c.write_in.new.file ≡ take n room = ap (λ (l : List ℕ). take n l) file ∙ front_kept n more room (omega (arith, c.requires.fits)) in
    let with_head : List ℕ → List ℕ = λ first. written 8 (take 8 (drop 8 next)) (written 24 (spelled (count_of first + count_of next)) first) in
    let head : c.join_heads.new.plan ≡ with_head (take n room) = c.join_heads.ensures ∙ ap with_head front in
    let first : length (take n room) ≡ n = length-take-le n room (omega (arith, c.requires.fits)) in
    let eight : length (take 8 (drop 8 next)) ≡ 8 = length-take-le 8 (drop 8 next) (omega (arith, length-drop 8 next, c.requires.next)) in
    let second : length (written 24 (spelled (count_of (take n room) + count_of next)) (take n room)) ≡ n = length-written 24 (spelled (count_of (take n room) + count_of next)) (take n room) (omega (arith, first, c.requires.first)) ∙ first in
    let head_long : length (with_head (take n room)) ≡ n =
    length-written 8 (take 8 (drop 8 next)) (written 24 (spelled (count_of (take n room) + count_of next)) (take n room)) (omega (arith, eight, second, c.requires.first)) ∙ second in
    ap (λ k. take k (c.join_heads.new.plan ++ drop n c.write_in.new.file)) (sym inside)
    ∙ ap (λ (l : List ℕ). take (n + length more) (c.join_heads.new.plan ++ drop n l)) file
    ∙ ap (λ (l : List ℕ). take (n + length more) (l ++ drop n (written n more room))) head
    ∙ front_and_more n (with_head (take n room)) more room head_long (omega (arith, inside, c.requires.fits))
