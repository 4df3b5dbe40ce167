use Rattle.std.proofs.Common.{◌*◌, true, false, arith}
use Rattle.sdbm_addr.proofs.DirectoryLemmas.{child_fits, child_number}
use Rattle.sdbm_dir.proofs.WalkLemmas.{tested, few, split_before}
use Rattle.sdbm_dir.proofs.Dir.place.Goals as goal

pub child-next-requires : goal.child-next-requires
child-next-requires g c =
    let here = tested c.args.self.now.splits _ _ c.is_split.result true c.bit_of_fours-bit.ensures c.is_split.ensures.value c.if-is_split.true in
    child_fits (4 * c.min-fours.result) c.args.hash c.bit_of_fours-bit.result (few c.args.self.now.splits (4 * c.min-fours.result) c.args.hash c.is_split.ensures.directory here) c.bit_of_fours-bit.ensures

pub place_below-requires-clause-number : goal.place_below-requires-clause-number
place_below-requires-clause-number g c =
    child_number (4 * c.min-fours.result) c.args.hash c.bit_of_fours-bit.result c.child-next.result c.bit_of_fours-bit.ensures c.child-next.ensures

pub place_below-requires-clause-above : goal.place_below-requires-clause-above
place_below-requires-clause-above g c =
    let here = tested c.args.self.now.splits _ _ c.is_split.result true c.bit_of_fours-bit.ensures c.is_split.ensures.value c.if-is_split.true in
    λ k l. split_before c.args.self.now.splits c.is_split.ensures.directory k (4 * c.min-fours.result) c.args.hash (omega arith) here

pub place_above-requires-clause-unsplit : goal.place_above-requires-clause-unsplit
place_above-requires-clause-unsplit g c = tested c.args.self.now.splits _ _ c.is_split.result false c.bit_of_fours-bit.ensures c.is_split.ensures.value c.if-is_split.false
