use Rattle.std.proofs.Common.{◌≡◌, ◌≤◌, true, false, arith}
use borrow.Author.Count.{below_more}
use Rattle.std.specs.FinSet as set
use Rattle.sdbm_addr.specs.Directory.{hash_prefix}
use Rattle.sdbm_addr.proofs.DirectoryLemmas.{child_fits, child_number}
use Rattle.sdbm_dir.proofs.WalkLemmas.{tested, few}
use Rattle.sdbm_dir.proofs.Dir.place_below.Goals as goal

pub child-bit-requires : goal.child-bit-requires
child-bit-requires g c =
    let here = tested c.args.self.now.splits c.loop-bit.bit _ c.is_split.result true c.loop-bit.invariant.number c.is_split.ensures.value c.loop-bit-test.true in
    child_fits c.loop-bit.depth c.args.hash c.loop-bit.bit (few c.args.self.now.splits c.loop-bit.depth c.args.hash c.is_split.ensures.directory here) c.loop-bit.invariant.number

pub loop-bit-smaller : goal.loop-bit-smaller
loop-bit-smaller g c =
    let here = tested c.args.self.now.splits c.loop-bit.bit _ c.is_split.result true c.loop-bit.invariant.number c.is_split.ensures.value c.loop-bit-test.true in
    let shallow : c.loop-bit.depth ≤ 30 = few c.args.self.now.splits c.loop-bit.depth c.args.hash c.is_split.ensures.directory here in
    omega arith

pub loop-bit-preserved : goal.loop-bit-preserved
loop-bit-preserved g c =
    let here = tested c.args.self.now.splits c.loop-bit.bit _ c.is_split.result true c.loop-bit.invariant.number c.is_split.ensures.value c.loop-bit-test.true in
    let shallow : c.loop-bit.depth ≤ 30 = few c.args.self.now.splits c.loop-bit.depth c.args.hash c.is_split.ensures.directory here in
    record {
      number = child_number c.loop-bit.depth c.args.hash c.loop-bit.bit c.child-bit.result c.loop-bit.invariant.number c.child-bit.ensures;
      shallow = omega arith;
      above = below_more (λ k. set.contains c.args.self.now.splits (hash_prefix k c.args.hash) ≡ true) c.loop-bit.depth c.loop-bit.invariant.above here;
    }

pub place_at-requires-clause-depth : goal.place_at-requires-clause-depth
place_at-requires-clause-depth g c = record {
  leaf = tested c.args.self.now.splits c.loop-bit.bit _ c.is_split.result false c.loop-bit.invariant.number c.is_split.ensures.value c.loop-bit-test.false;
  above = c.loop-bit.invariant.above;
}
