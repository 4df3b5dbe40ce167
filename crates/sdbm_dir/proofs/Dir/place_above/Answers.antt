use Rattle.std.proofs.Common.{◌-◌, true, false, arith}
use Rattle.sdbm_dir.proofs.WalkLemmas.{tested, split_before, parent_number}
use Rattle.sdbm_dir.proofs.Dir.place_above.Goals as goal

pub overflow_sub-parent : goal.overflow_sub-parent
overflow_sub-parent g c = (parent_number c.loop-depth.depth (c.loop-depth.depth - 1) c.args.hash c.loop-depth.bit (omega arith) c.loop-depth.invariant.number).0

pub place_at-requires-clause-depth : goal.place_at-requires-clause-depth
place_at-requires-clause-depth g c =
    let parent = parent_number c.loop-depth.depth (c.loop-depth.depth - 1) c.args.hash c.loop-depth.bit (omega arith) c.loop-depth.invariant.number in
    let split = tested c.args.self.now.splits _ _ c.is_split.result true parent.1 c.is_split.ensures.value c.if-is_split.true in
    record {
      leaf = c.loop-depth.invariant.unsplit;
      above = λ k l. split_before c.args.self.now.splits c.requires.directory k (c.loop-depth.depth - 1) c.args.hash (omega arith) split;
    }

pub loop-depth-preserved : goal.loop-depth-preserved
loop-depth-preserved g c =
    let parent = parent_number c.loop-depth.depth (c.loop-depth.depth - 1) c.args.hash c.loop-depth.bit (omega arith) c.loop-depth.invariant.number in
    record {
      number = parent.1;
      shallow = omega arith;
      unsplit = tested c.args.self.now.splits _ _ c.is_split.result false parent.1 c.is_split.ensures.value c.if-is_split.false;
    }
