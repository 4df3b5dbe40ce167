use Rattle.std.proofs.Common.{ℕ, get_or, arith, below_more}
use Rattle.std.specs.List.{Contains}
use Rattle.store_marks.proofs.Marked.{more_still, still, each_there}
use Rattle.store_marks.proofs.marks.Marks.add_all.Goals as goal

pub loop-number-preserved : goal.loop-number-preserved
loop-number-preserved c =
    let new = c.add.new.self in
    let was = c.loop-number.invariant in
    record {
      more = more_still c.args.self.now c.loop-number.self new was.more c.in-Ok.ensures.more;
      each = below_more (λ (k : ℕ). Contains new (get_or c.args.numbers.now k 0)) c.loop-number.number-index
          (λ k low. still c.loop-number.self new c.in-Ok.ensures.more (get_or c.args.numbers.now k 0) (was.each k low)) c.in-Ok.ensures.ok;
    }

pub returns-clause-ok : goal.returns-clause-ok
returns-clause-ok c = each_there c.args.numbers.now c.loop-number.self (λ k low. c.loop-number.invariant.each k (omega (arith, low, c.loop-number-test.false)))
