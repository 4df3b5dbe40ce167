use Rattle.std.proofs.Common.{arith}
use Rattle.sdbm_sizes.specs.Sizes.{IsFirstWritten}
use Rattle.sdbm_sizes.proofs.Parts.{first_says, first_denies}
use Rattle.sdbm_sizes.proofs.bytes_look_small.Given as given
use Rattle.sdbm_sizes.proofs.bytes_look_small.Goals as goal

first : (g : given.Over) (c : goal.After-page_looks_small g) → IsFirstWritten c.args.pag.now c.loop-number.number
first g c = record {
  low = omega (arith, c.loop-number-test.true, c.pages_in-number-end.ensures.low);
  inside = omega (arith, c.loop-number-test.true, c.pages_in-number-end.ensures.inside);
  written = c.is_written.ensures.0 c.if-is_written.true;
  below = c.loop-number.invariant;
}

pub returns-then-is_written-clause-is : goal.returns-then-is_written-clause-is
returns-then-is_written-clause-is g c = first_says c.args.kind c.args.dir.now c.args.pag.now c.loop-number.number (first g c) c.page_looks_small.result c.page_looks_small.ensures

pub returns-then-is_written-clause-none : goal.returns-then-is_written-clause-none
returns-then-is_written-clause-none g c = first_denies c.args.kind c.args.dir.now c.args.pag.now c.loop-number.number (first g c) c.page_looks_small.result c.page_looks_small.ensures
