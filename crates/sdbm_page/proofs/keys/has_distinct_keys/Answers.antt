use Rattle.std.proofs.Common.{arith}
use Rattle.sdbm_page.proofs.Apart.{laid_inside, laid_few, laid_apart, laid_keys}
use Rattle.sdbm_page.proofs.keys.has_distinct_keys.Goals as goal

pub are_apart-requires : goal.are_apart-requires
are_apart-requires c = record {
  inside = laid_inside c.args.size c.args.bytes.now c.args.layout.count c.args.layout.low (λ k. omega (arith, c.type_inv.bytes k)) c.requires.long c.requires.layout;
  few = laid_few c.args.size c.args.bytes.now c.args.layout.count c.args.layout.low c.requires.layout;
}

pub returns : goal.returns
returns c = (
  λ t. laid_keys c.args.size c.args.bytes.now c.args.layout.count c.args.layout.low (λ k. omega (arith, c.type_inv.bytes k)) c.requires.long c.requires.layout (c.are_apart.ensures.0 t),
  λ d. c.are_apart.ensures.1 (laid_apart c.args.size c.args.bytes.now c.args.layout.count c.args.layout.low (λ k. omega (arith, c.type_inv.bytes k)) c.requires.long c.requires.layout d),
)
