use Rattle.std.proofs.Common.{◌∙◌, sym, arith}
use Rattle.sdbm_page.proofs.Tailed.{other_tail, first_tells}
use Rattle.sdbm_page.proofs.tails.is_key.Goals as goal

pub returns-then-read_u64-tail : goal.returns-then-read_u64-tail
returns-then-read_u64-tail c = other_tail c.args.bytes.now c.args.key.now c.args.start c.args.end c.args.tail (omega arith) c.requires.tail (λ same. c.if-read_u64-tail.true (c.read_u64.ensures ∙ same))

pub returns : goal.returns
returns c =
    first_tells c.args.bytes.now c.args.key.now c.args.start c.args.end c.args.tail c.read_u64-2.result c.read_u64-3.result (λ k. omega (arith, c.type_inv.bytes k)) c.requires.typed
    c.requires.order c.requires.inside c.if-end-start.false (omega arith) c.requires.tail (sym c.read_u64.ensures ∙ c.if-read_u64-tail.false) c.read_u64-2.ensures c.read_u64-3.ensures
