use Rattle.std.proofs.Common.{arith, refl}
use Rattle.sdbm_dir.proofs.FileLemmas.{HasDeepBit-past, HasDeepBit-tested}
use Rattle.sdbm_dir.proofs.bitmap.has_deep_bit.Goals as goal

pub returns-then-end-gt-MOST_BYTES : goal.returns-then-end-gt-MOST_BYTES
returns-then-end-gt-MOST_BYTES c = (λ _. HasDeepBit-past c.args.bytes.now c.args.end (λ k. omega (arith, c.type_inv.bytes k)) c.requires c.if-end-gt-MOST_BYTES.true, λ _. refl)

pub returns : goal.returns
returns c = HasDeepBit-tested c.args.bytes.now c.args.end c.is_set.result c.requires c.if-end-gt-MOST_BYTES.false c.is_set.ensures
