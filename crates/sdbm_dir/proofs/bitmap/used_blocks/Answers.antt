use Rattle.std.proofs.Common.{◌*◌, arith}
use Rattle.sdbm_dir.proofs.FileLemmas.{AreDirectoryBytes-take, AreDirectoryBytes-whole}
use Rattle.sdbm_dir.proofs.bitmap.used_blocks.Goals as goal

pub returns-then-uses_last_block : goal.returns-then-uses_last_block
returns-then-uses_last_block c =
    let found = c.uses_last_block.ensures c.if-uses_last_block.true in
    AreDirectoryBytes-whole c.args.bytes.now found.0 c.requires (λ k. omega (arith, c.type_inv.bytes k)) found.1.1 found.1.0

pub returns : goal.returns
returns c =
    AreDirectoryBytes-take c.args.bytes.now c.end_of.result (c.div_ceil-blocks.result * 4096) c.requires (λ k. omega (arith, c.type_inv.bytes k)) c.end_of.ensures
    (omega arith) (omega (arith, c.div_ceil-blocks.ensures)) (omega (arith, c.div_ceil-blocks.ensures))
