use Rattle.std.proofs.Common.{◌≡◌, ◌≤◌, ◌+◌, ◌-◌, length, take, drop, refl, sym, ◌∙◌, ap, arith}
use Rattle.sdbm_saves.proofs.Drafts.{block_reads, block_read}
use Rattle.sdbm_saves.proofs.blocks.reads_as.Goals as goal

pub returns-then-at-block : goal.returns-then-at-block
returns-then-at-block c =
    let block = c.args.block.now in
    let on : c.args.at + length block - c.args.at ≡ length block = omega arith in
    let inside : c.args.at + length block ≤ length c.args.old.now = omega (arith, c.if-at-block.true) in (
      λ same. block_reads c.args.at (length block) c.args.old.now inside block refl (ap (λ n. take n (drop c.args.at c.args.old.now)) (sym on) ∙ c.is_same.ensures.0 same),
      λ reads. c.is_same.ensures.1 (ap (λ n. take n (drop c.args.at c.args.old.now)) on ∙ block_read c.args.at (length block) c.args.old.now inside block refl reads),
    )
