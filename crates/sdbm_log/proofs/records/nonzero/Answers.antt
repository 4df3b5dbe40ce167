use Rattle.std.proofs.Common.{ℕ, ◌+◌, take, sym, ◌∙◌, ap, arith}
use Rattle.sdbm_log.specs.Log.{nonzero}
use Rattle.sdbm_log.proofs.Weights.{nonzero_next}
use Rattle.sdbm_log.proofs.records.nonzero.Goals as goal

pub loop-index-preserved : goal.loop-index-preserved
loop-index-preserved c =
    let bytes = c.args.bytes.now in
    let index = c.loop-index.index in
    record {
      so_far = ap (λ (k : ℕ). k + c.nonzero_byte-count.result) c.loop-index.invariant.so_far ∙ ap (λ (k : ℕ). nonzero (take index bytes) + k) c.nonzero_byte-count.ensures.is ∙ sym (nonzero_next index bytes c.loop-index-test.true);
      few = omega (arith, c.loop-index.invariant.few, c.nonzero_byte-count.ensures.small);
    }
