use Rattle.std.proofs.Common.{◌≡◌, ◌*◌, length, arith, sym, ap, ◌∙◌}
use Rattle.std.specs.FinSet as set
use Rattle.sdbm_addr.specs.Directory.{word_cmp}
use Rattle.sdbm_dir.specs.Bitmap.{splits_below}
use Rattle.dbm_stats.proofs.SplitsLemmas.{all_bits}
use Rattle.dbm_stats.proofs.splits.count_splits.Goals as goal

pub loop-index-init : goal.loop-index-init
loop-index-init c = record { same = sym (set.len-empty word_cmp); few = omega arith }

pub returns : goal.returns
returns c =
    let end : c.loop-index.index ≡ length c.args.bytes.now = omega arith in
    record { count = λ d spells. c.loop-index.invariant.same ∙ ap (λ i. set.len (splits_below c.args.bytes.now (8 * i))) end ∙ all_bits c.args.bytes.now d spells }
