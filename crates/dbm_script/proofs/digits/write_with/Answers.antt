use Rattle.std.proofs.Common.{◌∙◌, ap, List, ℕ, ◌++◌, ◌∷◌, [], slice_index, arith}
use Rattle.dbm_script.proofs.WrittenHex.{written_none, written_more}
use Rattle.dbm_script.proofs.digits.write_with.Goals as goal

pub loop-byte-init : goal.loop-byte-init
loop-byte-init g c = record { room = omega (arith, c.requires.room); written = written_none c.args.table.now c.args.text.now.items }

pub loop-byte-preserved : goal.loop-byte-preserved
loop-byte-preserved g c = record {
  room = omega (arith, c.loop-byte.invariant.room, c.push_reserved.ensures.len, c.push_reserved.ensures.capacity, c.push_reserved-in-loop-byte.ensures.len, c.push_reserved-in-loop-byte.ensures.capacity);
  written = c.push_reserved-in-loop-byte.ensures.items ∙ (ap (λ (xs : List ℕ). xs ++ slice_index c.args.table.now c.from-in-loop-byte.result ∷ []) c.push_reserved.ensures.items
      ∙ written_more c.args.table.now c.args.bytes.now c.args.text.now.items c.loop-byte.text.items c.loop-byte.byte-index c.from.result c.from-in-loop-byte.result c.loop-byte-test.true c.from.ensures c.from-in-loop-byte.ensures c.loop-byte.invariant.written);
}
