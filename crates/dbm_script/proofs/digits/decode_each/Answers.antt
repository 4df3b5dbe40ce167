use Rattle.std.proofs.Common.{◌+◌, ◌*◌, ⊎_elim, slice_index, arith}
use Rattle.dbm_script.proofs.DigitLemmas.{pair_ok, pair_high, pair_low, refused}
use Rattle.hex.proofs.Pairs.{decode_step, decode_done}
use Rattle.dbm_script.proofs.digits.decode_each.Goals as goal

pub returns-then-high-gt15-clause-none : goal.returns-then-high-gt15-clause-none
returns-then-high-gt15-clause-none c = λ _.
    let text = c.args.text.now in
    let i = c.bytes.i in
    let a = slice_index text (2 * i) in
    let b = slice_index text (2 * i + 1) in
    ⊎_elim
    (λ large. refused text c.bytes.out i _ (omega arith) (pair_high a b (2 * i) c.value-high.result c.value-high.ensures large) c.bytes.invariant)
    (λ parts. refused text c.bytes.out i _ (omega arith) (pair_low a b (2 * i) c.value-high.result c.value-low.result c.value-high.ensures c.value-low.ensures parts.0 parts.1) c.bytes.invariant)
    c.then-high-gt15.either

pub bytes-preserved : goal.bytes-preserved
bytes-preserved c =
    let text = c.args.text.now in
    let i = c.bytes.i in
    let pair = pair_ok (slice_index text (2 * i)) (slice_index text (2 * i + 1)) (2 * i) c.value-high.result c.value-low.result c.value-high.ensures c.value-low.ensures c.if-high-gt15.false c.if-low-gt15.false in
    decode_step text c.bytes.out i _ (omega arith) (omega arith) pair c.bytes.invariant

pub returns-clause-bytes : goal.returns-clause-bytes
returns-clause-bytes c = λ _. decode_done _ c.bytes.out c.bytes.i (omega arith) (omega arith) c.bytes.invariant
