use Rattle.std.proofs.Common.{arith}
use Rattle.byte_text.proofs.LowBytes.{rest-small}
use Rattle.byte_text.proofs.numbers.+number_from.Goals as goal

pub overflow_mul-result : goal.overflow_mul-result
overflow_mul-result t c =
    let e = c.number_from.ensures in
    let small = rest-small c.args.bytes.now (λ i. let f = c.type_inv.bytes i in omega arith) c.requires in
    omega arith

pub overflow_add-result : goal.overflow_add-result
overflow_add-result t c =
    let e = c.number_from.ensures in
    let f = c.from.ensures in
    let small = rest-small c.args.bytes.now (λ i. let f = c.type_inv.bytes i in omega arith) c.requires in
    omega (arith, c.type_inv.bytes 0)
