use Rattle.std.proofs.Common.{◌<◌, ◌^◌, ⊎_elim, arith, rules}
use Rattle.byte_text.proofs.OneDigit.{digit_above, digit_is, no_digit}
use Rattle.byte_text.proofs.numbers.read_digit.Goals as goal

pub returns-then-digit-lt48-clause-value : goal.returns-then-digit-lt48-clause-value
returns-then-digit-lt48-clause-value c =
    let fits : c.args.most < 2 ^ 64 = search rules in
    no_digit c.args.most c.args.digit fits (λ low high. ⊎_elim (λ below. omega arith) (λ parts. omega (arith, parts.1)) c.then-digit-lt48.either)

pub returns-then-number-most-clause-value : goal.returns-then-number-most-clause-value
returns-then-number-most-clause-value c =
    digit_above c.args.most c.args.digit c.from-number.result (omega (arith, c.from-number.ensures)) (omega (arith, c.from-number.ensures)) c.if-number-most.true

pub returns-clause-value : goal.returns-clause-value
returns-clause-value c =
    digit_is c.args.most c.args.digit c.from-number.result (omega (arith, c.from-number.ensures)) (omega (arith, c.from-number.ensures)) c.if-number-most.false
