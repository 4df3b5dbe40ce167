use Rattle.std.proofs.Common.{◌≡◌, ◌≤◌, ◌<◌, ◌∙◌, ◌^◌, Some, None, true, false, sym, arith, rules}
use Rattle.std.proofs.lemmas.Bool.{false≢true}
use Rattle.byte_text.proofs.Decimals.{number_is, refuted, unread}
use Rattle.byte_text.proofs.numbers.read_long.Goals as goal

pub returns-in_err-number-clause-value : goal.returns-in_err-number-clause-value
returns-in_err-number-clause-value c =
    let fits : c.args.most < 2 ^ 64 = search rules in
    let gone : c.parsed.result ≡ None = search rules in
    let left : c.from_residual.result ≡ None = search rules in
    left ∙ unread c.args.most c.args.text.now c.parsed.result fits c.parsed.ensures gone

pub returns-then-number-most-clause-value : goal.returns-then-number-most-clause-value
returns-then-number-most-clause-value c =
    let fits : c.args.most < 2 ^ 64 = search rules in
    let found : c.parsed.result ≡ Some c.in_ok-number.number = search rules in
    let over : c.args.most < c.in_ok-number.number = search rules in
    refuted c.args.most c.args.text.now c.in_ok-number.number c.parsed.result fits c.parsed.ensures found (λ within _. omega arith)

pub returns-then-not-is_decimal_of-clause-value : goal.returns-then-not-is_decimal_of-clause-value
returns-then-not-is_decimal_of-clause-value c =
    let fits : c.args.most < 2 ^ 64 = search rules in
    let found : c.parsed.result ≡ Some c.in_ok-number.number = search rules in
    let no : c.is_decimal_of.result ≡ false = search rules in
    refuted c.args.most c.args.text.now c.in_ok-number.number c.parsed.result fits c.parsed.ensures found (λ _ is. false≢true (sym no ∙ c.is_decimal_of.ensures.1 is))

pub returns-clause-value : goal.returns-clause-value
returns-clause-value c =
    let fits : c.args.most < 2 ^ 64 = search rules in
    let within : c.in_ok-number.number ≤ c.args.most = search rules in
    let yes : c.is_decimal_of.result ≡ true = search rules in
    number_is c.args.most c.args.text.now c.in_ok-number.number (omega arith) within (c.is_decimal_of.ensures.0 yes)
