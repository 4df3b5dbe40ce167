use Rattle.std.proofs.Common.{◌≡◌, ◌∙◌, ◌+◌, ◌<◌, ap, arith, length}
use Rattle.hex.specs.Hex.{hex_digit_value}
use Rattle.dbm_script.proofs.DigitLemmas.{value_in}
use Rattle.dbm_script.proofs.digits.look_up.Goals as goal

pub returns : goal.returns
returns c =
    let within : c.from.result < length c.args.table.now = omega (arith, c.told-table, c.from.ensures) in
    let same : 0 + c.from.result ≡ c.args.digit = omega (arith, c.from.ensures) in
    value_in c.args.table.now 0 c.from.result c.requires within ∙ ap hex_digit_value same
