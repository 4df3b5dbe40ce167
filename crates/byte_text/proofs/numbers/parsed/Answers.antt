use Rattle.std.proofs.Common.{◌∙◌, ap}
use Rattle.std.specs.Result.{result_ok}
use Rattle.std.proofs.lemmas.Fmt.{parse-decimal}
use Rattle.byte_text.proofs.Decimals.{decimal_is_text}
use Rattle.byte_text.proofs.numbers.parsed.Goals as goal

pub returns-in_default : goal.returns-in_default
returns-in_default c = λ n small is. absurd (c.in_default.ensures.cases.0 (decimal_is_text n c.args.text.now small is))

pub returns : goal.returns
returns c = λ n small is.
    c.ok.ensures.value ∙ ap result_ok (parse-decimal 64 n c.in-Ok.digits.now c.parse.result small small (c.in-Ok.ensures.cases.0 ∙ is) c.parse.ensures.value.0)
