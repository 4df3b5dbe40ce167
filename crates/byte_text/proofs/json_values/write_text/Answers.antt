use Rattle.std.proofs.Common.{◌≡◌, true, false, rules}
use Rattle.std.proofs.lemmas.Bool.{false_from_ne_true}
use Rattle.std.proofs.lemmas.Str.{IsUtf8-from_is_utf8, is_utf8-from_IsUtf8}
use Rattle.std.specs.Str.{is_utf8}
use Rattle.byte_text.proofs.json_values.write_text.Goals as goal

pub returns-in-Ok-clause-tokens : goal.returns-in-Ok-clause-tokens
returns-in-Ok-clause-tokens g c =
    let bytes = c.args.bytes.now in
    let is : is_utf8 bytes ≡ true = is_utf8-from_IsUtf8 bytes c.in-Ok.ensures.cases.1 in
    search rules

pub returns-in-Err-clause-tokens : goal.returns-in-Err-clause-tokens
returns-in-Err-clause-tokens g c =
    let bytes = c.args.bytes.now in
    let is : is_utf8 bytes ≡ false = false_from_ne_true (is_utf8 bytes) (λ good. c.in-Err.ensures.cases.0 (IsUtf8-from_is_utf8 bytes good)) in
    search rules
