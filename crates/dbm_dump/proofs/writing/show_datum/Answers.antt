use Rattle.std.proofs.Common.{◌∙◌, sym}
use Rattle.dbm_dump.proofs.MoreTexts.{datum_empty}
use Rattle.dbm_dump.proofs.writing.show_datum.Goals as goal

pub returns-then-is_empty-clause-text : goal.returns-then-is_empty-clause-text
returns-then-is_empty-clause-text c =
    datum_empty c.args.text.now.items _ _ _ c.args.bytes.now (sym c.is_empty.ensures ∙ c.if-is_empty.true) c.in_ok-extend_from_slice.ensures.items c.in_ok-show_number.ensures c.in_ok-push.ensures.items
