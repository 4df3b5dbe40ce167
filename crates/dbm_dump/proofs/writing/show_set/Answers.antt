use Rattle.std.proofs.lemmas.Result.{on_ok_weaker}
use Rattle.dbm_dump.specs.Texts.{bulk, set_front}
use Rattle.dbm_dump.proofs.MoreTexts.{three}
use Rattle.dbm_dump.proofs.writing.show_set.Goals as goal

pub returns : goal.returns
returns c =
    on_ok_weaker c.show_bulk-2.result
    (λ last. three c.args.text.now.items _ _ _ set_front (bulk c.args.key.now) (bulk c.args.value.now) c.in_ok-extend_from_slice.ensures.items c.in_ok-show_bulk.ensures last)
    c.show_bulk-2.ensures
