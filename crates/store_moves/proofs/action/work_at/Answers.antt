use Rattle.store_moves.proofs.Acting.{workable}
use Rattle.store_moves.proofs.action.work_at.Goals as goal

pub work_on-requires-clause-may : goal.work_on-requires-clause-may
work_on-requires-clause-may g c =
    workable c.args.image.now c.requires.database c.args.place c.key_bytes-kind.result c.page_size-size.result _ c.args.command.now c.requires.keyed c.requires.small c.key_bytes-kind.ensures c.requires.place
    c.page_size-size.ensures c.page_at-page.ensures.pairs
