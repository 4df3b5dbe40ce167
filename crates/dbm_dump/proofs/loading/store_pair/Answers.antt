use Rattle.std.proofs.Common.{refl}
use Rattle.dbm_dump.proofs.MorePairs.{crowded, entry_of, head_of, no_other, stores}
use Rattle.dbm_dump.proofs.loading.store_pair.Goals as goal

pub returns-in-Stored-clause-ok : goal.returns-in-Stored-clause-ok
returns-in-Stored-clause-ok c =
    stores c.args.mode c.args.image c.answer_command.new.image _ c.in-Replied.entry c.args.key c.args.value _ c.in_ok-entry.ensures.answer c.in-Replied.is c.in-Stored.is refl

pub returns-in-Exists-clause-ok : goal.returns-in-Exists-clause-ok
returns-in-Exists-clause-ok c =
    stores c.args.mode c.args.image c.answer_command.new.image _ c.in-Replied.entry c.args.key c.args.value _ c.in_ok-entry.ensures.answer c.in-Replied.is c.in-Exists.is refl

pub returns-in-Crowded-clause-fault : goal.returns-in-Crowded-clause-fault
returns-in-Crowded-clause-fault c = (
  refl,
  (
    head_of c.args.key c.as_slice.result.now _ c.as_slice.ensures c.of-head.ensures,
    (
      c.answer_command.new.image,
      crowded c.args.mode c.args.image c.answer_command.new.image _ c.in-Replied.entry c.args.key c.args.value c.in_ok-entry.ensures.answer c.in-Replied.is c.in-Crowded.is,
    ),
  ),
)

pub unreachable-requires : goal.unreachable-requires
unreachable-requires c =
    no_other c.args.mode c.args.image c.answer_command.new.image c.args.key c.args.value c.in-Replied.entry.reply
    (entry_of c.args.mode c.args.image c.answer_command.new.image _ c.in-Replied.entry c.args.key c.args.value c.in_ok-entry.ensures.answer c.in-Replied.is)
    c.in_default.not-Stored c.in_default.not-Exists c.in_default.not-Crowded
