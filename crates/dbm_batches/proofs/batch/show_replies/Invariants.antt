use Rattle.std.proofs.Common.{◌≡◌, take}
use Rattle.std.specs.List.{flat_map}
use Rattle.dbm_batches.specs.Batches.{reply_line}
use Rattle.dbm_batches.proofs.batch.show_replies.Given as goal

-- the first replies are shown
abbrev pub invariant-loop-reply : goal.invariant-loop-reply
invariant-loop-reply l = l.text.items ≡ flat_map (reply_line l.notation) (take l.reply-index l.replies)
