use Rattle.byte_text.proofs.Cuts.{cut_starts}
use Rattle.byte_text.proofs.parts.cut_part.Goals as goal

pub loop-at-init : goal.loop-at-init
loop-at-init c = cut_starts c.args.text.now
