use Rattle.std.proofs.Common.{length}
use Rattle.byte_text.proofs.bare.+show_parts.Given as goal

abbrev pub decreases-show_parts : goal.decreases-show_parts
decreases-show_parts g l = length l.kinds.now
