use Rattle.std.proofs.Common.{length}
use Rattle.byte_text.proofs.json_values.+write_parts.Given as goal

abbrev pub decreases-write_parts : goal.decreases-write_parts
decreases-write_parts g l = length l.kinds.now
