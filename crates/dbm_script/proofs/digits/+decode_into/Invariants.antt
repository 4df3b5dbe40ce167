use Rattle.std.proofs.Common.{length}
use Rattle.dbm_script.proofs.digits.+decode_into.Given as goal

abbrev pub decreases-decode_into : goal.decreases-decode_into
decreases-decode_into l = length l.text.now
