use Rattle.std.proofs.Common.{◌≡◌, ◌*◌}
use Rattle.sdbm_addr.specs.Directory.{word_number, hash_prefix}
use Rattle.sdbm_dir.proofs.fours.bit_of_fours.Given as goal

abbrev pub invariant-loop-i : goal.invariant-loop-i
invariant-loop-i l = l.bit ≡ word_number (hash_prefix (4 * l.i) l.hash)
