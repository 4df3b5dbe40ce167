use Rattle.std.proofs.Common.{◌≡◌, take}
use Rattle.std.specs.List.{flat_map}
use Rattle.dbm_dump.specs.Texts.{redis_pair}
use Rattle.dbm_dump.proofs.writing.redis_dump.Given as goal

-- the first pairs are written
abbrev pub invariant-loop-pair : goal.invariant-loop-pair
invariant-loop-pair l = l.text.items ≡ flat_map redis_pair (take l.pair-index l.pairs)
