use Rattle.std.proofs.Common.{◌≡◌, take}
use Rattle.std.specs.Prelude.{map as map_list}
use Rattle.dbm_dump.specs.Texts.{bare_pair}
use Rattle.dbm_dump.proofs.dump.bare_pairs.Given as goal

-- the first pairs are there
abbrev pub invariant-loop-pair : goal.invariant-loop-pair
invariant-loop-pair l = l.bare.items ≡ map_list (bare_pair l.layout) (take l.pair-index l.pairs)
