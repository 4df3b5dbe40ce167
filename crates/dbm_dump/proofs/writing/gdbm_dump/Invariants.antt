use Rattle.std.proofs.Common.{◌≡◌, ◌++◌, take}
use Rattle.std.specs.List.{All, flat_map}
use Rattle.dbm_dump.specs.Reading.{IsGood}
use Rattle.dbm_dump.specs.Texts.{gdbm_header, gdbm_pair}
use Rattle.dbm_dump.proofs.writing.gdbm_dump.Given as goal

-- the first pairs are written
abbrev pub invariant-loop-pair : goal.invariant-loop-pair
invariant-loop-pair l = record {
  written : l.text.items ≡ gdbm_header ++ flat_map gdbm_pair (take l.pair-index l.pairs);
  good : All IsGood (take l.pair-index l.pairs);
}
