use Rattle.std.proofs.Common.{◌≡◌, ◌++◌, take, length}
use Rattle.std.specs.List.{All, flat_map}
use Rattle.dbm_dump.specs.Reading.{AreBytePair}
use Rattle.dbm_dump.specs.Texts.{plain_header, dump_pair_line}
use Rattle.dbm_dump.proofs.writing.plain_dump.Given as goal

-- the first pairs are written
abbrev pub invariant-loop-pair : goal.invariant-loop-pair
invariant-loop-pair l = record {
  written : l.text.items ≡ plain_header l.fn.kind l.fn.size (length l.pairs) ++ flat_map dump_pair_line (take l.pair-index l.pairs);
  good : All AreBytePair (take l.pair-index l.pairs);
}
