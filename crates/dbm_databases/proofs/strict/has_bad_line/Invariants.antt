use Rattle.std.proofs.Common.{◌≡◌, length}
use Rattle.std.specs.List.{list_any}
use Rattle.dbm_script.specs.Pieces.{pieces_left, pieces_of}
use Rattle.dbm_databases.specs.Playing.{is_bad_line}
use Rattle.dbm_databases.proofs.strict.has_bad_line.Given as goal

-- the remaining lines decide
abbrev pub invariant-loop-rest : goal.invariant-loop-rest
invariant-loop-rest l = record {
  left : list_any (is_bad_line l.notation) (pieces_left 10 l.rest) ≡ list_any (is_bad_line l.notation) (pieces_of 10 l.script);
}

abbrev pub decreases-loop-rest : goal.decreases-loop-rest
decreases-loop-rest l = length (pieces_left 10 l.rest)
