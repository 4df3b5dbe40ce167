use Rattle.std.proofs.Common.{◌≡◌, ◌++◌, length, map}
use Rattle.std.specs.List.{join_with_byte}
use Rattle.dbm_script.specs.Pieces.{pieces_left}
use Rattle.dbm_script.specs.Shorthand.{spelled_text, spelled_line}
use Rattle.dbm_script.proofs.shorthand.spell_out.Given as goal

-- the first lines are expanded, and the rest are left
abbrev pub invariant-loop-rest : goal.invariant-loop-rest
invariant-loop-rest g l = l.text.items ++ join_with_byte 10 (map (spelled_line l.lines l.time) (pieces_left 10 l.rest)) ≡ spelled_text l.lines l.time l.input

abbrev pub decreases-loop-rest : goal.decreases-loop-rest
decreases-loop-rest g l = length (pieces_left 10 l.rest)
