use Rattle.std.proofs.Common.{◌≡◌, ◌≤◌, ◌++◌, List, [], ℕ, length, Option}
use Rattle.dbm_script.specs.Pieces.{pieces_of, pieces_left}
use Rattle.dbm_script.specs.Images.{ImageVerdict}
use Rattle.dbm_script.specs.Script.{RunsLines, stage}
use Rattle.dbm_script.proofs.script.run_lines.Given as goal

-- some lines are done, and the rest are left
abbrev pub invariant-loop-rest : goal.invariant-loop-rest
invariant-loop-rest g l = record {
  done : List (List ℕ);
  lines : done ++ pieces_left 10 l.rest ≡ pieces_of 10 l.input;
  told : List (Option ImageVerdict);
  ran : RunsLines g.row.A.Denot l.notation (stage l.fn.image []) done told l.text.items (stage l.image l.registry.programs);
  short : length l.text.items ≤ l.most;
  kind : l.image.kind ≡ l.fn.image.kind;
  size : l.image.size ≡ l.fn.image.size;
}

abbrev pub decreases-loop-rest : goal.decreases-loop-rest
decreases-loop-rest g l = length (pieces_left 10 l.rest)
