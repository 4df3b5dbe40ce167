use Rattle.std.proofs.Common.{◌≡◌, ◌++◌, List, ℕ, length}
use Rattle.dbm_script.specs.Pieces.{pieces_of, pieces_left}
use Rattle.dbm_script.specs.Tasks.{AskTasks}
use Rattle.dbm_script.proofs.tasks.read_tasks.Given as goal

-- some lines are valid tasks or empty, and the rest are left
abbrev pub invariant-loop-rest : goal.invariant-loop-rest
invariant-loop-rest g l = record {
  done : List (List ℕ);
  lines : done ++ pieces_left 10 l.rest ≡ pieces_of 10 l.input;
  counted : l.number ≡ length done;
  asked : AskTasks g.row.A.Denot l.notation done l.tasks.items;
}

abbrev pub decreases-loop-rest : goal.decreases-loop-rest
decreases-loop-rest g l = length (pieces_left 10 l.rest)
