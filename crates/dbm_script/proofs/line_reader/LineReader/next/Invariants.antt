use Rattle.std.proofs.Common.{◌≡◌, ◌≤◌, ◌+◌, ◌-◌, ◌*◌, false, length}
use Rattle.dbm_script.specs.LineInput.{IsPiece}
use Rattle.dbm_script.proofs.CutTexts.{SameText}
use Rattle.dbm_script.proofs.line_reader.LineReader.next.Given as goal

-- a part of the line was read
abbrev pub invariant-loop-found : goal.invariant-loop-found
invariant-loop-found g l = record {
  is_open : l.self.ended ≡ false;
  was_open : l.fn.self.ended ≡ false;
  piece : IsPiece l.line.items;
  short : length l.line.items ≤ l.fn.most;
  same : SameText l.fn.self.rest (g.R.Read.remaining l.fn.reader) l.line.items l.self.rest (g.R.Read.remaining l.reader);
}

abbrev pub decreases-loop-found : goal.decreases-loop-found
decreases-loop-found g l = 2 * (l.fn.most - length l.line.items) + (1 - length l.self.rest)
