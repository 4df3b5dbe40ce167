use Rattle.std.proofs.Common.{◌≡◌, ◌<◌}
use Rattle.dbm_script.specs.LineInput.{lines_left}
use Rattle.dbm_dump.proofs.Progress.{AllProgress}
use Rattle.dbm_dump.proofs.loading.load_pairs.Given as goal

-- some lines are done, if the bytes are known
abbrev pub invariant-loop-number : goal.invariant-loop-number
invariant-loop-number g l = record {
  known : AllProgress l.fn.start l.fn.mode l.fn.image (g.R.Read.remaining l.fn.reader) l.number (lines_left l.lines (g.R.Read.remaining l.reader)) l.loading;
  few : l.loading.count < l.number;
  kind : l.loading.image.kind ≡ l.fn.image.kind;
  size : l.loading.image.size ≡ l.fn.image.size;
}
