use Rattle.std.proofs.Common.{◌≡◌}
use Rattle.dbm_script.specs.Script.{stage}
use Rattle.dbm_script.specs.LineInput.{lines_left}
use Rattle.store_marks.specs.Noted.{AreNoted}
use Rattle.dbm_session.proofs.Turns.{AllProgress}
use Rattle.dbm_session.proofs.running.run_session.Given as goal

-- some lines are answered, if the bytes are known
abbrev pub invariant-loop-count : goal.invariant-loop-count
invariant-loop-count g l = record {
  known : AllProgress l.fn.notation l.fn.image (g.R.Read.remaining l.fn.reader) l.count (lines_left l.lines (g.R.Read.remaining l.reader)) (g.W.Write.contents l.fn.writer) (g.W.Write.contents l.writer)
      (g.H.Host.log l.fn.host) (g.H.Host.log l.host) (stage l.session.image l.session.registry.programs);
  kind : l.session.image.kind ≡ l.fn.image.kind;
  size : l.session.image.size ≡ l.fn.image.size;
  noted : AreNoted (g.H.Host.saved l.host) l.session.changes l.session.image;
}
