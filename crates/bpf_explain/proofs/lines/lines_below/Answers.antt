use Rattle.std.proofs.Common.{refl, add-one}
use Rattle.bpf_explain.proofs.lines.lines_below.Goals as goal

pub loop-at-preserved : goal.loop-at-preserved
loop-at-preserved g c = rw (add-one, c.in_ok-push_line.ensures, c.loop-at.invariant, c.line_at.ensures) refl
