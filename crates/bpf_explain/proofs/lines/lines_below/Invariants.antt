use Rattle.std.proofs.Common.{◌≡◌}
use Rattle.bpf_explain.specs.Lines.{lines_below}
use Rattle.bpf_explain.proofs.lines.lines_below.Given as goal

abbrev pub invariant-loop-at : goal.invariant-loop-at
invariant-loop-at g l = l.lines.items ≡ lines_below l.code l.states l.at
