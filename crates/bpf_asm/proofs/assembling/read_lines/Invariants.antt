use Rattle.std.proofs.Common.{◌≡◌, ◌++◌, map}
use Rattle.std.specs.List.{All}
use Rattle.bpf_asm.specs.Text.{lines}
use Rattle.bpf_asm.specs.Lines.{meaning, HasSpellingIn}
use Rattle.bpf_asm.specs.Views.{view_line}
use Rattle.bpf_asm.proofs.Reading.{lines_left, room_left}
use Rattle.bpf_asm.proofs.assembling.read_lines.Given as goal

abbrev pub invariant-loop-rest : goal.invariant-loop-rest
invariant-loop-rest g l = record {
  value : map meaning (lines l.text) ≡ map view_line l.read.items ++ map meaning (lines_left l.rest);
  spelled : All (λ line. HasSpellingIn (view_line line)) l.read.items;
}

abbrev pub decreases-loop-rest : goal.decreases-loop-rest
decreases-loop-rest g l = room_left l.rest
