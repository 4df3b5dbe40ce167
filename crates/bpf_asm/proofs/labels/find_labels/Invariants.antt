use Rattle.std.proofs.Common.{◌≡◌, ◌≤◌, ◌*◌, map}
use Rattle.bpf_asm.specs.Views.{view_line}
use Rattle.bpf_asm.specs.Denotes.{units_above}
use Rattle.bpf_asm.specs.Emitted.{IsTableBelow}
use Rattle.bpf_asm.proofs.labels.find_labels.Given as goal

abbrev pub invariant-loop-at : goal.invariant-loop-at
invariant-loop-at g l = record {
  table : IsTableBelow (map view_line l.lines) l.at l.labels;
  same : l.unit ≡ units_above (map view_line l.lines) l.at;
  few : l.unit ≤ 2 * l.at;
}
