use Rattle.std.proofs.Common.{map, arith, refl}
use Rattle.std.proofs.lemmas.List.{length-map}
use Rattle.bpf_asm.specs.Views.{view_line}
use Rattle.bpf_asm.proofs.LabelTable.{table_more, table_whole, line_at}
use Rattle.bpf_asm.proofs.Yielding.{units_above_more}
use Rattle.bpf_asm.proofs.labels.find_labels.Goals as goal

pub loop-at-preserved : goal.loop-at-preserved
loop-at-preserved g c =
    let ms = map view_line c.args.lines.now in
    let e = line_at view_line c.args.lines.now c.loop-at.at _ (omega arith) in
    record {
      table = table_more ms c.loop-at.at _ c.loop-at.labels c.record_line.new.labels _ e refl c.loop-at.invariant.same c.loop-at.invariant.table c.in_ok-record_line.ensures;
      same = omega (arith, units_above_more ms c.loop-at.at _ e, c.loop-at.invariant.same, c.line_units-unit.ensures.value);
      few = omega arith;
    }

pub returns : goal.returns
returns g c = table_whole (map view_line c.args.lines.now) c.loop-at.at c.loop-at.labels (simp length-map (omega arith)) c.loop-at.invariant.table
