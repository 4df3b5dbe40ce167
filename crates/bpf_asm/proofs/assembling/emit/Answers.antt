use Rattle.std.proofs.Common.{map, arith}
use Rattle.std.proofs.lemmas.List.{length-map}
use Rattle.bpf_asm.specs.Views.{view_line}
use Rattle.bpf_asm.proofs.LabelTable.{line_at}
use Rattle.bpf_asm.proofs.Emitting.{emitted_more, emitted_all, refused_line}
use Rattle.bpf_asm.proofs.assembling.emit.Goals as goal

pub returns-in-Err-clause-fault : goal.returns-in-Err-clause-fault
returns-in-Err-clause-fault g c =
    let ms = map view_line c.args.lines.now in
    rw c.at.ensures.kind (refused_line ms c.args.labels.now c.loop-at.at _ c.loop-at.code c.loop-at.invariant c.requires.table (line_at view_line c.args.lines.now c.loop-at.at _ (omega arith)) c.in-Err.kind c.in-Err.ensures.fault)

pub loop-at-preserved : goal.loop-at-preserved
loop-at-preserved g c =
    let ms = map view_line c.args.lines.now in
    emitted_more ms c.args.labels.now c.loop-at.at _ c.loop-at.code c.emit_line.new.code c.loop-at.invariant c.requires.table (line_at view_line c.args.lines.now c.loop-at.at _ (omega arith)) c.in_default.ensures.ok

pub returns-clause-ok : goal.returns-clause-ok
returns-clause-ok g c = emitted_all (map view_line c.args.lines.now) c.args.labels.now c.loop-at.at c.loop-at.code (simp length-map (omega arith)) c.requires.table c.loop-at.invariant
