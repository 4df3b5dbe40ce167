use Rattle.std.proofs.Common.{rules, refl}
use Rattle.std.specs.Prelude.{FitsSigned}
use Rattle.std.specs.Int.{w64}
use Rattle.std.proofs.lemmas.Int.{to_z-of_z}
use Rattle.bpf_flow.proofs.Accesses.{accessed}
use Rattle.bpf_flow.proofs.memory.inside.Goals as goal

pub returns-then-offsets_fit : goal.returns-then-offsets_fit
returns-then-offsets_fit c = λ d i f.
    let a : FitsSigned w64 c.args.place.lo = search rules in
    let b : FitsSigned w64 c.args.place.hi = search rules in
    let o : FitsSigned w64 c.args.offset = search rules in
    let s : FitsSigned w64 c.first_of-first.result = search rules in
    let t : FitsSigned w64 c.last_of-last.result = search rules in
    let n : FitsSigned w64 c.signed-count.result = search rules in
    let p = simp to_z-of_z at (c.if-offsets_fit.ensures refl) in
    let q = rw c.signed-count.ensures at p.1 in
    accessed d c.args.place.region c.args.place.lo c.args.place.hi c.args.offset c.first_of-first.result c.last_of-last.result c.args.size c.first_of-first.ensures (c.last_of-last.ensures d i f) p.0 q
