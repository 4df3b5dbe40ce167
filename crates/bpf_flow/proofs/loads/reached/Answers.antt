use Rattle.std.proofs.Common.{rules}
use Rattle.std.specs.Prelude.{FitsSigned}
use Rattle.std.specs.Int.{w16, w64}
use Rattle.std.proofs.lemmas.Int.{to_z-of_z}
use Rattle.bpf_insn.specs.Arithmetic.{bytes_of}
use Rattle.bpf_flow.specs.Steps.{Accesses}
use Rattle.bpf_flow.proofs.Memories.{reaches}
use Rattle.bpf_flow.proofs.loads.reached.Goals as goal

pub returns : goal.returns
returns c =
    let o : FitsSigned w16 c.args.offset = search rules in
    let p : FitsSigned w64 c.args.offset = search rules in
    let a = simp to_z-of_z at c.in_ok-inside.ensures in
    let acc : Accesses c.in-Some.place.region c.in-Some.place.lo c.in-Some.place.hi c.args.state.now c.args.offset (bytes_of c.args.size) = rw c.count_of.ensures.value at a in
    reaches c.args.state.now c.args.base c.args.offset (bytes_of c.args.size) c.in-Some.place.region c.in-Some.place.lo c.in-Some.place.hi c.requires (λ m n v h. c.in-Some.ensures m n v (rw c.kind-2.ensures h)) acc
