use Rattle.std.proofs.Common.{rules, arith}
use Rattle.std.specs.Prelude.{FitsSigned}
use Rattle.std.specs.Int.{w16}
use Rattle.std.proofs.lemmas.Int.{to_z-of_z}
use Rattle.bpf_insn.specs.Arithmetic.{bytes_of}
use Rattle.bpf_flow.specs.Steps.{Reaching}
use Rattle.bpf_flow.proofs.Memories.{load_signed_passes}
use Rattle.bpf_flow.proofs.loads.after_load_signed.Goals as goal

pub returns : goal.returns
returns c =
    let o : FitsSigned w16 c.args.offset = search rules in
    let reach : Reaching c.args.state.now c.args.base c.args.offset (bytes_of c.args.size) c.in_ok-_region._region = simp to_z-of_z at c.in_ok-_region.ensures in
    load_signed_passes c.args.size c.args.dst c.args.base c.args.offset c.in_ok-_region._region c.args.state.now c.set.new.self c.of-loaded.result c.set.ensures c.requires.dst c.requires.frame
    (λ x h. c.of-loaded.ensures.contains x (omega arith) (omega arith)) reach
