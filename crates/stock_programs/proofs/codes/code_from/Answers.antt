use Rattle.std.proofs.Common.{◌≡◌, ◌≤◌, ◌*◌, ap, ◌∙◌, length, List, take, arith}
use Rattle.std.proofs.lemmas.List.{length-take}
use Rattle.bpf_insn.specs.declared.insn.Insn.{Insn}
use Rattle.bpf_insn.specs.Code.{unit_count}
use Rattle.stock_programs.proofs.Sizes.{two_at_most, twice_at_most}
use Rattle.stock_programs.proofs.codes.code_from.Goals as goal

pub push-requires-clause-room : goal.push-requires-clause-room
push-requires-clause-room g c =
    let insns = c.args.insns.now in
    let is : c.loop-insn.code ≡ take c.loop-insn.insn-index insns = c.loop-insn.invariant in
    let many : unit_count c.loop-insn.code ≤ 2 * length c.loop-insn.code = twice_at_most c.loop-insn.code in
    let count : length c.loop-insn.code ≡ c.loop-insn.insn-index = ap (λ (x : List Insn). length x) is ∙ simp length-take (omega arith) in
    omega (arith, two_at_most)
