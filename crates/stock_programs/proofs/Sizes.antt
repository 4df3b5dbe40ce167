-- The number of units of a code.
use Rattle.std.proofs.Common.{◌*◌, ◌≤◌, length, List, [], ◌∷◌, ap, arith, length-append}
use Rattle.std.proofs.lemmas.List.Concat.{flat_map-cons}
use Rattle.bpf_insn.specs.declared.insn.Insn.{Insn}
use Rattle.bpf_insn.specs.declared.insn.Insn.TheVariants.{Wide}
use Rattle.bpf_insn.specs.Code.{slots, slots_of, unit_count, units_of}

pub two_at_most : (i : Insn) → units_of i ≤ 2
two_at_most (Wide d n) = omega arith
two_at_most i = omega arith

-- no code has more units than two for each instruction
pub twice_at_most : (code : List Insn) → unit_count code ≤ 2 * length code
twice_at_most [] = omega arith
twice_at_most (i ∷ is) =
    let rest = twice_at_most is in
    omega (arith, two_at_most i, ap length (flat_map-cons slots_of i is), length-append (slots_of i) (slots is))
