use Rattle.std.proofs.Common.{arith, rules}
use Rattle.std.specs.Prelude.{FitsSigned}
use Rattle.std.specs.Int.{w16, w32}
use Rattle.std.proofs.lemmas.Int.{to_z-of_z}
use Rattle.bpf_insn.proofs.Units.{unit_from}
use Rattle.bpf_insn.proofs.fields.Fields.read.Goals as goal

pub returns-clause-bytes : goal.returns-clause-bytes
returns-clause-bytes c =
    let f : FitsSigned w16 c.from_le_bytes.result = search rules in
    let g : FitsSigned w32 c.from_le_bytes-2.result = search rules in
    simp to_z-of_z (unit_from c.args.bytes.now c.from_le_bytes.result c.from_le_bytes-2.result c.requires (λ k. omega (arith, c.type_inv.bytes k)) c.from_le_bytes.ensures c.from_le_bytes-2.ensures)
