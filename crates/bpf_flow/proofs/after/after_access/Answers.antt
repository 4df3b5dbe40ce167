use Rattle.std.proofs.Common.{rules}
use Rattle.std.specs.Prelude.{FitsSigned}
use Rattle.std.specs.Int.{w16}
use Rattle.std.proofs.lemmas.Int.{to_z-of_z}
use Rattle.std.proofs.lemmas.Result.{IfOk-weaker}
use Rattle.bpf_flow.proofs.Arms.{no_access}
use Rattle.bpf_flow.proofs.after.after_access.Goals as goal

pub unreachable-requires : goal.unreachable-requires
unreachable-requires c = no_access c.args.insn c.requires.access c.in_default.not-Load c.in_default.not-LoadSigned c.in_default.not-StoreImm c.in_default.not-Store

pub returns-in-StoreImm : goal.returns-in-StoreImm
returns-in-StoreImm c =
    let o : FitsSigned w16 c.in-StoreImm.offset = search rules in
    IfOk-weaker c.after_store_imm.result _ _ (λ t h. rw c.in-StoreImm.is (simp to_z-of_z at (h c.in-StoreImm.value))) c.after_store_imm.ensures
