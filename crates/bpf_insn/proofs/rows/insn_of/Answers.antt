use Rattle.std.proofs.Common.{arith, ◌∙◌}
use Rattle.bpf_insn.specs.declared.insn.Width.TheVariants.{W32, W64}
use Rattle.bpf_insn.proofs.Classes.{by_class, of_arithmetic, of_jump, of_memory}
use Rattle.bpf_insn.proofs.rows.insn_of.Goals as goal

pub returns-in-4-clause-only : goal.returns-in-4-clause-only
returns-in-4-clause-only c =
    let told = c.arithmetic.ensures in
    by_class _ _ (λ i e. of_arithmetic _ _ W32 told.binary told.unary i (e ∙ c.in-4.is))

pub returns-in-7-clause-only : goal.returns-in-7-clause-only
returns-in-7-clause-only c =
    let told = c.arithmetic-in-7.ensures in
    by_class _ _ (λ i e. of_arithmetic _ _ W64 told.binary told.unary i (e ∙ c.in-7.is))

pub returns-in-5-clause-only : goal.returns-in-5-clause-only
returns-in-5-clause-only c =
    let told = c.any_jump.ensures in
    by_class _ _ (λ i e. of_jump _ _ W64 told.branch told.jump told.jump_far told.call told.exit i (e ∙ c.in-5.is))

pub returns-in-6-clause-only : goal.returns-in-6-clause-only
returns-in-6-clause-only c =
    let told = c.any_jump-in-6.ensures in
    by_class _ _ (λ i e. of_jump _ _ W32 told.branch told.jump told.jump_far told.call told.exit i (e ∙ c.in-6.is))

pub returns-in-1-to-3-clause-only : goal.returns-in-1-to-3-clause-only
returns-in-1-to-3-clause-only c =
    let told = c.memory.ensures in
    by_class _ _ (of_memory _ _ _ (omega arith) (omega arith) told.load told.load_signed told.store_imm told.store)
