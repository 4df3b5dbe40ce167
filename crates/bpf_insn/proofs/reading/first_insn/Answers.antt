use Rattle.std.proofs.Common.{ℕ, ◌%◌, ap, sym, ◌∙◌}
use Rattle.bpf_insn.specs.declared.fields.Fields.{Fields}
use Rattle.bpf_insn.proofs.Classes.{of_wide, class_is}
use Rattle.bpf_insn.proofs.RowFacts.{tells_row}
use Rattle.bpf_insn.proofs.reading.first_insn.Goals as goal

pub returns-then-fields-eq-WIDE-clause-only : goal.returns-then-fields-eq-WIDE-clause-only
returns-then-fields-eq-WIDE-clause-only c = λ i more has e.
    let row = tells_row i c.read-fields.result c.args.bytes.now more c.read-fields.ensures.fits c.read-fields.ensures.bytes has e in
    let zero_class = sym (class_is i) ∙ ap (λ (f : Fields). f.opcode % 8) row ∙ ap (λ (n : ℕ). n % 8) c.if-fields-eq-WIDE.true in
    of_wide c.args.bytes.now c.wide_of.result c.wide_of.ensures.only i zero_class more has e

pub returns-clause-only : goal.returns-clause-only
returns-clause-only c = λ i more has e.
    c.insn_of.ensures.only i has (tells_row i c.read-fields.result c.args.bytes.now more c.read-fields.ensures.fits c.read-fields.ensures.bytes has e)
