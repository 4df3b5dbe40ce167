use Rattle.std.proofs.Common.{◌≡◌, ℕ, ◌+◌, ◌*◌, ◌^◌, arith, ap, sym, ◌∙◌, take, drop}
use Rattle.std.specs.Prelude.{Ok, Result}
use Rattle.std.specs.Int.{cast_unsigned, w16}
use Rattle.bpf_insn.specs.declared.fields.Fields.{Fields}
use Rattle.bpf_insn.specs.declared.insn.Insn.{Insn}
use Rattle.bpf_insn.specs.declared.insn.Insn.TheVariants.{Wide}
use Rattle.bpf_insn.specs.declared.operands.UnitFault.{UnitFault}
use Rattle.bpf_insn.specs.Spelling.{unit_bytes}
use Rattle.bpf_insn.proofs.RowFacts.{tells_row, tells_high, tells_number, halves_spell, zero_16, bits_again_32}
use Rattle.bpf_insn.proofs.constant.wide_of.Goals as goal

abbrev reads : Insn → Result Insn UnitFault
reads i = Ok i

pub returns-then-second-ne0-4-clause-only : goal.returns-then-second-ne0-4-clause-only
returns-then-second-ne0-4-clause-only c = λ d n more has e.
    let unit : take 8 (drop 8 c.args.bytes.now) ≡ unit_bytes c.read-second.result = ap (take 8) (sym c.split_at.ensures.back) ∙ c.read-second.ensures.bytes in
    let high = tells_high d n c.read-second.result c.args.bytes.now more c.read-second.ensures.fits unit has e in
    absurd (c.if-second-ne0-4.true (sym (ap (λ (f : Fields). cast_unsigned w16 f.offset) high)))

pub returns-clause-found : goal.returns-clause-found
returns-clause-found c =
    let unit : take 8 (drop 8 c.args.bytes.now) ≡ unit_bytes c.read-second.result = ap (take 8) (sym c.split_at.ensures.back) ∙ c.read-second.ensures.bytes in
    let first_offset = zero_16 c.args.first.offset c.requires.fits.offset_fits c.if-first-ne0-2.false in
    let second_offset = zero_16 c.read-second.result.offset c.read-second.ensures.fits.offset_fits c.if-second-ne0-4.false in
    let low = bits_again_32 c.args.first.imm _ c.requires.fits.imm_fits c.cast_unsigned-low.ensures in
    let high = bits_again_32 c.read-second.result.imm _ c.read-second.ensures.fits.imm_fits c.cast_unsigned-high.ensures in
    let found = halves_spell c.args.bytes.now c.args.first c.read-second.result c.requires.opcode (omega arith) c.if-first-ne0.false first_offset c.if-second-ne0.false c.if-second-ne0-2.false c.if-second-ne0-3.false second_offset c.requires.fits c.read-second.ensures.fits c.requires.unit unit in
    rw (low, high) found

pub returns-clause-only : goal.returns-clause-only
returns-clause-only c = λ d n more has e.
    let unit : take 8 (drop 8 c.args.bytes.now) ≡ unit_bytes c.read-second.result = ap (take 8) (sym c.split_at.ensures.back) ∙ c.read-second.ensures.bytes in
    let row = tells_row (Wide d n) c.args.first c.args.bytes.now more c.requires.fits c.requires.unit has e in
    let high = tells_high d n c.read-second.result c.args.bytes.now more c.read-second.ensures.fits unit has e in
    let number = tells_number d n c.args.first c.read-second.result has.1 row high in
    let low_is = bits_again_32 c.args.first.imm _ c.requires.fits.imm_fits c.cast_unsigned-low.ensures in
    let high_is = bits_again_32 c.read-second.result.imm _ c.read-second.ensures.fits.imm_fits c.cast_unsigned-high.ensures in
    let value : c.cast_unsigned-high.result * 2 ^ 32 + c.cast_unsigned-low.result ≡ n = rw (low_is, high_is) number in
    ap (λ (x : ℕ). reads (Wide c.args.first.dst x)) value ∙ ap (λ (x : ℕ). reads (Wide x n)) (sym (ap (λ (f : Fields). f.dst) row))
