use Rattle.std.proofs.Common.{◌≡◌, sym, ap, ◌∙◌}
use Rattle.std.proofs.lemmas.Bool.{eqb-true, eq-eqb}
use Rattle.bpf_insn.specs.Spelling.{row_of, high_number}
use Rattle.bpf_insn.proofs.Tells.{same_by_parts}
use Rattle.bpf_insn.proofs.equality.same_insn.Goals as goal

pub returns : goal.returns
returns c =
    let rows : row_of c.args.a ≡ row_of c.args.b = sym c.row.ensures ∙ c.same_fields.ensures.0 c.if-not-same_fields.false ∙ c.row-2.ensures in (
      λ t. same_by_parts c.args.a c.args.b c.requires.left c.requires.right rows (sym c.high_of.ensures ∙ eqb-true _ _ t ∙ c.high_of-2.ensures),
      λ e. eq-eqb _ _ (c.high_of.ensures ∙ ap high_number e ∙ sym c.high_of-2.ensures),
    )
