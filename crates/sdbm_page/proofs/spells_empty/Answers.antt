use Rattle.std.proofs.Common.{sym, ◌∙◌, arith}
use Rattle.std.proofs.lemmas.Bool.{eq-eqb, eqb-true}
use Rattle.sdbm_page.proofs.Spelled.{spelled_empty, empty_count}
use Rattle.sdbm_page.proofs.spells_empty.Goals as goal

pub returns : goal.returns
returns c =
    let is = c.number_at.ensures.is in (
      λ none. spelled_empty c.args.size c.args.bytes.now (λ k. omega (arith, c.type_inv.bytes k)) c.requires (sym is ∙ eqb-true _ 0 none),
      λ s. eq-eqb _ 0 (is ∙ empty_count c.args.size c.args.bytes.now s),
    )
