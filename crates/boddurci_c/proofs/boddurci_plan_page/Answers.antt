use Rattle.std.proofs.Common.{◌∙◌, Some, ap, sym, inl, inr, refl}
use Rattle.boddurci_c.specs.Page.{LacksPlan, PlansPage, part_for}
use Rattle.boddurci_c.proofs.CallLemmas.{shows, closed_denies, denies}
use Rattle.boddurci_c.proofs.boddurci_plan_page.Goals as goal

pub returns-in_default : goal.returns-in_default
returns-in_default c = inr (closed_denies LacksPlan _ _ _ c.in_default.ensures.none c.take.ensures.closed c.code.ensures, (refl, (refl, (refl, refl))))

pub returns : goal.returns
returns c =
    let old_is = c.in-Some.ensures.some ∙ ap Some (sym c.deref.ensures) in
    let status = c.plan_page-status.result in
    elim c.plan_page-status.ensures [
      | inl plans ↦ inl (record {
        status = status;
        code_is = c.code-2.ensures;
        is = shows (λ d. PlansPage (part_for c.args.dir c.args.pag_length c.args.number c.args.page) d c.args.numbers.now c.plan_page-status.new.numbers c.plan_page-status.new.count c.args.room.now c.plan_page-status.new.room c.plan_page-status.new.len status) _ _ c.deref.result.now _ old_is c.put.ensures (sym c.deref.ensures) plans;
      })
      | inr lacks ↦ inr (denies LacksPlan _ _ _ c.deref.result.now _ status old_is c.put.ensures (sym c.deref.ensures) c.code-2.ensures lacks.0, lacks.1)
    ]
