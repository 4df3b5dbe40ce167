use Rattle.std.proofs.Common.{◌∙◌, Some, ap, sym, inl, inr, refl}
use Rattle.boddurci_c.specs.Plans.{DeniesPlan}
use Rattle.boddurci_c.proofs.CallLemmas.{closed_denies, denies}
use Rattle.boddurci_c.proofs.boddurci_plan.Goals as goal

pub returns-in_default : goal.returns-in_default
returns-in_default c = inr (closed_denies (DeniesPlan c.args.dir.now c.args.pag_length c.args.numbers.now c.args.pages.now) _ _ _ c.in_default.ensures.none c.take.ensures.closed c.code.ensures, (refl, refl))

pub returns : goal.returns
returns c =
    let old_is = c.in-Some.ensures.some ∙ ap Some (sym c.deref_mut.ensures.value) in
    elim c.plan-status.ensures [
      | inl planned ↦ inl (record {
        status = c.plan-status.result;
        code_is = c.code-2.ensures;
        is = record { before = c.deref_mut.result.now; after = c.plan-status.new.db; old_is = old_is; new_is = c.put.ensures; is = planned };
      })
      | inr denied ↦ inr (
        denies (DeniesPlan c.args.dir.now c.args.pag_length c.args.numbers.now c.args.pages.now) _ _ _ c.deref_mut.result.now c.plan-status.new.db c.plan-status.result old_is c.put.ensures denied.1.0 c.code-2.ensures denied.0,
        denied.1.1,
      )
    ]
