use Rattle.std.proofs.Common.{◌∙◌, Some, ap, sym, inl, inr}
use Rattle.boddurci_handles.specs.Statuses.{status_code}
use Rattle.boddurci_c.specs.Page.{LacksPages}
use Rattle.boddurci_c.proofs.CallLemmas.{closed_denies, denies}
use Rattle.boddurci_c.proofs.boddurci_open_page.Goals as goal

pub returns-in_default : goal.returns-in_default
returns-in_default c = inr (closed_denies LacksPages _ _ _ c.in_default.ensures.none c.take.ensures.closed c.code.ensures)

pub returns : goal.returns
returns c =
    let old_is = c.in-Some.ensures.some ∙ ap Some (sym c.deref_mut.ensures.value) in
    elim c.turn_to-status.ensures [
      | inl turned ↦ inl (record {
        code_is = c.code-2.ensures ∙ ap status_code turned.0;
        is = record { before = c.deref_mut.result.now; after = c.turn_to-status.new.db; old_is = old_is; new_is = c.put.ensures; is = turned.1 };
      })
      | inr lacks ↦ inr (denies LacksPages _ _ _ c.deref_mut.result.now c.turn_to-status.new.db c.turn_to-status.result old_is c.put.ensures lacks.1 c.code-2.ensures lacks.0)
    ]
