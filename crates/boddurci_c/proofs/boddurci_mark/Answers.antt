use Rattle.std.proofs.Common.{◌∙◌, Some, ap, sym, inl, inr, refl}
use Rattle.boddurci_handles.specs.declared.status.Status.TheVariants.{NoMemory}
use Rattle.boddurci_c.specs.Calls.{LacksMemory}
use Rattle.store_marks.proofs.Marked.{differ_more}
use Rattle.boddurci_c.proofs.Bases.{same_db}
use Rattle.boddurci_c.proofs.CallLemmas.{closed_denies, denies}
use Rattle.boddurci_c.proofs.boddurci_mark.Goals as goal

pub invariant_of-open : goal.invariant_of-open
invariant_of-open c =
    let d = c.deref_mut-open.result.now in
    record { differ = differ_more d.base.database d.image d.marks c.add_all-marked.new.self c.add_all-marked.ensures.more d.differ }

pub returns-in_default : goal.returns-in_default
returns-in_default c = inr (closed_denies LacksMemory _ _ _ c.in_default.ensures.none c.take.ensures.closed c.code.ensures)

pub returns-in-Ok : goal.returns-in-Ok
returns-in-Ok c = inl (record {
  code_is = c.code-in-Ok.ensures;
  is = record {
    before = c.deref_mut-open.result.now;
    after = _;
    old_is = c.in-Some.ensures.some ∙ ap Some (sym c.deref_mut-open.ensures.value);
    new_is = c.put.ensures;
    is = record { image = refl; registry = refl; limit = refl; base = refl; marks = c.in-Ok.ensures.more; each = c.in-Ok.ensures.ok };
  };
})

pub returns-in-Err : goal.returns-in-Err
returns-in-Err c = inr (denies LacksMemory _ _ _ c.deref_mut-open.result.now _ NoMemory (c.in-Some.ensures.some ∙ ap Some (sym c.deref_mut-open.ensures.value)) c.put.ensures
    (same_db c.deref_mut-open.result.now c.deref_mut-open.result.now.image c.add_all-marked.new.self _ refl c.in-Err.ensures.err) c.code-in-Err.ensures refl)
