use Rattle.std.proofs.Common.{◌++◌, ◌∷◌, [], ◌∙◌, ap, sym, take}
use Rattle.std.proofs.lemmas.List.{take_all, take_more}
use Rattle.store_cmd.proofs.clone_entries.Goals as goal

pub loop-entry-preserved : goal.loop-entry-preserved
loop-entry-preserved g c =
    let entries = c.args.entries.now in
    let at = c.loop-entry.entry-index in
    c.in_ok-push.ensures.items ∙ (ap (λ copy. copy ++ c.in_ok-try_clone.field-0 ∷ []) c.loop-entry.invariant
    ∙ (ap (λ entry. take at entries ++ entry ∷ []) (c.in_ok-try_clone.ensures ∙ c.entry-item.is) ∙ sym (take_more entries at c.entry-item.result c.loop-entry-test.true)))

pub returns : goal.returns
returns g c = c.loop-entry.invariant ∙ take_all c.loop-entry.entry-index c.args.entries.now c.loop-entry-test.false
