use Rattle.std.proofs.Common.{◌∙◌, ℕ, List, Some, length, ap, sym, subst, inl, inr, refl}
use Rattle.boddurci_handles.specs.declared.status.Status.TheVariants.{NoMemory}
use Rattle.boddurci_c.specs.Calls.{HasFiles, LacksMemory, AreCopied}
use Rattle.boddurci_c.proofs.CallLemmas.{shows, closed_denies, denies}
use Rattle.boddurci_c.proofs.boddurci_files.Goals as goal

pub returns-in_default : goal.returns-in_default
returns-in_default c = inr (closed_denies LacksMemory _ _ _ c.in_default.ensures.none c.take.ensures.closed c.code.ensures, (refl, (refl, (refl, refl))))

pub returns-in-Ok : goal.returns-in-Ok
returns-in-Ok c = inl (record {
  dir = c.in-Ok.dir_sink.bytes;
  pag = c.in-Ok.pag_sink.bytes;
  has = shows (HasFiles c.in-Ok.dir_sink.bytes c.in-Ok.pag_sink.bytes) _ _ c.deref.result.now _ (c.in-Some.ensures.some ∙ ap Some (sym c.deref.ensures)) c.put.ensures (sym c.deref.ensures) c.in-Ok.ensures;
  dir_len_is = ap length c.bytes.ensures;
  pag_len_is = ap length c.bytes-in-Ok.ensures;
  status = c.copy_both.result;
  code_is = c.code-in-Ok.ensures;
  copied = subst (λ (dir : List ℕ). AreCopied dir c.in-Ok.pag_sink.bytes c.args.dir.now c.copy_both.new.dir_room c.args.pag.now c.copy_both.new.pag_room c.copy_both.result) c.bytes-in-Ok-2.ensures
      (subst (λ (pag : List ℕ). AreCopied c.bytes-in-Ok-2.result.now pag c.args.dir.now c.copy_both.new.dir_room c.args.pag.now c.copy_both.new.pag_room c.copy_both.result) c.bytes-in-Ok-3.ensures c.copy_both.ensures);
})

pub returns-in-Err : goal.returns-in-Err
returns-in-Err c = inr (
  denies LacksMemory _ _ _ c.deref.result.now _ NoMemory (c.in-Some.ensures.some ∙ ap Some (sym c.deref.ensures)) c.put.ensures (sym c.deref.ensures) c.code-in-Err.ensures refl,
  (refl, (refl, (refl, refl))),
)
