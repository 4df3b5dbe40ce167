use Rattle.std.proofs.Common.{◌∙◌, Some, ap, sym, inl, inr, refl}
use Rattle.boddurci_c.specs.Calls.{Never}
use Rattle.boddurci_c.specs.Turns.{CursorTurns}
use Rattle.boddurci_c.proofs.CallLemmas.{shows, closed_denies}
use Rattle.boddurci_c.proofs.boddurci_next.Goals as goal

pub returns-in_default : goal.returns-in_default
returns-in_default c = inr (closed_denies Never _ _ _ c.in_default.ensures.none c.take.ensures.closed c.code.ensures, (refl, (refl, (refl, (refl, refl)))))

pub returns : goal.returns
returns c = inl (record {
  status = c.turn-status.result;
  code_is = c.code-2.ensures;
  is = shows (λ d. CursorTurns d.image c.args.cursor.now c.turn-status.new.cursor c.args.key.now c.turn-status.new.key c.turn-status.new.key_len c.args.value.now c.turn-status.new.value c.turn-status.new.value_len c.turn-status.result) _ _ c.deref.result.now _ (c.in-Some.ensures.some ∙ ap Some (sym c.deref.ensures)) c.put.ensures (sym c.deref.ensures) c.turn-status.ensures;
})
