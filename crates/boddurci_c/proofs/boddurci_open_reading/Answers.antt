use Rattle.std.proofs.Common.{◌∙◌, refl, subst, inl, inr}
use Rattle.sdbm_files.specs.Opened.{IsOpenFault, SpellsNoDatabase}
use Rattle.sdbm_files.specs.FaultText.{fault_text as open_text}
use Rattle.boddurci_handles.specs.declared.status.Status.{Status}
use Rattle.boddurci_handles.specs.Pieces.{bytes_read}
use Rattle.boddurci_c.specs.Calls.{IsDbOpened, IsToldAs, kind_for}
use Rattle.boddurci_c.proofs.CallLemmas.{shut}
use Rattle.boddurci_c.proofs.boddurci_open_reading.Goals as goal

pub returns-in-Ok-open_reading_at-clause-opens : goal.returns-in-Ok-open_reading_at-clause-opens
returns-in-Ok-open_reading_at-clause-opens c =
    let was = c.in-Ok-open_reading_at.ensures.ok in
    inl (record {
      db = was.0;
      code_is = c.code-in-Ok-open_reading_at.ensures;
      old_is = shut c.args.slot.now.held (λ p. c.if-boddurci_is_open-eq1.false (c.boddurci_is_open.ensures.word ∙ p));
      new_is = was.1.0;
      is = subst (λ s. IsDbOpened (kind_for c.args.unsigned_keys) s c.args.dir.now (bytes_read c.args.reading.now.read) was.0) c.form_of-kind.ensures.size
          (subst (λ k. IsDbOpened k c.form_of-kind.result.1 c.args.dir.now (bytes_read c.args.reading.now.read) was.0) c.form_of-kind.ensures.kind was.1.1);
    })

pub returns-in-Err-clause-opens : goal.returns-in-Err-clause-opens
returns-in-Err-clause-opens c =
    inr (inl (record {
      fault = c.in-Err.fault;
      status = c.tell.result;
      code_is = c.code-in-Err.ensures;
      closed = shut c.args.slot.now.held (λ p. c.if-boddurci_is_open-eq1.false (c.boddurci_is_open.ensures.word ∙ p));
      same = c.in-Err.ensures.err;
      is = subst (λ s. IsOpenFault (kind_for c.args.unsigned_keys) s c.args.dir.now (bytes_read c.args.reading.now.read) c.in-Err.fault) c.form_of-kind.ensures.size
          (subst (λ k. IsOpenFault k c.form_of-kind.result.1 c.args.dir.now (bytes_read c.args.reading.now.read) c.in-Err.fault) c.form_of-kind.ensures.kind c.in-Err.ensures.fault);
      none = λ told. subst (λ s. SpellsNoDatabase (kind_for c.args.unsigned_keys) s c.args.dir.now (bytes_read c.args.reading.now.read)) c.form_of-kind.ensures.size
          (subst (λ k. SpellsNoDatabase k c.form_of-kind.result.1 c.args.dir.now (bytes_read c.args.reading.now.read)) c.form_of-kind.ensures.kind (c.in-Err.ensures.none told));
      text = subst (λ (s : Status). IsToldAs s (open_text c.in-Err.fault) c.args.room.now c.tell.new.room c.tell.new.len c.tell.result) c.open_status.ensures (c.tell.ensures _ refl);
    }))
