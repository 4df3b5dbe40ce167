use Rattle.std.proofs.Common.{◌≢◌, List, ℕ, sym, ap, ◌∙◌, subst}
use Rattle.std.specs.Prelude.{IfOk, IfErr}
use Rattle.sdbm_files.specs.Opened.{IsOpenFault, SpellsNoDatabase}
use Rattle.sdbm_files.specs.declared.opening.OpenFault.TheVariants as faults
use Rattle.sdbm_files.specs.Reading.{PagRead}
use Rattle.boddurci_handles.specs.declared.pieces.Pieces.{Pieces}
use Rattle.boddurci_handles.specs.Pieces.{bytes_read}
use Rattle.boddurci_c.specs.Calls.{IsDbOpened}
use Rattle.boddurci_c.proofs.opening.open_reading.Goals as goal

pub returns-clause-ok : goal.returns-clause-ok
returns-clause-ok c =
    subst (λ (pag : List ℕ). IfOk c.open_read-opened.result (IsDbOpened c.args.kind c.args.size c.args.dir.now pag))
    (ap (λ (p : Pieces). p.pages.bytes) c.deref.ensures ∙ sym (ap bytes_read c.in-Some.ensures.some)) c.open_read-opened.ensures.ok

pub returns-clause-err : goal.returns-clause-err
returns-clause-err c =
    subst (λ (pag : List ℕ). IfErr c.open_read-opened.result (IsOpenFault c.args.kind c.args.size c.args.dir.now pag))
    (ap (λ (p : Pieces). p.pages.bytes) c.deref.ensures ∙ sym (ap bytes_read c.in-Some.ensures.some)) c.open_read-opened.ensures.err

pub returns-clause-none : goal.returns-clause-none
returns-clause-none c =
    subst (λ (pag : List ℕ). IfErr c.open_read-opened.result (λ fault. fault ≢ faults.NoMemory → SpellsNoDatabase c.args.kind c.args.size c.args.dir.now pag))
    (ap (λ (p : Pieces). p.pages.bytes) c.deref.ensures ∙ sym (ap bytes_read c.in-Some.ensures.some)) c.open_read-opened.ensures.none

pub returns-in_default-clause-none : goal.returns-in_default-clause-none
returns-in_default-clause-none c =
    subst (λ (pag : List ℕ). IfErr c.open_read.result (λ fault. fault ≢ faults.NoMemory → SpellsNoDatabase c.args.kind c.args.size c.args.dir.now pag))
    (ap (λ (r : PagRead). r.bytes) c.new-none.ensures ∙ sym (ap bytes_read c.in_default.ensures.none)) c.open_read.ensures.none
