use Rattle.std.proofs.Common.{List, ℕ, ◌++◌, sym, ap, ◌∙◌, subst}
use Rattle.boddurci_c.specs.Calls.{HasFiles}
use Rattle.boddurci_c.proofs.Fitting.{has_files}
use Rattle.boddurci_c.proofs.db.files.Goals as goal

pub returns-in-Ok : goal.returns-in-Ok
returns-in-Ok c =
    let w = c.in-Ok.ensures.ok in
    let dir = w.dir_is ∙ ap (λ (old : List ℕ). old ++ w.dir) c.new-dir.ensures.bytes in
    let pag = w.pag_is ∙ ap (λ (old : List ℕ). old ++ w.pag) c.in_ok-pag.ensures.bytes in
    subst (λ (file : List ℕ). HasFiles file c.write.new.pag.bytes c.args.db.now) (sym dir)
    (subst (λ (file : List ℕ). HasFiles w.dir file c.args.db.now) (sym pag) (has_files c.args.db.now w.dir w.pag w.files w.spells))
