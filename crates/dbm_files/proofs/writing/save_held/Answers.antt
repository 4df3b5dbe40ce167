use Rattle.std.proofs.Common.{◌≡◌, inl, inr, ⊎_elim, ℕ, List, OnOk, ap, subst}
use Rattle.std.specs.Prelude.{Result, Ok}
use Rattle.sdbm_saves.specs.Saves.{AreFilesFor}
use Rattle.store_saves.specs.Saved.{HoldsDatabase}
use Rattle.dbm_files.proofs.writing.save_held.Goals as goal

ok_of : {T E : Type 0} (r : Result T E) (x : T) (P : Type 0) → r ≡ Ok x → OnOk r P → P
ok_of r x P is h = subst (λ q. OnOk q P) is h

pub after-receipt-requires : goal.after-receipt-requires
after-receipt-requires g c =
    let change = c.change_of-change.result in
    let db : change.after.now ≡ c.args.new.now = ap (λ b. b.now) c.change_of-change.ensures.after in
    let before : (change.before.pages.now.bytes, change.before.directory.now) ≡ (c.args.old.pages.now.bytes, c.args.old.directory.now) =
    ap (λ f. (f.pages.now.bytes, f.directory.now)) c.change_of-change.ensures.before in
    ⊎_elim
    (λ a. inl (subst (λ (p : List ℕ × List ℕ). AreFilesFor c.args.new.now p.0 p.1) before (subst (λ d. AreFilesFor d change.before.pages.now.bytes change.before.directory.now) db a.0)))
    (λ h. inr (λ o left. subst (λ d. HoldsDatabase d o) db (h o left)))
    (ok_of c.save_change-saved.result c.in_ok-outcome.outcome _ c.in_ok-outcome.was c.save_change-saved.ensures.saved)
