-- Lifting the fault of a step to a fault of the subcommand.
use Rattle.std.proofs.Common.{◌≡◌, ℕ, List, Result, Ok, Err, IfErr, IsErrAnd, sym, subst, IfOk}
use Rattle.dbm_args.specs.declared.options.Form.{Form}
use Rattle.dbm_reports.specs.declared.databases.Given.{Given}
use Rattle.sdbm_addr.specs.declared.KeyBytes.{KeyBytes}
use Rattle.sdbm_addr.specs.declared.PageSize.{PageSize}
use Rattle.sdbm_files.specs.Opened.{IsOpenFault}
use Rattle.sdbm_files.specs.declared.opening.OpenFault.{OpenFault}
use Rattle.sdbm_files.specs.declared.opening.OpenFault.TheVariants as opening
use Rattle.dbm_reports.specs.Databases.{key_bytes_of, page_size_of}
use Rattle.dbm_reports.specs.Causes.{IsCaused, open_fault, opening_causes}

-- a fault that equals e, for which Q holds
pub as_err : {T E : Type 0} (Q : E → Type 0) {e : E} (r : Result T E) → IsErrAnd r (λ fault. fault ≡ e) → Q e → IfErr r Q
as_err Q (Ok x) is q = tt
as_err Q (Err fault) is q = subst Q (sym is) q

-- files that cannot be opened
pub shut_fault : (form : Form) (given : Given) (kind : KeyBytes) (size : PageSize) (dir : List ℕ) (fault : OpenFault) → kind ≡ key_bytes_of form.unsigned → size ≡ page_size_of form.wide
    → dir ≡ given.dir.items → IsOpenFault kind size dir given.pag.bytes fault → IsCaused (opening_causes form given) (open_fault fault)
shut_fault form given kind size dir fault kinds sizes dirs is = of fault
    (subst (λ (l : List ℕ). IsOpenFault (key_bytes_of form.unsigned) (page_size_of form.wide) l given.pag.bytes fault) dirs
    (subst (λ (z : PageSize). IsOpenFault (key_bytes_of form.unsigned) z dir given.pag.bytes fault) sizes
    (subst (λ (k : KeyBytes). IsOpenFault k size dir given.pag.bytes fault) kinds is)))
  where
    of : (fault : OpenFault) → IsOpenFault (key_bytes_of form.unsigned) (page_size_of form.wide) given.dir.items given.pag.bytes fault → IsCaused (opening_causes form given) (open_fault fault)
    of opening.NoMemory h = tt
    of opening.PagLength h = h
    of (opening.Page number reason) h = h
    of (opening.Dir reason) h = h
    of (opening.Misplaced number) h = h

pub both_ok : {T E : Type 0} (P Q R : T → Type 0) (r : Result T E) → ((x : T) → P x → Q x → R x) → IfOk r P → IfOk r Q → IfOk r R
both_ok P Q R (Ok x) f p q = f x p q
both_ok P Q R (Err e) f p q = tt
