-- The answer about files that may look small.
use Rattle.std.proofs.Common.{◌≡◌, ◌↔◌, ℕ, List, Bool, true, false, cond, inl, inr, refl}
use Rattle.std.specs.Prelude.{IsTrue, IfOk, IfErr}
use Rattle.std.specs.declared.alloc.AllocError.{AllocError}
use Rattle.std.specs.declared.result.Result.{Result}
use Rattle.std.specs.declared.result.Result.TheVariants.{Ok, Err}
use Rattle.std.proofs.lemmas.Bool.{false≢true}
use Rattle.sdbm_addr.specs.declared.KeyBytes.{KeyBytes}
use Rattle.sdbm_sizes.specs.Sizes.{FileLooksSmall, SpellsNoSmall}
use Rattle.boddurci_handles.specs.declared.status.Status.{Status}
use Rattle.boddurci_handles.specs.declared.status.Status.TheVariants.{Done, NoMemory}
use Rattle.boddurci_c.specs.Sizes.{IsLook}

pub look_is : (kind : KeyBytes) (dir pag : List ℕ) (old new : ℕ) (status : Status) (found : Result Bool AllocError)
    → IfOk found (λ small. IsTrue small ↔ FileLooksSmall kind dir pag) → IfOk found (λ small. small ≡ false → SpellsNoSmall kind dir pag)
    → IfOk found (λ small. (status ≡ Done) × (new ≡ cond small 1 0)) → IfErr found (λ _. (status ≡ NoMemory) × (new ≡ old)) → IsLook kind dir pag old new status
look_is kind dir pag old new status (Ok true) is none ok err = inl (ok.0, inl (ok.1, is.0 refl))
look_is kind dir pag old new status (Ok false) is none ok err = inl (ok.0, inr (ok.1, (λ file. false≢true (is.1 file), none refl)))
look_is kind dir pag old new status (Err e) is none ok err = inr err
