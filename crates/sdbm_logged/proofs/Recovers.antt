-- Recoveries: the steps of a recovery, and the data files that a plan of the redo file makes.
use Rattle.std.proofs.Common.{◌≡◌, inl, inr, ◌≤◌, ◌==◌, zero, suc, ℕ, List, ◌∙◌, ap, sym, subst, arith, refl, if◌then◌else◌, drop}
use Rattle.sdbm_saves.specs.Disk.{Image}
use Rattle.sdbm_saves.specs.Redo.{files, renewed_files}
use Rattle.sdbm_log.specs.Log.{files_of, files_by, with_plan, number_of, plan_of, CanRecover}
use Rattle.sdbm_log.specs.Saving.{AreRecoverCalls, IsRedoPlan}
use Rattle.sdbm_log.specs.Steps.{acts_of, IsRecovering}
use Rattle.sdbm_log.specs.declared.steps.Step.{Step}
use Rattle.sdbm_log.proofs.Opens.{recovered_does}

pub steps_recover : (seen : Image) (may_leave : Image → Type 0) (made bytes : List ℕ) (made_steps steps : List Step) → bytes ≡ made → steps ≡ made_steps → CanRecover seen
    → AreRecoverCalls seen (acts_of made made_steps) → IsRecovering (acts_of bytes steps) seen may_leave
steps_recover seen may_leave made bytes made_steps steps same same_steps can calls =
    subst (λ (l : List ℕ). IsRecovering (acts_of l steps) seen may_leave) (sym same)
    (subst (λ (l : List Step). IsRecovering (acts_of made l) seen may_leave) (sym same_steps) (recovered_does seen (acts_of made made_steps) can calls may_leave))

with_some : (n : ℕ) (plan : List ℕ) (image : Image) → 1 ≤ n → renewed_files plan image ≡ with_plan n plan image
with_some zero plan image some = absurd (omega arith)
with_some (suc n) plan image some = refl

-- the plan of the redo file makes the files that the image represents
pub plan_makes : (image : Image) (plan : List ℕ) → IsRedoPlan image plan → renewed_files plan image ≡ files_of image
plan_makes image plan (inl log) =
    ap (λ (l : List ℕ). renewed_files l image) log.1.1 ∙ with_some (number_of image) (plan_of image) image log.1.0 ∙ sym (ap (λ b. files_by b image) log.0)
plan_makes image plan (inr single) =
    ap (λ (l : List ℕ). renewed_files l image) single.1.1
    ∙ sym (ap (λ k. if k == 1 then renewed_files (drop 1 image.redo) image else files image) single.1.0)
    ∙ sym (ap (λ b. files_by b image) single.0)
