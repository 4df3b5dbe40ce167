use Rattle.std.proofs.Common.{◌≡◌, ◌∙◌, ℕ, List, IfSome, ap, subst}
use Rattle.sdbm_saves.specs.Disk.{Image}
use Rattle.sdbm_saves.specs.declared.disk.DiskFile.TheVariants.{Pages, Directory}
use Rattle.sdbm_saves.specs.Recording.{image_of}
use Rattle.sdbm_saves.specs.Redo.{renewed}
use Rattle.sdbm_log.specs.Saving.{IsRedoPlan}
use Rattle.sdbm_logged.proofs.Recovers.{plan_makes}
use Rattle.sdbm_logged.proofs.recovering.lay_both.Goals as goal

pub returns : goal.returns
returns c =
    let image : Image = image_of c.args.found in
    let plan : List ℕ = c.in-Some.plan.items in
    let is_redo : IsRedoPlan image plan = subst (λ o. IfSome o (λ plan. IsRedoPlan image plan.items)) c.in-Some.is c.requires.some in
    let slice : c.as_slice-plan.result.now ≡ plan = c.as_slice-plan.ensures.value in
    let pages : c.in_ok-pages.pages.items ≡ renewed Pages plan image.pages =
    c.in_ok-pages.ensures ∙ ap (λ (l : List ℕ). renewed Pages l c.as_slice.result.now) slice ∙ ap (λ (l : List ℕ). renewed Pages plan l) c.as_slice.ensures.value in
    let directory : c.in_ok-directory.directory.items ≡ renewed Directory plan image.directory =
    c.in_ok-directory.ensures ∙ ap (λ (l : List ℕ). renewed Directory l c.as_slice-2.result.now) slice ∙ ap (λ (l : List ℕ). renewed Directory plan l) c.as_slice-2.ensures.value in
    ap (λ (l : List ℕ). (l, c.in_ok-directory.directory.items)) pages ∙ ap (λ (l : List ℕ). (renewed Pages plan image.pages, l)) directory ∙ plan_makes image plan is_redo
