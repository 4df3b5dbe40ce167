use Rattle.std.proofs.Common.{◌↔◌, ℕ, List, length, refl, sym, ◌∙◌, subst, IsTrue}
use Rattle.sdbm_saves.specs.declared.disk.DiskFile.TheVariants.{Pages, Directory}
use Rattle.sdbm_saves.specs.Redo.{new_length, IsBetween, Knows}
use Rattle.sdbm_saves.proofs.Knowing.{never}
use Rattle.sdbm_log.specs.Places.{KnowsFile}
use Rattle.sdbm_log.proofs.Places.{pages_known, directory_known, files_known}
use Rattle.sdbm_log.proofs.Results.{on_if}
use Rattle.sdbm_log.proofs.knowing.knows.Goals as goal

pub returns-then-not-branch : goal.returns-then-not-branch
returns-then-not-branch c =
    let both : List ℕ × List ℕ = (c.args.both.pages.now, c.args.both.directory.now) in (
      λ is. absurd (never is),
      λ knows. sym c.if-not-branch.true ∙ c.in_ok-knows_file.ensures.1 (pages_known c.args.plan.now both knows),
    )

pub returns : goal.returns
returns c =
    let plan : List ℕ = c.args.plan.now in
    let both : List ℕ × List ℕ = (c.args.both.pages.now, c.args.both.directory.now) in
    on_if _ (λ known. IsTrue known ↔ KnowsFile plan Directory both.1) (λ known. IsTrue known ↔ Knows plan both)
    (λ known is. (
      λ directory. record {
        pages = subst (λ (n : ℕ). IsBetween n (new_length Pages plan) (length both.0)) c.number.ensures.value
            (subst (λ (n : ℕ). IsBetween c.number.result n (length both.0)) c.number-2.ensures.value (c.if-not-is_between.ensures.0 refl));
        directory = subst (λ (n : ℕ). IsBetween n (new_length Directory plan) (length both.1)) c.number-3.ensures.value
            (subst (λ (n : ℕ). IsBetween c.number-3.result n (length both.1)) c.number-4.ensures.value (c.if-not-is_between-2.ensures.0 refl));
        bytes = files_known plan both (c.in_ok-knows_file.ensures.0 c.if-not-branch.false) (is.0 directory);
      },
      λ knows. is.1 (directory_known plan both knows),
    ))
    c.knows_file-2.ensures
