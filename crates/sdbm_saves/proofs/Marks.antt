-- The commit byte (mark) and the bytes after it, when a crash happens.
use Rattle.std.proofs.Common.{◌≡◌, ◌≢◌, ◌⊎◌, inl, ⊎_elim, ℕ, ◌≤◌, List, [], ◌∷◌, length, drop, get_or, refl, sym, ◌∙◌, ap, subst, arith}
use Rattle.std.proofs.lemmas.Bool.Decides.{nat_tests}
use Rattle.sdbm_saves.specs.declared.disk.DiskFile.{DiskFile}
use Rattle.sdbm_saves.specs.declared.disk.DiskFile.TheVariants.{Pages, Directory, Redo}
use Rattle.sdbm_saves.specs.Disk.{Image, Torn, TornLength, Within}
use Rattle.sdbm_saves.specs.Redo.{files, renewed_files, mark_of, stands_for, IsPlan, Knows, CanEnd, StaysUnmarked, Alike}
use Rattle.sdbm_saves.proofs.Lists.{behind_first}

pub when_marked : (image : Image) → mark_of image ≡ 1 → stands_for image ≡ renewed_files (drop 1 image.redo) image
when_marked image is = grind (arith, nat_tests)

pub when_unmarked : (image : Image) → mark_of image ≢ 1 → stands_for image ≡ files image
when_unmarked image isnt = grind (arith, nat_tests)

pub stays_self : (d : Image) → StaysUnmarked d d
stays_self d = record { files = refl; mark = λ unmarked. unmarked }

pub stays_joins : (a b c : Image) → StaysUnmarked a b → StaysUnmarked b c → StaysUnmarked a c
stays_joins a b c first next = record { files = next.files ∙ first.files; mark = λ unmarked. next.mark (first.mark unmarked) }

pub stays_within : (step : List ℕ → List ℕ → Type 0) → ((x y : List ℕ) → step x y → (get_or y 0 0 ≡ get_or x 0 0) ⊎ (get_or y 0 0 ≡ 0)) → (d c : Image) → Within Redo step d c → StaysUnmarked d c
stays_within step keeps d c within = record {
  files = ap (λ (o : Image). files o) within.others;
  mark = λ unmarked marked. ⊎_elim (λ same. unmarked (sym same ∙ marked)) (λ none. absurd (omega (arith, none, marked))) (keeps d.redo c.redo within.stepped);
}

-- writing the commit byte leaves the bytes after it unchanged
pub behind_mark : (value : ℕ) (d c : Image) → 1 ≤ length d.redo → Within Redo (Torn 0 (value ∷ [])) d c → drop 1 c.redo ≡ drop 1 d.redo
behind_mark value d c long within =
    let torn : Torn 0 (value ∷ []) d.redo c.redo = within.stepped in
    behind_first d.redo c.redo (omega (arith, long, torn.no_shorter, torn.no_longer)) (λ i le. torn.after i (omega (arith, le)))

-- if the commit byte is not 1, there is nothing to recover
pub nothing_to_end : (c : Image) → mark_of c ≢ 1 → CanEnd c
nothing_to_end c unmarked = λ marked. absurd (unmarked marked)

-- the plan after the commit byte still knows the files
pub knows_still : (plan : List ℕ) (c : Image) → IsPlan plan → drop 1 c.redo ≡ plan → Knows plan (files c) → CanEnd c
knows_still plan c is_plan behind knows = λ marked. subst (λ (l : List ℕ). IsPlan l × Knows l (files c)) (sym behind) (is_plan, knows)

pub within_self : (file : DiskFile) (step : List ℕ → List ℕ → Type 0) → ((x : List ℕ) → step x x) → (d : Image) → Within file step d d
within_self Pages step stays d = record { stepped = stays d.pages; others = refl }
within_self Directory step stays d = record { stepped = stays d.directory; others = refl }
within_self Redo step stays d = record { stepped = stays d.redo; others = refl }

pub torn_self : (at : ℕ) (bytes x : List ℕ) → Torn at bytes x x
torn_self at bytes x = record { before = λ i lt. refl; within = λ i lt. inl refl; after = λ i le. refl; no_shorter = omega arith; no_longer = omega arith }

pub length_self : (n : ℕ) (x : List ℕ) → TornLength n x x
length_self n x = record { same = λ i lt. refl; no_shorter = omega arith; no_longer = omega arith }

module _ (plan : List ℕ) (first : Image) where
  -- while a committed plan is being applied
  pub half_done : first.redo ≡ 1 ∷ plan → (d c : Image) → d ≡ first → Alike plan d c → stands_for c ≡ renewed_files plan first
  half_done marked d c is alike =
      let redo_is : c.redo ≡ 1 ∷ plan = alike.redo ∙ ap (λ (o : Image). o.redo) is ∙ marked in
      when_marked c (ap (λ (l : List ℕ). get_or l 0 0) redo_is)
      ∙ ap (λ (l : List ℕ). renewed_files (drop 1 l) c) redo_is
      ∙ alike.same ∙ ap (λ (o : Image). renewed_files plan o) is

  pub half_ended : IsPlan plan → Knows plan (files first) → first.redo ≡ 1 ∷ plan → (d c : Image) → d ≡ first → Alike plan d c → CanEnd c
  half_ended is_plan knows marked d c is alike =
      knows_still plan c is_plan (ap (λ (l : List ℕ). drop 1 l) (alike.redo ∙ ap (λ (o : Image). o.redo) is ∙ marked))
      (alike.known (subst (λ (o : Image). Knows plan (files o)) (sym is) knows))

-- an image is determined by its data files and its redo file
pub image_by_files : (c d : Image) → files c ≡ files d → c.redo ≡ d.redo → c ≡ d
image_by_files c d same redo i = record { pages = (same i).0; directory = (same i).1; redo = redo i }
