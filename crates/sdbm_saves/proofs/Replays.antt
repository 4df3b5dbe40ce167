-- Replaying a plan that is partly done has the same result.
use Rattle.std.proofs.Common.{◌≡◌, inl, ⊎_elim, ℕ, zero, suc, ◌+◌, ◌-◌, ◌<◌, ◌≤◌, max, List, length, drop, get_or, refl, sym, ◌∙◌, ap, subst, arith, length-drop}
use Rattle.std.proofs.lemmas.List.{length-take-le}
use Rattle.std.proofs.lemmas.Bool.{cases_lt}
use Rattle.sdbm_saves.specs.declared.disk.DiskFile.{DiskFile}
use Rattle.sdbm_saves.specs.declared.disk.DiskFile.TheVariants.{Pages, Directory, Redo}
use Rattle.sdbm_saves.specs.Disk.{Image, content, put, written, resized, Torn, TornLength, Within}
use Rattle.sdbm_saves.specs.Redo.{data_file, file_of, offset_of, size_of, data_of, span_of, rest_of, rest_after, effect, replayed, replayed_image, new_length, old_length, count_of, changes_of, renewed, Fits, IsPlan, IsChangeOf, IsBetween, HasByte, Knows, data_in, Alike, EndsWith, AlikeFor}
use Rattle.sdbm_saves.proofs.Lists.{Elsewhere, length-written, absorbs, written_elsewhere, length-resized, resized_elsewhere, resized_same}

pub length-data : (change : List ℕ) → span_of change ≤ length change → length (data_of change) ≡ size_of change
length-data change whole = length-take-le (size_of change) (drop 9 change) (omega (arith, whole, length-drop 9 change))

data_inside : (change : List ℕ) (n : ℕ) (x : List ℕ) → span_of change ≤ length change → offset_of change + size_of change ≤ n → length x ≡ n → offset_of change + length (data_of change) ≤ length x
data_inside change n x whole inside is = omega (arith, length-data change whole, inside, is)

module _ (plan change : List ℕ) (whole : span_of change ≤ length change) where
  pub length-effect : (touched file : DiskFile) (x : List ℕ) → offset_of change + size_of change ≤ new_length touched plan → length x ≡ new_length file plan → length (effect touched file change x) ≡ length x
  length-effect Pages Pages x inside is = length-written (offset_of change) (data_of change) x (data_inside change (new_length Pages plan) x whole inside is)
  length-effect Pages Directory x inside is = refl
  length-effect Pages Redo x inside is = refl
  length-effect Directory Pages x inside is = refl
  length-effect Directory Directory x inside is = length-written (offset_of change) (data_of change) x (data_inside change (new_length Directory plan) x whole inside is)
  length-effect Directory Redo x inside is = refl
  length-effect Redo Pages x inside is = refl
  length-effect Redo Directory x inside is = refl
  length-effect Redo Redo x inside is = refl

  effect_elsewhere : (touched file : DiskFile) (at n : ℕ) (x y : List ℕ) → offset_of change + size_of change ≤ new_length touched plan → length x ≡ new_length file plan → length y ≡ length x → Elsewhere at n x y → Elsewhere at n (effect touched file change x) (effect touched file change y)
  effect_elsewhere Pages Pages at n x y inside is len same = written_elsewhere at n (offset_of change) (data_of change) x y (data_inside change (new_length Pages plan) x whole inside is) len same
  effect_elsewhere Pages Directory at n x y inside is len same = same
  effect_elsewhere Pages Redo at n x y inside is len same = same
  effect_elsewhere Directory Pages at n x y inside is len same = same
  effect_elsewhere Directory Directory at n x y inside is len same = written_elsewhere at n (offset_of change) (data_of change) x y (data_inside change (new_length Directory plan) x whole inside is) len same
  effect_elsewhere Directory Redo at n x y inside is len same = same
  effect_elsewhere Redo Pages at n x y inside is len same = same
  effect_elsewhere Redo Directory at n x y inside is len same = same
  effect_elsewhere Redo Redo at n x y inside is len same = same

  sized : (at : ℕ) (x y : List ℕ) → Elsewhere at (size_of change) x y → Elsewhere at (length (data_of change)) x y
  sized at x y same = subst (λ n. Elsewhere at n x y) (sym (length-data change whole)) same

  -- a change overwrites all bytes in its range
  effect_absorbs : (g : ℕ) (x y : List ℕ) → offset_of change + size_of change ≤ new_length (data_file g) plan → length x ≡ new_length (data_file g) plan → length y ≡ length x → Elsewhere (offset_of change) (size_of change) x y → effect (data_file g) (data_file g) change y ≡ effect (data_file g) (data_file g) change x
  effect_absorbs zero x y inside is len same = absorbs (offset_of change) (data_of change) x y (data_inside change (new_length Pages plan) x whole inside is) len (sized (offset_of change) x y same)
  effect_absorbs (suc g) x y inside is len same = absorbs (offset_of change) (data_of change) x y (data_inside change (new_length Directory plan) x whole inside is) len (sized (offset_of change) x y same)

-- bytes that differ in the range of a change are the same after all changes
replayed_absorbs : (file : DiskFile) (plan : List ℕ) (n : ℕ) (changes x y : List ℕ) → ((k : ℕ) → k < n → Fits plan (rest_after k changes)) → length x ≡ new_length file plan → length y ≡ length x
    → (i : ℕ) → i < n → file_of (rest_after i changes) ≡ file → Elsewhere (offset_of (rest_after i changes)) (size_of (rest_after i changes)) x y → replayed file n changes y ≡ replayed file n changes x
replayed_absorbs file plan zero changes x y fits is len i lt touches same = absurd (omega (arith, lt))
replayed_absorbs file plan (suc n) changes x y fits is len zero lt touches same =
    let first : Fits plan changes = fits 0 (omega arith) in
    let hidden : effect (file_of changes) (file_of changes) changes y ≡ effect (file_of changes) (file_of changes) changes x =
    effect_absorbs plan changes first.whole (get_or changes 0 0) x y first.inside (is ∙ ap (λ f. new_length f plan) (sym touches)) len same in
    ap (λ (l : List ℕ). replayed file n (rest_of changes) l) (subst (λ f. effect (file_of changes) f changes y ≡ effect (file_of changes) f changes x) touches hidden)
replayed_absorbs file plan (suc n) changes x y fits is len (suc i) lt touches same =
    let first : Fits plan changes = fits 0 (omega arith) in
    let len_x = length-effect plan changes first.whole (file_of changes) file x first.inside is in
    let len_y = length-effect plan changes first.whole (file_of changes) file y first.inside (len ∙ is) in
    replayed_absorbs file plan n (rest_of changes) (effect (file_of changes) file changes x) (effect (file_of changes) file changes y)
    (λ k below. fits (suc k) (omega (arith, below))) (len_x ∙ is) (len_y ∙ len ∙ sym len_x) i (omega (arith, lt)) touches
    (effect_elsewhere plan changes first.whole (file_of changes) file (offset_of (rest_after i (rest_of changes))) (size_of (rest_after i (rest_of changes))) x y first.inside is len same)

pub length-replayed : (file : DiskFile) (plan : List ℕ) (n : ℕ) (changes x : List ℕ) → ((k : ℕ) → k < n → Fits plan (rest_after k changes)) → length x ≡ new_length file plan → length (replayed file n changes x) ≡ new_length file plan
length-replayed file plan zero changes x fits is = is
length-replayed file plan (suc n) changes x fits is =
    let first : Fits plan changes = fits 0 (omega arith) in
    length-replayed file plan n (rest_of changes) (effect (file_of changes) file changes x) (λ k below. fits (suc k) (omega (arith, below))) (length-effect plan changes first.whole (file_of changes) file x first.inside is ∙ is)

-- one more change
pub replayed_more : (file : DiskFile) (n : ℕ) (changes x : List ℕ) → replayed file (suc n) changes x ≡ effect (file_of (rest_after n changes)) file (rest_after n changes) (replayed file n changes x)
replayed_more file zero changes x = refl
replayed_more file (suc n) changes x = replayed_more file n (rest_of changes) (effect (file_of changes) file changes x)

pub rest_more : (n : ℕ) (changes : List ℕ) → rest_after (suc n) changes ≡ rest_of (rest_after n changes)
rest_more zero changes = refl
rest_more (suc n) changes = rest_more n (rest_of changes)

module _ (plan : List ℕ) where
  renewed_absorbs : IsPlan plan → (file : DiskFile) (x y : List ℕ) (i : ℕ) → i < count_of plan → file_of (rest_after i (changes_of plan)) ≡ file
      → Elsewhere (offset_of (rest_after i (changes_of plan))) (size_of (rest_after i (changes_of plan))) x y → renewed file plan y ≡ renewed file plan x
  renewed_absorbs is_plan file x y i lt touches same =
      replayed_absorbs file plan (count_of plan) (changes_of plan) (resized (new_length file plan) x) (resized (new_length file plan) y) is_plan.fits
      (length-resized (new_length file plan) x) (length-resized (new_length file plan) y ∙ sym (length-resized (new_length file plan) x)) i lt touches
      (resized_elsewhere _ _ (new_length file plan) x y same)

  pub alike_self : (d : Image) → Alike plan d d
  alike_self d = record { redo = refl; same = refl; known = λ knows. knows }

  pub alike_joins : (a b c : Image) → Alike plan a b → Alike plan b c → Alike plan a c
  alike_joins a b c first next = record { redo = next.redo ∙ first.redo; same = next.same ∙ first.same; known = λ knows. next.known (first.known knows) }

  elsewhere_torn : (at n : ℕ) (bytes x y : List ℕ) → length bytes ≡ n → Torn at bytes x y → Elsewhere at n x y
  elsewhere_torn at n bytes x y long torn = record { before = torn.before; after = λ i le. torn.after i (omega (arith, le, long)) }

  -- The invariant of a step of a file: the result of the plan is the same, the length is between the old and the new one, and the plan
  -- knows the bytes.
  record Keeps (g : ℕ) (x y : List ℕ) : Type 0 where
    same : renewed (data_file g) plan y ≡ renewed (data_file g) plan x
    long : IsBetween (old_length (data_file g) plan) (new_length (data_file g) plan) (length x) → IsBetween (old_length (data_file g) plan) (new_length (data_file g) plan) (length y)
    bytes : (at : ℕ) → at < new_length (data_file g) plan → HasByte plan (data_file g) at (get_or x at 0) → HasByte plan (data_file g) at (get_or y at 0)

  -- the plan still knows the bytes of one file after a step of either file
  kept_bytes : IsPlan plan → (x y other : List ℕ) → Keeps zero x y → (change : List ℕ) → IsChangeOf plan change → (n : ℕ) → get_or change 0 0 ≡ n
      → (i : ℕ) → i < size_of change → HasByte plan (data_file n) (offset_of change + i) (get_or (data_in (x, other) (data_file n)) (offset_of change + i) 0)
      → HasByte plan (data_file n) (offset_of change + i) (get_or (data_in (y, other) (data_file n)) (offset_of change + i) 0)
  kept_bytes is_plan x y other keeps change one zero is i lt has =
      let fit : Fits plan change = subst (λ (l : List ℕ). Fits plan l) (sym one.is) (is_plan.fits one.index one.counted) in
      keeps.bytes (offset_of change + i) (omega (arith, lt, fit.inside, ap (λ m. new_length (data_file m) plan) is)) has
  kept_bytes is_plan x y other keeps change one (suc n) is i lt has = has

  kept_other : IsPlan plan → (x y other : List ℕ) → Keeps 1 x y → (change : List ℕ) → IsChangeOf plan change → (n : ℕ) → get_or change 0 0 ≡ n
      → (i : ℕ) → i < size_of change → HasByte plan (data_file n) (offset_of change + i) (get_or (data_in (other, x) (data_file n)) (offset_of change + i) 0)
      → HasByte plan (data_file n) (offset_of change + i) (get_or (data_in (other, y) (data_file n)) (offset_of change + i) 0)
  kept_other is_plan x y other keeps change one zero is i lt has = has
  kept_other is_plan x y other keeps change one (suc n) is i lt has =
      let fit : Fits plan change = subst (λ (l : List ℕ). Fits plan l) (sym one.is) (is_plan.fits one.index one.counted) in
      keeps.bytes (offset_of change + i) (omega (arith, lt, fit.inside, ap (λ m. new_length (data_file m) plan) is)) has

  knows_pages : IsPlan plan → (x y other : List ℕ) → Keeps zero x y → Knows plan (x, other) → Knows plan (y, other)
  knows_pages is_plan x y other keeps knows = record {
    pages = keeps.long knows.pages;
    directory = knows.directory;
    bytes = λ change one i lt. kept_bytes is_plan x y other keeps change one (get_or change 0 0) refl i lt (knows.bytes change one i lt);
  }

  knows_directory : IsPlan plan → (x y other : List ℕ) → Keeps 1 x y → Knows plan (other, x) → Knows plan (other, y)
  knows_directory is_plan x y other keeps knows = record {
    pages = knows.pages;
    directory = keeps.long knows.directory;
    bytes = λ change one i lt. kept_other is_plan x y other keeps change one (get_or change 0 0) refl i lt (knows.bytes change one i lt);
  }

  alike_within : IsPlan plan → (g : ℕ) (step : List ℕ → List ℕ → Type 0) → ((x y : List ℕ) → step x y → Keeps g x y) → (d c : Image) → Within (data_file g) step d c → Alike plan d c
  alike_within is_plan zero step keeps d c within =
      let kept = keeps d.pages c.pages within.stepped in
      record {
        redo = ap (λ (o : Image). o.redo) within.others;
        same = λ i. (kept.same i, renewed Directory plan ((within.others i).directory));
        known = λ knows. subst (λ (l : List ℕ). Knows plan (c.pages, l)) (sym (ap (λ (o : Image). o.directory) within.others)) (knows_pages is_plan d.pages c.pages d.directory kept knows);
      }
  alike_within is_plan (suc g) step keeps d c within =
      let kept = keeps d.directory c.directory within.stepped in
      record {
        redo = ap (λ (o : Image). o.redo) within.others;
        same = λ i. (renewed Pages plan ((within.others i).pages), kept.same i);
        known = λ knows. subst (λ (l : List ℕ). Knows plan (l, c.directory)) (sym (ap (λ (o : Image). o.pages) within.others))
            (knows_directory is_plan d.directory c.directory d.pages (record { same = kept.same; long = kept.long; bytes = kept.bytes }) knows);
      }

  -- a write within the new length, interrupted by a crash, leaves a length between
  between_torn : (one other at n : ℕ) (x y : List ℕ) → at + n ≤ other → length x ≤ length y → length y ≤ max (length x) (at + n) → IsBetween one other (length x) → IsBetween one other (length y)
  between_torn one other at n x y inside no_shorter no_longer between =
      record { no_shorter = omega (arith, no_shorter, between.no_shorter); no_longer = omega (arith, no_longer, inside, between.no_longer) }

  -- a byte of a file after an interrupted change
  torn_byte : (change : List ℕ) → span_of change ≤ length change → IsChangeOf plan change → (x y : List ℕ) → Torn (offset_of change) (data_of change) x y
      → (at : ℕ) → HasByte plan (file_of change) at (get_or x at 0) → HasByte plan (file_of change) at (get_or y at 0)
  torn_byte change whole one x y torn at has = ⊎_elim
      (λ lt. same (torn.before at lt))
      (λ le. ⊎_elim
      (λ lt. let on : offset_of change + (at - offset_of change) ≡ at = omega (arith, le) in
      let covered : at - offset_of change < size_of change = omega (arith, le, lt, length-data change whole) in
      ⊎_elim
      (λ was. same (ap (λ k. get_or y k 0) (sym on) ∙ was ∙ ap (λ k. get_or x k 0) on))
      (λ new. record {
        change = change;
        one = one;
        offers = record { touches = refl; index = at - offset_of change; covered = covered; place = on; is = inl (ap (λ k. get_or y k 0) (sym on) ∙ new) };
      })
      (torn.within (at - offset_of change) (omega (arith, covered, length-data change whole))))
      (λ past. same (torn.after at past))
      (cases_lt at (offset_of change + length (data_of change))))
      (cases_lt at (offset_of change))
    where
      same : get_or y at 0 ≡ get_or x at 0 → HasByte plan (file_of change) at (get_or y at 0)
      same is = subst (λ b. HasByte plan (file_of change) at b) (sym is) has

  -- an interrupted change
  pub alike_torn : IsPlan plan → (i : ℕ) → i < count_of plan → (d c : Image) → Within (file_of (rest_after i (changes_of plan))) (Torn (offset_of (rest_after i (changes_of plan))) (data_of (rest_after i (changes_of plan)))) d c → Alike plan d c
  alike_torn is_plan i lt d c within =
      let change = rest_after i (changes_of plan) in
      let fit : Fits plan change = is_plan.fits i lt in
      let long = length-data change fit.whole in
      alike_within is_plan (get_or change 0 0) _
      (λ x y torn. record {
        same = renewed_absorbs is_plan (file_of change) x y i lt refl (elsewhere_torn _ _ _ x y long torn);
        long = between_torn _ _ (offset_of change) (length (data_of change)) x y (omega (arith, fit.inside, long)) torn.no_shorter torn.no_longer;
        bytes = λ at below. torn_byte change fit.whole (record { index = i; counted = lt; is = refl }) x y torn at;
      }) d c within

  between_length : (one n : ℕ) (x y : List ℕ) → TornLength n x y → IsBetween one n (length x) → IsBetween one n (length y)
  between_length one n x y torn between =
      record { no_shorter = omega (arith, torn.no_shorter, between.no_shorter); no_longer = omega (arith, torn.no_longer, between.no_longer) }

  -- an interrupted change of the length
  pub alike_resized : IsPlan plan → (g : ℕ) (d c : Image) → Within (data_file g) (TornLength (new_length (data_file g) plan)) d c → Alike plan d c
  alike_resized is_plan g d c within =
      alike_within is_plan g _
      (λ x y torn. record {
        same = ap (λ (l : List ℕ). replayed (data_file g) (count_of plan) (changes_of plan) l) (resized_same (new_length (data_file g) plan) x y torn.same);
        long = between_length _ _ x y torn;
        bytes = λ at below has. subst (λ b. HasByte plan (data_file g) at b) (sym (torn.same at below)) has;
      }) d c within

-- the same with `+ 1`, as code counts
pub rest_next : (n : ℕ) (changes : List ℕ) → rest_after (n + 1) changes ≡ rest_of (rest_after n changes)
rest_next n changes = let is : n + 1 ≡ suc n = omega arith in ap (λ k. rest_after k changes) is ∙ rest_more n changes

pub replayed_next : (file : DiskFile) (n : ℕ) (changes x : List ℕ) → replayed file (n + 1) changes x ≡ effect (file_of (rest_after n changes)) file (rest_after n changes) (replayed file n changes x)
replayed_next file n changes x = let is : n + 1 ≡ suc n = omega arith in ap (λ k. replayed file k changes x) is ∙ replayed_more file n changes x

image_step : (g : ℕ) (change : List ℕ) (image : Image) → put (data_file g) (written (offset_of change) (data_of change) (content (data_file g) image)) image ≡ record { pages = effect (data_file g) Pages change image.pages; directory = effect (data_file g) Directory change image.directory; redo = image.redo }
image_step zero change image = refl
image_step (suc g) change image = refl

-- one more change, for both files
pub image_next : (plan : List ℕ) (n : ℕ) (image : Image) (change : List ℕ) → change ≡ rest_after n (changes_of plan)
    → put (file_of change) (written (offset_of change) (data_of change) (content (file_of change) (replayed_image n plan image))) (replayed_image n plan image) ≡ replayed_image (n + 1) plan image
image_next plan n image change is =
    let here = rest_after n (changes_of plan) in
    let at_here : put (file_of here) (written (offset_of here) (data_of here) (content (file_of here) (replayed_image n plan image))) (replayed_image n plan image) ≡ replayed_image (n + 1) plan image =
    image_step (get_or here 0 0) here (replayed_image n plan image)
    ∙ (λ i. record { pages = sym (replayed_next Pages n (changes_of plan) image.pages) i; directory = sym (replayed_next Directory n (changes_of plan) image.directory) i; redo = image.redo }) in
    subst (λ (k : List ℕ). put (file_of k) (written (offset_of k) (data_of k) (content (file_of k) (replayed_image n plan image))) (replayed_image n plan image) ≡ replayed_image (n + 1) plan image) (sym is) at_here

-- the files keep their new lengths
pub image_sized : (plan : List ℕ) → IsPlan plan → (n : ℕ) → n ≤ count_of plan → (image : Image) → ((g : ℕ) → length (content (data_file g) image) ≡ new_length (data_file g) plan) → (g : ℕ) → length (content (data_file g) (replayed_image n plan image)) ≡ new_length (data_file g) plan
image_sized plan is_plan n le image sized zero = length-replayed Pages plan n (changes_of plan) image.pages (λ k lt. is_plan.fits k (omega (arith, lt, le))) (sized 0)
image_sized plan is_plan n le image sized (suc g) = length-replayed Directory plan n (changes_of plan) image.directory (λ k lt. is_plan.fits k (omega (arith, lt, le))) (sized 1)

-- the same for bytes that are equal to the change
pub alike_change : (plan : List ℕ) → IsPlan plan → (i : ℕ) → i < count_of plan → (change : List ℕ) → change ≡ rest_after i (changes_of plan) → (d c : Image) → Within (file_of change) (Torn (offset_of change) (data_of change)) d c → Alike plan d c
alike_change plan is_plan i lt change is d c within =
    alike_torn plan is_plan i lt d c (subst (λ (k : List ℕ). Within (file_of k) (Torn (offset_of k) (data_of k)) d c) is within)

pub alike_length : (plan : List ℕ) → IsPlan plan → (g n : ℕ) → n ≡ new_length (data_file g) plan → (d c : Image) → Within (data_file g) (TornLength n) d c → Alike plan d c
alike_length plan is_plan g n is d c within = alike_resized plan is_plan g d c (subst (λ k. Within (data_file g) (TornLength k) d c) is within)

-- the changes after n + m of them
pub after_split : (n m : ℕ) (xs : List ℕ) → rest_after (n + m) xs ≡ rest_after m (rest_after n xs)
after_split zero m xs = let is : 0 + m ≡ m = omega arith in ap (λ k. rest_after k xs) is
after_split (suc n) m xs = let is : suc n + m ≡ suc (n + m) = omega arith in ap (λ k. rest_after k xs) is ∙ after_split n m (rest_of xs)

-- the same for each plan that ends with this one
pub for_self : (plan : List ℕ) (d : Image) → AlikeFor plan d d
for_self plan d = λ whole ends. alike_self whole d

pub for_joins : (plan : List ℕ) (a b c : Image) → AlikeFor plan a b → AlikeFor plan b c → AlikeFor plan a c
for_joins plan a b c first next = λ whole ends. alike_joins whole a b c (first whole ends) (next whole ends)

pub for_change : (plan : List ℕ) (i : ℕ) → i < count_of plan → (change : List ℕ) → change ≡ rest_after i (changes_of plan) → (d c : Image) → Within (file_of change) (Torn (offset_of change) (data_of change)) d c → AlikeFor plan d c
for_change plan i lt change is d c within = λ whole ends.
    alike_change whole ends.is_plan (ends.before + i) (omega (arith, lt, ends.count)) change
    (is ∙ ap (λ (l : List ℕ). rest_after i l) (sym ends.changes) ∙ sym (after_split ends.before i (changes_of whole))) d c within

pub for_length : (plan : List ℕ) (g n : ℕ) → n ≡ new_length (data_file g) plan → (d c : Image) → Within (data_file g) (TornLength n) d c → AlikeFor plan d c
for_length plan g n is d c within = λ whole ends. alike_length whole ends.is_plan g n (is ∙ sym (ends.lengths g)) d c within

pub ends_itself : (plan : List ℕ) → IsPlan plan → EndsWith plan plan
ends_itself plan is_plan = record { is_plan = is_plan; before = 0; count = omega arith; changes = refl; lengths = λ g. refl }
