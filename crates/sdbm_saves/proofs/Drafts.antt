-- A plan that is built change by change.
use Rattle.std.proofs.Common.{◌≡◌, ◌≢◌, ⊎_elim, ℕ, zero, suc, ◌+◌, ◌-◌, ◌<◌, ◌≤◌, ◌^◌, inr, min, List, ◌++◌, length, take, drop, get_or, refl, sym, ◌∙◌, ap, subst, arith, length-append, length-drop}
use Rattle.std.proofs.lemmas.List.{get_or_append_left, get_or-take, get_or-drop, get_or_past, take_all, drop_all, drop-drop, take-append-le, drop-append-le, length-take-le, ext_get_or}
use Rattle.std.proofs.lemmas.Bool.{cases_lt}
use Rattle.sdbm_saves.specs.declared.disk.DiskFile.{DiskFile}
use Rattle.sdbm_saves.specs.declared.disk.DiskFile.TheVariants.{Pages, Directory, Redo}
use Rattle.sdbm_saves.specs.Disk.{written, resized}
use Rattle.sdbm_saves.specs.Redo.{number_at, data_file, file_of, offset_of, size_of, data_of, was_of, span_of, rest_of, rest_after, effect, replayed, new_length, old_length, count_of, renewed, data_in, IsPlan, Knows}
use Rattle.sdbm_saves.specs.Drafts.{change_bytes, plan_bytes, part_of, length_in, FitsIn, AreChanges}
use Rattle.sdbm_saves.proofs.Lists.{length-written, read_resized, written_before, written_inside, written_after}
use Rattle.sdbm_saves.proofs.Replays.{rest_next, replayed_next}

pub number_append : (xs ys : List ℕ) (at : ℕ) → at + 4 ≤ length xs → number_at (xs ++ ys) at ≡ number_at xs at
unfolding number_at
number_append xs ys at inside =
    let first = get_or_append_left xs ys 0 at (omega (arith, inside)) in
    let second = get_or_append_left xs ys 0 (at + 1) (omega (arith, inside)) in
    let third = get_or_append_left xs ys 0 (at + 2) (omega (arith, inside)) in
    let fourth = get_or_append_left xs ys 0 (at + 3) (omega (arith, inside)) in
    omega (arith, first, second, third, fourth)

effect_same : (touched file : DiskFile) (xs zs x : List ℕ) → offset_of zs ≡ offset_of xs → data_of zs ≡ data_of xs → effect touched file zs x ≡ effect touched file xs x
effect_same Pages Pages xs zs x offsets datas = λ i. written (offsets i) (datas i) x
effect_same Pages Directory xs zs x offsets datas = refl
effect_same Pages Redo xs zs x offsets datas = refl
effect_same Directory Pages xs zs x offsets datas = refl
effect_same Directory Directory xs zs x offsets datas = λ i. written (offsets i) (datas i) x
effect_same Directory Redo xs zs x offsets datas = refl
effect_same Redo Pages xs zs x offsets datas = refl
effect_same Redo Directory xs zs x offsets datas = refl
effect_same Redo Redo xs zs x offsets datas = refl

-- bytes after a change do not affect it
module _ (xs ys : List ℕ) (whole : span_of xs ≤ length xs) where
  pub size_append : size_of (xs ++ ys) ≡ size_of xs
  size_append = number_append xs ys 5 (omega (arith, whole))

  pub offset_append : offset_of (xs ++ ys) ≡ offset_of xs
  offset_append = number_append xs ys 1 (omega (arith, whole))

  pub file_append : file_of (xs ++ ys) ≡ file_of xs
  file_append = ap (λ n. data_file n) (get_or_append_left xs ys 0 0 (omega (arith, whole)))

  pub data_append : data_of (xs ++ ys) ≡ data_of xs
  data_append = ap (λ n. take n (drop 9 (xs ++ ys))) size_append
      ∙ ap (λ (l : List ℕ). take (size_of xs) l) (drop-append-le 9 xs ys (omega (arith, whole)))
      ∙ take-append-le (size_of xs) (drop 9 xs) ys (omega (arith, whole, length-drop 9 xs))

  pub was_append : was_of (xs ++ ys) ≡ was_of xs
  was_append = ap (λ n. take n (drop (9 + n) (xs ++ ys))) size_append
      ∙ ap (λ (l : List ℕ). take (size_of xs) l) (drop-append-le (9 + size_of xs) xs ys (omega (arith, whole)))
      ∙ take-append-le (size_of xs) (drop (9 + size_of xs) xs) ys (omega (arith, whole, length-drop (9 + size_of xs) xs))

  pub rest_append : rest_of (xs ++ ys) ≡ rest_of xs ++ ys
  rest_append = ap (λ n. drop (9 + (n + n)) (xs ++ ys)) size_append ∙ drop-append-le (span_of xs) xs ys whole

  pub effect_append : (file : DiskFile) (x : List ℕ) → effect (file_of (xs ++ ys)) file (xs ++ ys) x ≡ effect (file_of xs) file xs x
  effect_append file x = ap (λ t. effect t file (xs ++ ys) x) file_append ∙ effect_same (file_of xs) file xs (xs ++ ys) x offset_append data_append

module _ (pages directory : ℕ) (before : List ℕ × List ℕ) where
  first_fits : (n : ℕ) (xs : List ℕ) → AreChanges pages directory before (suc n) xs → FitsIn pages directory before xs
  first_fits n xs are = are.fits 0 (omega arith)

  next : (n : ℕ) (xs : List ℕ) → AreChanges pages directory before (suc n) xs → AreChanges pages directory before n (rest_of xs)
  next n xs are = record { fits = λ k lt. are.fits (suc k) (omega (arith, lt)); ends = are.ends }

  rest_behind : (n : ℕ) (xs ys : List ℕ) → AreChanges pages directory before n xs → rest_after n (xs ++ ys) ≡ ys
  rest_behind zero xs ys are = ap (λ (l : List ℕ). l ++ ys) are.ends
  rest_behind (suc n) xs ys are =
      ap (λ (l : List ℕ). rest_after n l) (rest_append xs ys (first_fits n xs are).whole) ∙ rest_behind n (rest_of xs) ys (next n xs are)

  replayed_behind : (file : DiskFile) (n : ℕ) (xs ys x : List ℕ) → AreChanges pages directory before n xs → replayed file n (xs ++ ys) x ≡ replayed file n xs x
  replayed_behind file zero xs ys x are = refl
  replayed_behind file (suc n) xs ys x are =
      let whole = (first_fits n xs are).whole in
      ap (λ (l : List ℕ). replayed file n l (effect (file_of (xs ++ ys)) file (xs ++ ys) x)) (rest_append xs ys whole)
      ∙ ap (λ (l : List ℕ). replayed file n (rest_of xs ++ ys) l) (effect_append xs ys whole file x)
      ∙ replayed_behind file n (rest_of xs) ys (effect (file_of xs) file xs x) (next n xs are)

  fits_append : (xs ys : List ℕ) → FitsIn pages directory before xs → FitsIn pages directory before (xs ++ ys)
  fits_append xs ys fit = record {
    whole = omega (arith, fit.whole, size_append xs ys fit.whole, length-append xs ys);
    inside = subst (λ f. offset_of (xs ++ ys) + size_of (xs ++ ys) ≤ length_in pages directory f) (sym (file_append xs ys fit.whole))
        (omega (arith, fit.inside, size_append xs ys fit.whole, offset_append xs ys fit.whole));
    was = λ i lt.
        ap (λ (l : List ℕ). get_or l i 0) (was_append xs ys fit.whole)
        ∙ fit.was i (omega (arith, lt, size_append xs ys fit.whole))
        ∙ ap (λ f. get_or (data_in before f) (offset_of xs + i) 0) (sym (file_append xs ys fit.whole))
        ∙ ap (λ n. get_or (data_in before (file_of (xs ++ ys))) (n + i) 0) (sym (offset_append xs ys fit.whole));
  }

  fits_behind : (n : ℕ) (xs ys : List ℕ) → AreChanges pages directory before n xs → (k : ℕ) → k < n → FitsIn pages directory before (rest_after k (xs ++ ys))
  fits_behind zero xs ys are k lt = absurd (omega (arith, lt))
  fits_behind (suc n) xs ys are zero lt = fits_append xs ys (first_fits n xs are)
  fits_behind (suc n) xs ys are (suc k) lt =
      subst (λ (l : List ℕ). FitsIn pages directory before (rest_after k l)) (sym (rest_append xs ys (first_fits n xs are).whole))
      (fits_behind n (rest_of xs) ys (next n xs are) k (omega (arith, lt)))

  -- one more change
  pub one_more : (n : ℕ) (xs ys : List ℕ) → AreChanges pages directory before n xs → FitsIn pages directory before ys → length ys ≡ span_of ys → AreChanges pages directory before (n + 1) (xs ++ ys)
  one_more n xs ys are fit long = record {
    fits = λ k lt. ⊎_elim
        (λ below. fits_behind n xs ys are k below)
        (λ le. let is : n ≡ k = omega (arith, le, lt) in
        subst (λ j. FitsIn pages directory before (rest_after j (xs ++ ys))) is (subst (λ (l : List ℕ). FitsIn pages directory before l) (sym (rest_behind n xs ys are)) fit))
        (cases_lt k n);
    ends = rest_next n (xs ++ ys) ∙ ap (λ (l : List ℕ). rest_of l) (rest_behind n xs ys are) ∙ drop_all (span_of ys) ys (omega (arith, long));
  }

  pub replayed_one_more : (file : DiskFile) (n : ℕ) (xs ys x : List ℕ) → AreChanges pages directory before n xs → replayed file (n + 1) (xs ++ ys) x ≡ effect (file_of ys) file ys (replayed file n xs x)
  replayed_one_more file n xs ys x are =
      replayed_next file n (xs ++ ys) x
      ∙ ap (λ (l : List ℕ). effect (file_of l) file l (replayed file n (xs ++ ys) x)) (rest_behind n xs ys are)
      ∙ ap (λ (l : List ℕ). effect (file_of ys) file ys l) (replayed_behind file n xs ys x are)

-- a spelled change
module _ (file : DiskFile) (at : ℕ) (bytes was : List ℕ) (near : at < 2 ^ 32) (short : length bytes < 2 ^ 32) where
  pub offset_spelled : offset_of (change_bytes file at bytes was) ≡ at
  unfolding number_at
  offset_spelled = omega (arith, near)

  pub size_spelled : size_of (change_bytes file at bytes was) ≡ length bytes
  unfolding number_at
  size_spelled = omega (arith, short)

  pub data_spelled : data_of (change_bytes file at bytes was) ≡ bytes
  data_spelled = ap (λ n. take n (bytes ++ was)) size_spelled ∙ take-append-le (length bytes) bytes was (omega arith) ∙ take_all (length bytes) bytes (omega arith)

  module _ (same : length was ≡ length bytes) where
    pub was_spelled : was_of (change_bytes file at bytes was) ≡ was
    was_spelled = ap (λ (l : List ℕ). take (size_of (change_bytes file at bytes was)) l) (sym (drop-drop (size_of (change_bytes file at bytes was)) 9 (change_bytes file at bytes was)))
        ∙ ap (λ n. take n (drop n (bytes ++ was))) size_spelled
        ∙ ap (λ (l : List ℕ). take (length bytes) l) (drop-append-le (length bytes) bytes was (omega arith) ∙ ap (λ (l : List ℕ). l ++ was) (drop_all (length bytes) bytes (omega arith)))
        ∙ take_all (length bytes) was (omega (arith, same))

    pub length_spelled : length (change_bytes file at bytes was) ≡ span_of (change_bytes file at bytes was)
    length_spelled = omega (arith, size_spelled, same, length-append bytes was)

pub file_spelled : (file : DiskFile) (at : ℕ) (bytes was : List ℕ) → file ≢ Redo → file_of (change_bytes file at bytes was) ≡ file
file_spelled Pages at bytes was is_data = refl
file_spelled Directory at bytes was is_data = refl
file_spelled Redo at bytes was is_data = absurd (is_data refl)

-- the effect of a spelled change on its own file and on the second file
pub effect_own : (file : DiskFile) (at : ℕ) (bytes was x : List ℕ) → at < 2 ^ 32 → length bytes < 2 ^ 32 → file ≢ Redo → effect (file_of (change_bytes file at bytes was)) file (change_bytes file at bytes was) x ≡ written at bytes x
effect_own Pages at bytes was x near short is_data = λ i. written (offset_spelled Pages at bytes was near short i) (data_spelled Pages at bytes was near short i) x
effect_own Directory at bytes was x near short is_data = λ i. written (offset_spelled Directory at bytes was near short i) (data_spelled Directory at bytes was near short i) x
effect_own Redo at bytes was x near short is_data = absurd (is_data refl)

pub effect_other : (file g : DiskFile) (at : ℕ) (bytes was x : List ℕ) → file ≢ Redo → g ≢ file → effect (file_of (change_bytes file at bytes was)) g (change_bytes file at bytes was) x ≡ x
effect_other Pages Pages at bytes was x is_data other = absurd (other refl)
effect_other Pages Directory at bytes was x is_data other = refl
effect_other Pages Redo at bytes was x is_data other = refl
effect_other Directory Pages at bytes was x is_data other = refl
effect_other Directory Directory at bytes was x is_data other = absurd (other refl)
effect_other Directory Redo at bytes was x is_data other = refl
effect_other Redo g at bytes was x is_data other = absurd (is_data refl)

-- a byte of a file, counted from an offset; bytes past its end are zeros
pub part_read : (old : List ℕ) (at n i : ℕ) → i < n → get_or (part_of old at n) i 0 ≡ get_or old (at + i) 0
part_read old at n i lt =
    read_resized n (drop (min at (length old)) old) i lt ∙ get_or-drop (min at (length old)) old i 0
    ∙ ⊎_elim
    (λ inside. let on : min at (length old) ≡ at = omega (arith, inside) in ap (λ k. get_or old (k + i) 0) on)
    (λ past. get_or_past old (min at (length old) + i) 0 (omega (arith, past)) ∙ sym (get_or_past old (at + i) 0 (omega (arith, past))))
    (cases_lt at (length old))

-- bytes that are already in the file
pub written_same : (at : ℕ) (block x : List ℕ) → at + length block ≤ length x → ((i : ℕ) → i < length block → get_or block i 0 ≡ get_or x (at + i) 0) → x ≡ written at block x
written_same at block x inside same = ext_get_or 0 x (written at block x) (sym (length-written at block x inside))
    (λ i below. ⊎_elim
    (λ lt. sym (written_before at block x i (omega (arith, inside)) lt))
    (λ le. ⊎_elim
    (λ lt. let on : at + (i - at) ≡ i = omega (arith, le) in
    ap (λ k. get_or x k 0) (sym on) ∙ sym (same (i - at) (omega (arith, lt, le))) ∙ sym (written_inside at block x i (omega (arith, inside)) le lt))
    (λ past. sym (written_after at block x i (omega (arith, inside)) past))
    (cases_lt i (at + length block)))
    (cases_lt i at))

-- a part of a file
module _ (at n : ℕ) (file : List ℕ) (inside : at + n ≤ length file) where
  pub length_part : length (take n (drop at file)) ≡ n
  length_part = length-take-le n (drop at file) (omega (arith, inside, length-drop at file))

  pub part_reads : (i : ℕ) → i < length (take n (drop at file)) → get_or (take n (drop at file)) i 0 ≡ get_or file (at + i) 0
  part_reads i lt = get_or-take n (drop at file) i 0 (omega (arith, lt, length_part)) ∙ get_or-drop at file i 0

  pub block_reads : (block : List ℕ) → length block ≡ n → take n (drop at file) ≡ block → (i : ℕ) → i < length block → get_or block i 0 ≡ get_or file (at + i) 0
  block_reads block long is i lt = ap (λ (l : List ℕ). get_or l i 0) (sym is) ∙ part_reads i (omega (arith, lt, long, length_part))

  pub block_read : (block : List ℕ) → length block ≡ n → ((i : ℕ) → i < length block → get_or block i 0 ≡ get_or file (at + i) 0) → take n (drop at file) ≡ block
  block_read block long same = ext_get_or 0 (take n (drop at file)) block (length_part ∙ sym long)
      (λ i below. part_reads i below ∙ sym (same i (omega (arith, below, long, length_part))))

-- the bytes of a plan
module _ (pages directory : ℕ) (before : List ℕ × List ℕ) (count : ℕ) (changes : List ℕ) (pages_small : pages < 2 ^ 32) (directory_small : directory < 2 ^ 32) (count_small : count < 2 ^ 32)
    (old_pages_small : length before.0 < 2 ^ 32) (old_directory_small : length before.1 < 2 ^ 32) where
  pages_planned : new_length Pages (plan_bytes pages directory (length before.0) (length before.1) count changes) ≡ pages
  unfolding number_at
  pages_planned = omega (arith, pages_small)

  directory_planned : new_length Directory (plan_bytes pages directory (length before.0) (length before.1) count changes) ≡ directory
  unfolding number_at
  directory_planned = omega (arith, directory_small)

  old_pages_planned : old_length Pages (plan_bytes pages directory (length before.0) (length before.1) count changes) ≡ length before.0
  unfolding number_at
  old_pages_planned = omega (arith, old_pages_small)

  old_directory_planned : old_length Directory (plan_bytes pages directory (length before.0) (length before.1) count changes) ≡ length before.1
  unfolding number_at
  old_directory_planned = omega (arith, old_directory_small)

  count_planned : count_of (plan_bytes pages directory (length before.0) (length before.1) count changes) ≡ count
  unfolding number_at
  count_planned = omega (arith, count_small)

  length_planned : (file : DiskFile) → length_in pages directory file ≡ new_length file (plan_bytes pages directory (length before.0) (length before.1) count changes)
  length_planned Pages = sym pages_planned
  length_planned Directory = sym directory_planned
  length_planned Redo = refl

  -- the old files may be any for which these are changes
  pub is_planned_by : (other : List ℕ × List ℕ) → AreChanges pages directory other count changes → IsPlan (plan_bytes pages directory (length before.0) (length before.1) count changes)
  is_planned_by other are = record {
    header = omega arith;
    signed = refl;
    ends = ap (λ n. rest_after n changes) count_planned ∙ are.ends;
    fits = λ k lt. let fit = are.fits k (omega (arith, lt, count_planned)) in record {
      whole = fit.whole;
      inside = omega (arith, fit.inside, length_planned (file_of (rest_after k changes)));
    };
  }

  pub is_planned : AreChanges pages directory before count changes → IsPlan (plan_bytes pages directory (length before.0) (length before.1) count changes)
  is_planned are = is_planned_by before are

  -- the plan knows its old files
  pub knows_planned : AreChanges pages directory before count changes → Knows (plan_bytes pages directory (length before.0) (length before.1) count changes) before
  knows_planned are = record {
    pages = record { no_shorter = omega (arith, old_pages_planned); no_longer = omega (arith, old_pages_planned) };
    directory = record { no_shorter = omega (arith, old_directory_planned); no_longer = omega (arith, old_directory_planned) };
    bytes = λ change one i lt.
        let fit : FitsIn pages directory before change = subst (λ (l : List ℕ). FitsIn pages directory before l) (sym one.is) (are.fits one.index (omega (arith, one.counted, count_planned))) in
        record { change = change; one = one; offers = record { touches = refl; index = i; covered = lt; place = refl; is = inr (sym (fit.was i lt)) } };
  }

  pub renewed_planned : (file : DiskFile) (n : ℕ) (old : List ℕ) → length_in pages directory file ≡ n → renewed file (plan_bytes pages directory (length before.0) (length before.1) count changes) old ≡ replayed file count changes (resized n old)
  renewed_planned file n old is =
      let long : new_length file (plan_bytes pages directory (length before.0) (length before.1) count changes) ≡ n = sym (length_planned file) ∙ is in
      λ i. replayed file (count_planned i) changes (resized (long i) old)
