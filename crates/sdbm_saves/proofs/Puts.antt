-- Bytes that a draft puts into a file, part by part.
use Rattle.std.proofs.Common.{◌≡◌, ◌≢◌, ⊎_elim, inl, inr, ℕ, ◌+◌, ◌-◌, ◌<◌, ◌≤◌, ◌^◌, min, List, [], ◌++◌, length, take, drop, get_or, refl, sym, ◌∙◌, ap, subst, arith, length-append}
use Rattle.std.proofs.Math.Seq.{take-add}
use Rattle.std.proofs.lemmas.List.{ext_get_or, get_or_append_left, get_or-append_right, get_or-take, get_or-drop, get_or_past, length-take, length-take-le, take_all, drop_all, append-nil}
use Rattle.std.proofs.lemmas.Bool.{cases_lt}
use Rattle.sdbm_saves.specs.declared.disk.DiskFile.{DiskFile}
use Rattle.sdbm_saves.specs.declared.disk.DiskFile.TheVariants.{Pages, Directory, Redo}
use Rattle.sdbm_saves.specs.Disk.{written, resized}
use Rattle.sdbm_saves.specs.Redo.{file_of, offset_of, size_of, replayed, data_in}
use Rattle.sdbm_saves.specs.Drafts.{change_bytes, part_of, length_in, FitsIn, AreChanges, Puts, ReadsAt, HasPut}
use Rattle.sdbm_saves.proofs.Lists.{length-written, written_before, written_inside, written_after, length-resized, read_resized}
use Rattle.sdbm_saves.proofs.Drafts.{part_read, length_part, block_reads, written_same, one_more, replayed_one_more, offset_spelled, size_spelled, was_spelled, length_spelled, file_spelled, effect_own, effect_other}

-- two adjacent writes are one write
module _ (at : ℕ) (front back x : List ℕ) (room : at + length (front ++ back) ≤ length x) where
  both_long : length (front ++ back) ≡ length front + length back
  both_long = length-append front back

  first_room : at + length front ≤ length x
  first_room = omega (arith, room, both_long)

  abbrev middle : List ℕ
  middle = written at front x

  middle_long : length middle ≡ length x
  middle_long = length-written at front x first_room

  second_room : at + length front + length back ≤ length middle
  second_room = omega (arith, room, both_long, middle_long)

  pub written_twice : written (at + length front) back middle ≡ written at (front ++ back) x
  written_twice = ext_get_or 0 (written (at + length front) back middle) (written at (front ++ back) x)
      (length-written (at + length front) back middle second_room ∙ middle_long ∙ sym (length-written at (front ++ back) x room))
      (λ i below. ⊎_elim (λ lt. ahead i lt) (λ le. ⊎_elim (λ lt. in_front i le lt) (λ past. ⊎_elim (λ lt. in_back i past lt) (λ behind. after i behind) (cases_lt i (at + length front + length back))) (cases_lt i (at + length front))) (cases_lt i at))
    where
      ahead : (i : ℕ) → i < at → get_or (written (at + length front) back middle) i 0 ≡ get_or (written at (front ++ back) x) i 0
      ahead i lt = written_before (at + length front) back middle i (omega (arith, second_room)) (omega (arith, lt)) ∙ written_before at front x i (omega (arith, first_room)) lt ∙ sym (written_before at (front ++ back) x i (omega (arith, first_room)) lt)

      in_front : (i : ℕ) → at ≤ i → i < at + length front → get_or (written (at + length front) back middle) i 0 ≡ get_or (written at (front ++ back) x) i 0
      in_front i le lt =
          written_before (at + length front) back middle i (omega (arith, second_room)) lt
          ∙ written_inside at front x i (omega (arith, first_room)) le lt
          ∙ sym (get_or_append_left front back 0 (i - at) (omega (arith, le, lt)))
          ∙ sym (written_inside at (front ++ back) x i (omega (arith, first_room)) le (omega (arith, lt, both_long)))

      in_back : (i : ℕ) → at + length front ≤ i → i < at + length front + length back → get_or (written (at + length front) back middle) i 0 ≡ get_or (written at (front ++ back) x) i 0
      in_back i le lt =
          let on : i - at - length front ≡ i - (at + length front) = omega (arith, le) in
          written_inside (at + length front) back middle i (omega (arith, second_room)) le lt
          ∙ ap (λ k. get_or back k 0) (sym on)
          ∙ sym (get_or-append_right front back (length front) (i - at) 0 refl (omega (arith, le)))
          ∙ sym (written_inside at (front ++ back) x i (omega (arith, first_room)) (omega (arith, le)) (omega (arith, lt, both_long)))

      after : (i : ℕ) → at + length front + length back ≤ i → get_or (written (at + length front) back middle) i 0 ≡ get_or (written at (front ++ back) x) i 0
      after i le =
          written_after (at + length front) back middle i (omega (arith, second_room)) le
          ∙ written_after at front x i (omega (arith, first_room)) (omega (arith, le))
          ∙ sym (written_after at (front ++ back) x i (omega (arith, first_room)) (omega (arith, le, both_long)))

-- no bytes are put
pub put_none : (pages directory : ℕ) (both : List ℕ × List ℕ) (file : DiskFile) (at : ℕ) (old new : List ℕ) (n : ℕ) (xs : List ℕ) → length new ≡ 0 → AreChanges pages directory both n xs → HasPut pages directory both file at old new n xs n xs
put_none pages directory both file at old new n xs none are = record {
  changes = are;
  put = λ x room each. written_same at new (replayed file n xs x) room (λ i lt. absurd (omega (arith, lt, none)));
  others = λ g other x. refl;
}

-- puts one more part
pub put_more : (pages directory : ℕ) (both : List ℕ × List ℕ) (file : DiskFile) (at : ℕ) (old front known back : List ℕ) (n : ℕ) (xs : List ℕ) (m : ℕ) (ys : List ℕ) (p : ℕ) (zs : List ℕ)
    → ((i : ℕ) → i < length back → get_or known i 0 ≡ get_or old (length front + i) 0)
    → HasPut pages directory both file at old front n xs m ys → HasPut pages directory both file (at + length front) known back m ys p zs
    → HasPut pages directory both file at old (front ++ back) n xs p zs
put_more pages directory both file at old front known back n xs m ys p zs known_is first second = record {
  changes = second.changes;
  put = λ x. puts (replayed file n xs x) (replayed file m ys x) (replayed file p zs x) (first.put x) (second.put x);
  others = λ g other x. second.others g other x ∙ first.others g other x;
}
  where
    long : length (front ++ back) ≡ length front + length back
    long = length-append front back

    puts : (before middle after : List ℕ) → Puts at old front before middle → Puts (at + length front) known back middle after → Puts at old (front ++ back) before after
    puts before middle after one two room each =
        let first_room : at + length front ≤ length before = omega (arith, room, long) in
        let middle_is : middle ≡ written at front before = one first_room
        (λ i lt. ⊎_elim (λ is. inl is) (λ is. inr (is ∙ get_or_append_left front back 0 i lt)) (each i (omega (arith, lt, long)))) in
        let middle_long : length middle ≡ length before = ap (λ (l : List ℕ). length l) middle_is ∙ length-written at front before first_room in
        let same : (i : ℕ) → i < length back → get_or middle (at + length front + i) 0 ≡ get_or before (at + (length front + i)) 0 = λ i lt.
        let on : at + length front + i ≡ at + (length front + i) = omega arith in
        ap (λ (l : List ℕ). get_or l (at + length front + i) 0) middle_is
        ∙ written_after at front before (at + length front + i) (omega (arith, first_room)) (omega arith)
        ∙ ap (λ k. get_or before k 0) on in
        let behind : (i : ℕ) → length front + i - length front ≡ i = λ i. omega arith in
        two (omega (arith, room, long, middle_long))
        (λ i lt. ⊎_elim
        (λ is. inl (same i lt ∙ is ∙ sym (known_is i lt)))
        (λ is. inr (same i lt ∙ is ∙ get_or-append_right front back (length front) (length front + i) 0 refl (omega arith) ∙ ap (λ k. get_or back k 0) (behind i)))
        (each (length front + i) (omega (arith, lt, long))))
        ∙ ap (λ (l : List ℕ). written (at + length front) back l) middle_is
        ∙ written_twice at front back before room

-- a spelled change with its old bytes fits
pub change_fits : (pages directory : ℕ) (both : List ℕ × List ℕ) (file : DiskFile) (at : ℕ) (block was : List ℕ) → at < 2 ^ 32 → length block < 2 ^ 32 → length was ≡ length block → file ≢ Redo
    → at + length block ≤ length_in pages directory file → ReadsAt at was (length block) (data_in both file) → FitsIn pages directory both (change_bytes file at block was)
change_fits pages directory both file at block was near short same is_data inside reads =
    let change = change_bytes file at block was in
    let offset_is = offset_spelled file at block was near short in
    let size_is = size_spelled file at block was near short in
    let file_is = file_spelled file at block was is_data in
    record {
      whole = omega (arith, length_spelled file at block was near short same);
      inside = subst (λ f. offset_of change + size_of change ≤ length_in pages directory f) (sym file_is) (omega (arith, offset_is, size_is, inside));
      was = λ i lt.
          ap (λ (l : List ℕ). get_or l i 0) (was_spelled file at block was near short same)
          ∙ reads i (omega (arith, lt, size_is))
          ∙ ap (λ f. get_or (data_in both f) (at + i) 0) (sym file_is)
          ∙ ap (λ n. get_or (data_in both (file_of change)) (n + i) 0) (sym offset_is);
    }

-- a change puts its bytes
pub put_one : (pages directory : ℕ) (both : List ℕ × List ℕ) (file : DiskFile) (at : ℕ) (known block was : List ℕ) (n : ℕ) (xs : List ℕ) → at < 2 ^ 32 → length block < 2 ^ 32 → length was ≡ length block → file ≢ Redo
    → at + length block ≤ length_in pages directory file → ReadsAt at was (length block) (data_in both file) → AreChanges pages directory both n xs
    → HasPut pages directory both file at known block n xs (n + 1) (xs ++ change_bytes file at block was)
put_one pages directory both file at known block was n xs near short same is_data inside reads are =
    let change = change_bytes file at block was in
    let fit = change_fits pages directory both file at block was near short same is_data inside reads in
    record {
      changes = one_more pages directory both n xs change are fit (length_spelled file at block was near short same);
      put = λ x room each. replayed_one_more pages directory both file n xs change x are ∙ effect_own file at block was (replayed file n xs x) near short is_data;
      others = λ g other x. replayed_one_more pages directory both g n xs change x are ∙ effect_other file g at block was (replayed g n xs x) is_data other;
    }

-- bytes that are already in the file are put without a change
pub put_same : (pages directory : ℕ) (both : List ℕ × List ℕ) (file : DiskFile) (at : ℕ) (known block : List ℕ) (n : ℕ) (xs : List ℕ)
    → ((i : ℕ) → i < length block → get_or block i 0 ≡ get_or known i 0) → AreChanges pages directory both n xs → HasPut pages directory both file at known block n xs n xs
put_same pages directory both file at known block n xs same are = record {
  changes = are;
  put = λ x room each. written_same at block (replayed file n xs x) room (λ i lt. ⊎_elim (λ is. same i lt ∙ sym is) (λ is. sym is) (each i lt));
  others = λ g other x. refl;
}

-- a block is put by one change of the part that differs
module _ (pages directory : ℕ) (both : List ℕ × List ℕ) (file : DiskFile) (at : ℕ) (known block : List ℕ) (start end : ℕ) (n : ℕ) (xs : List ℕ)
    (order : start ≤ end) (inside : end ≤ length block) (near : at + length block < 2 ^ 32) (is_data : file ≢ Redo) (fits : at + length block ≤ length_in pages directory file)
    (reads : ReadsAt at known (length block) (data_in both file))
    (before : (i : ℕ) → i < start → get_or block i 0 ≡ get_or known i 0) (after : (i : ℕ) → end ≤ i → i < length block → get_or block i 0 ≡ get_or known i 0)
    (are : AreChanges pages directory both n xs) where
  abbrev rest : ℕ
  rest = length block - end

  abbrev front : List ℕ
  front = take start block

  abbrev part : List ℕ
  part = take (end - start) (drop start block)

  abbrev was : List ℕ
  was = part_of known start (end - start)

  abbrev back : List ℕ
  back = take rest (drop end block)

  abbrev more : List ℕ
  more = xs ++ change_bytes file (at + start) part was

  front_long : length front ≡ start
  front_long = length-take-le start block (omega (arith, order, inside))

  part_long : length part ≡ end - start
  part_long = length_part start (end - start) block (omega (arith, order, inside))

  back_long : length back ≡ rest
  back_long = length_part end rest block (omega (arith, inside))

  two_long : length (front ++ part) ≡ end
  two_long = length-append front part ∙ omega (arith, front_long, part_long, order)

  put_front : HasPut pages directory both file at known front n xs n xs
  put_front = put_same pages directory both file at known front n xs
      (λ i lt. get_or-take start block i 0 (omega (arith, lt, front_long)) ∙ before i (omega (arith, lt, front_long))) are

  put_part : HasPut pages directory both file (at + start) was part n xs (n + 1) more
  put_part = put_one pages directory both file (at + start) was part was n xs (omega (arith, near, order, inside)) (omega (arith, near, part_long, inside)) (length-resized (end - start) _ ∙ sym part_long) is_data (omega (arith, fits, part_long, order, inside))
      (λ i lt. part_read known start (end - start) i (omega (arith, lt, part_long)) ∙ reads (start + i) (omega (arith, lt, part_long, order, inside)) ∙ ap (λ k. get_or (data_in both file) k 0) (omega arith)) are

  put_two : HasPut pages directory both file at known (front ++ part) n xs (n + 1) more
  put_two = put_more pages directory both file at known front was part n xs n xs (n + 1) more
      (λ i lt. part_read known start (end - start) i (omega (arith, lt, part_long)) ∙ ap (λ k. get_or known (k + i) 0) (sym front_long)) put_front
      (subst (λ k. HasPut pages directory both file (at + k) was part n xs (n + 1) more) (sym front_long) put_part)

  put_back : HasPut pages directory both file (at + length (front ++ part)) (drop end known) back (n + 1) more (n + 1) more
  put_back = put_same pages directory both file (at + length (front ++ part)) (drop end known) back (n + 1) more
      (λ i lt. block_reads end rest block (omega (arith, inside)) back back_long refl i lt ∙ after (end + i) (omega arith) (omega (arith, lt, back_long, inside)) ∙ sym (get_or-drop end known i 0)) put_two.changes

  pub put_inside : HasPut pages directory both file at known block n xs (n + 1) more
  put_inside = subst (λ (l : List ℕ). HasPut pages directory both file at known l n xs (n + 1) more) whole
      (put_more pages directory both file at known (front ++ part) (drop end known) back n xs (n + 1) more (n + 1) more
      (λ i lt. get_or-drop end known i 0 ∙ ap (λ k. get_or known (k + i) 0) (sym two_long)) put_two put_back)
    where
      whole : front ++ part ++ back ≡ block
      whole =
          ap (λ (l : List ℕ). l ++ back) (sym (take-add start (end - start) block) ∙ ap (λ k. take k block) (omega (arith, order)))
          ∙ sym (take-add end rest block)
          ∙ take_all (end + rest) block (omega (arith, inside))

-- fewer bytes, padded with zeros, read the same
pub part_known : (old : List ℕ) (at end start stop i : ℕ) → start ≡ min at (length old) → stop ≡ min end (length old) → i < end - at → get_or (take (stop - start) (drop start old)) i 0 ≡ get_or old (at + i) 0
part_known old at end start stop i start_is stop_is lt = ⊎_elim
    (λ inside.
    let on : start + i ≡ at + i = omega (arith, start_is, inside, lt) in
    get_or-take (stop - start) (drop start old) i 0 inside ∙ get_or-drop start old i 0 ∙ ap (λ k. get_or old k 0) on)
    (λ past.
    get_or_past (take (stop - start) (drop start old)) i 0 (omega (arith, past, length-take (stop - start) (drop start old)))
    ∙ sym (get_or_past old (at + i) 0 (omega (arith, past, start_is, stop_is, lt))))
    (cases_lt i (stop - start))

-- a file is these bytes if all of them are put
pub file_put : (pages directory : ℕ) (both : List ℕ × List ℕ) (file : DiskFile) (old new : List ℕ) (n : ℕ) (xs : List ℕ) (m : ℕ) (ys : List ℕ) → ((x : List ℕ) → replayed file n xs x ≡ x) → HasPut pages directory both file 0 old new n xs m ys
    → replayed file m ys (resized (length new) old) ≡ new
file_put pages directory both file old new n xs m ys untouched put =
    let x = resized (length new) old in
    let before = replayed file n xs x in
    let before_is : before ≡ x = untouched x in
    let long : length before ≡ length new = ap (λ (l : List ℕ). length l) before_is ∙ length-resized (length new) old in
    let from_start : (i : ℕ) → 0 + i ≡ i = λ i. omega arith in
    put.put x (omega (arith, long)) (λ i lt. inl (ap (λ k. get_or before k 0) (from_start i) ∙ ap (λ (l : List ℕ). get_or l i 0) before_is ∙ read_resized (length new) old i lt))
    ∙ ap (λ (l : List ℕ). new ++ l) (drop_all (0 + length new) before (omega (arith, long))) ∙ append-nil new

-- the changes that make both files these
pub record IsWhole (pages directory : ℕ) (both : List ℕ × List ℕ) (new own : List ℕ) (many : ℕ) (after : List ℕ) : Type 0 where
  pub changes : AreChanges pages directory both many after
  pub put : replayed Pages many after (resized (length new) both.0) ≡ new
  pub bits : replayed Directory many after (resized (length own) both.1) ≡ own

-- the directory is put first, and then the pages
pub both_put : (pages directory : ℕ) (both : List ℕ × List ℕ) (new own none : List ℕ) (p d n : ℕ) (before : List ℕ) (q e m : ℕ) (after : List ℕ) → none ≡ [] → p ≡ pages → d ≡ directory → q ≡ p → e ≡ d
    → (ReadsAt 0 both.1 (length own) both.1 → AreChanges pages directory both 0 none → HasPut pages directory both Directory 0 both.1 own 0 none n before)
    → (AreChanges p d both n before → HasPut p d both Pages 0 both.0 new n before m after) → IsWhole q e both new own m after
both_put pages directory both new own none p d n before q e m after nothing p_is d_is q_is e_is first second =
    subst (λ k. IsWhole k e both new own m after) (sym (q_is ∙ p_is))
    (subst (λ k. IsWhole pages k both new own m after) (sym (e_is ∙ d_is)) is)
  where
    differ : Directory ≢ Pages
    differ is = cc

    back : Pages ≢ Directory
    back is = cc

    from_start : (i : ℕ) → i ≡ 0 + i
    from_start i = omega arith

    put : HasPut pages directory both Directory 0 both.1 own 0 none n before
    put = first (λ i lt. ap (λ k. get_or both.1 k 0) (from_start i)) (record { fits = λ k lt. absurd (omega (arith, lt)); ends = nothing })

    more : HasPut pages directory both Pages 0 both.0 new n before m after
    more = subst (λ k. HasPut k directory both Pages 0 both.0 new n before m after) p_is
        (subst (λ k. HasPut p k both Pages 0 both.0 new n before m after) d_is
        (second (subst (λ k. AreChanges k d both n before) (sym p_is) (subst (λ k. AreChanges pages k both n before) (sym d_is) put.changes))))

    is : IsWhole pages directory both new own m after
    is = record {
      changes = more.changes;
      put = file_put pages directory both Pages both.0 new n before m after (λ x. put.others Pages back x) more;
      bits = more.others Directory differ (resized (length own) both.1) ∙ file_put pages directory both Directory both.1 own 0 none n before (λ x. refl) put;
    }
