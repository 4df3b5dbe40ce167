-- Two plans that are applied one after the other are equal to their joined plan.
use Rattle.std.proofs.Common.{◌≡◌, ◌≢◌, ◌⊎◌, inl, inr, ⊎_elim, ℕ, zero, suc, ◌+◌, ◌-◌, ◌/◌, ◌%◌, ◌<◌, ◌≤◌, ◌^◌, List, ◌++◌, length, take, drop, get_or, refl, sym, ◌∙◌, ap, subst, arith, length-append, length-drop}
use Rattle.std.proofs.lemmas.List.{ext_get_or, get_or-take, get_or-drop, get_or_past, take-append-le, drop-append-le, length-take-le}
use Rattle.std.proofs.lemmas.Bool.{cases_lt}
use Rattle.sdbm_saves.specs.declared.disk.DiskFile.{DiskFile}
use Rattle.sdbm_saves.specs.declared.disk.DiskFile.TheVariants.{Pages, Directory, Redo}
use Rattle.sdbm_saves.specs.Disk.{Image, content, put, written, resized, Torn, TornLength, Within}
use Rattle.sdbm_saves.specs.Drafts.{spelled}
use Rattle.sdbm_saves.specs.Redo.{number_at, data_file, file_of, offset_of, size_of, data_of, span_of, rest_of, rest_after, effect, replayed, replayed_image, renewed_image, new_length, old_length, count_of, changes_of, renewed, data_in, Fits, IsPlan, IsChangeOf, IsBetween, Offers, HasByte, KnowsBlock, Knows, EndsWith, AlikeFor}
use Rattle.sdbm_log.specs.Log.{joined, Grows}
use Rattle.sdbm_saves.proofs.Lists.{length-written, read_resized, length-resized, written_before, written_inside, written_after}
use Rattle.sdbm_saves.proofs.Replays.{length-data, length-effect, image_next, image_sized, after_split, for_self, for_joins, for_change, for_length}
use Rattle.sdbm_saves.proofs.Drafts.{number_append, size_append, offset_append, file_append, data_append, was_append, rest_append, effect_append}
use Rattle.sdbm_saves.proofs.Knowing.{change_whole}

pub number_same : (x y : List ℕ) (at : ℕ) → ((i : ℕ) → at ≤ i → i < at + 4 → get_or x i 0 ≡ get_or y i 0) → number_at x at ≡ number_at y at
unfolding number_at
number_same x y at same =
    let first = same at (omega arith) (omega arith) in
    let second = same (at + 1) (omega arith) (omega arith) in
    let third = same (at + 2) (omega arith) (omega arith) in
    let fourth = same (at + 3) (omega arith) (omega arith) in
    omega (arith, first, second, third, fourth)

number_spelled : (x : List ℕ) (at n : ℕ) → n < 2 ^ 32 → ((i : ℕ) → at ≤ i → i < at + 4 → get_or x i 0 ≡ get_or (spelled n) (i - at) 0) → number_at x at ≡ n
unfolding number_at
number_spelled x at n small is =
    let here : at - at ≡ 0 = omega arith in
    let zeroth : get_or x at 0 ≡ n % 256 = is at (omega arith) (omega arith) ∙ ap (λ k. get_or (spelled n) k 0) here in
    let first : get_or x (at + 1) 0 ≡ n / 256 % 256 = is (at + 1) (omega arith) (omega arith) ∙ ap (λ k. get_or (spelled n) k 0) (place at 1) in
    let second : get_or x (at + 2) 0 ≡ n / 65536 % 256 = is (at + 2) (omega arith) (omega arith) ∙ ap (λ k. get_or (spelled n) k 0) (place at 2) in
    let third : get_or x (at + 3) 0 ≡ n / 16777216 % 256 = is (at + 3) (omega arith) (omega arith) ∙ ap (λ k. get_or (spelled n) k 0) (place at 3) in
    omega (arith, small, zeroth, first, second, third)
  where
    place : (at k : ℕ) → at + k - at ≡ k
    place at k = omega arith

-- these bytes start with n complete changes
abbrev Whole : ℕ → List ℕ → Type 0
Whole n xs = (k : ℕ) → k < n → span_of (rest_after k xs) ≤ length (rest_after k xs)

later : (n : ℕ) (xs : List ℕ) → Whole (suc n) xs → Whole n (rest_of xs)
later n xs whole = λ k lt. whole (suc k) (omega (arith, lt))

-- bytes after them do not change them
after_append : (n : ℕ) (xs ys : List ℕ) → Whole n xs → rest_after n (xs ++ ys) ≡ rest_after n xs ++ ys
after_append zero xs ys whole = refl
after_append (suc n) xs ys whole =
    ap (λ (l : List ℕ). rest_after n l) (rest_append xs ys (whole 0 (omega arith))) ∙ after_append n (rest_of xs) ys (later n xs whole)

replayed_append : (file : DiskFile) (n : ℕ) (xs ys x : List ℕ) → Whole n xs → replayed file n (xs ++ ys) x ≡ replayed file n xs x
replayed_append file zero xs ys x whole = refl
replayed_append file (suc n) xs ys x whole =
    let first = whole 0 (omega arith) in
    ap (λ (l : List ℕ). replayed file n l (effect (file_of (xs ++ ys)) file (xs ++ ys) x)) (rest_append xs ys first)
    ∙ ap (λ (l : List ℕ). replayed file n (rest_of xs ++ ys) l) (effect_append xs ys first file x)
    ∙ replayed_append file n (rest_of xs) ys (effect (file_of xs) file xs x) (later n xs whole)

replayed_split : (file : DiskFile) (n m : ℕ) (xs x : List ℕ) → replayed file (n + m) xs x ≡ replayed file m (rest_after n xs) (replayed file n xs x)
replayed_split file zero m xs x = let is : 0 + m ≡ m = omega arith in ap (λ k. replayed file k xs x) is
replayed_split file (suc n) m xs x = let is : suc n + m ≡ suc (n + m) = omega arith in
    ap (λ k. replayed file k xs x) is ∙ replayed_split file n m (rest_of xs) (effect (file_of xs) file xs x)

-- the same changes are done in a longer file
resized_written : (n at : ℕ) (bytes x : List ℕ) → at + length bytes ≤ length x → length x ≤ n → resized n (written at bytes x) ≡ written at bytes (resized n x)
resized_written n at bytes x inside le =
    let long : length (resized n x) ≡ n = length-resized n x in
    let wide : at + length bytes ≤ length (resized n x) = omega (arith, inside, le, long) in
    ext_get_or 0 (resized n (written at bytes x)) (written at bytes (resized n x))
    (length-resized n (written at bytes x) ∙ sym (length-written at bytes (resized n x) wide ∙ long))
    (λ i below. let lt : i < n = omega (arith, below, length-resized n (written at bytes x)) in
    read_resized n (written at bytes x) i lt
    ∙ ⊎_elim
    (λ before. written_before at bytes x i (omega (arith, inside)) before ∙ sym (written_before at bytes (resized n x) i (omega (arith, wide)) before ∙ read_resized n x i lt))
    (λ le_i. ⊎_elim
    (λ in_it. written_inside at bytes x i (omega (arith, inside)) le_i in_it ∙ sym (written_inside at bytes (resized n x) i (omega (arith, wide)) le_i in_it))
    (λ past. written_after at bytes x i (omega (arith, inside)) past ∙ sym (written_after at bytes (resized n x) i (omega (arith, wide)) past ∙ read_resized n x i lt))
    (cases_lt i (at + length bytes)))
    (cases_lt i at))

resized_effect : (plan change : List ℕ) (n : ℕ) (touched file : DiskFile) (x : List ℕ) → span_of change ≤ length change → offset_of change + size_of change ≤ new_length touched plan → length x ≡ new_length file plan → length x ≤ n
    → resized n (effect touched file change x) ≡ effect touched file change (resized n x)
resized_effect plan change n Pages Pages x whole inside is le = resized_written n (offset_of change) (data_of change) x (omega (arith, inside, is, length-data change whole)) le
resized_effect plan change n Pages Directory x whole inside is le = refl
resized_effect plan change n Pages Redo x whole inside is le = refl
resized_effect plan change n Directory Pages x whole inside is le = refl
resized_effect plan change n Directory Directory x whole inside is le = resized_written n (offset_of change) (data_of change) x (omega (arith, inside, is, length-data change whole)) le
resized_effect plan change n Directory Redo x whole inside is le = refl
resized_effect plan change n Redo Pages x whole inside is le = refl
resized_effect plan change n Redo Directory x whole inside is le = refl
resized_effect plan change n Redo Redo x whole inside is le = refl

resized_replayed : (plan : List ℕ) (n : ℕ) (file : DiskFile) (count : ℕ) (xs x : List ℕ) → ((k : ℕ) → k < count → Fits plan (rest_after k xs)) → length x ≡ new_length file plan → new_length file plan ≤ n
    → resized n (replayed file count xs x) ≡ replayed file count xs (resized n x)
resized_replayed plan n file zero xs x fits is le = refl
resized_replayed plan n file (suc count) xs x fits is le =
    let first : Fits plan xs = fits 0 (omega arith) in
    resized_replayed plan n file count (rest_of xs) (effect (file_of xs) file xs x) (λ k lt. fits (suc k) (omega (arith, lt))) (length-effect plan xs first.whole (file_of xs) file x first.inside is ∙ is) le
    ∙ ap (λ (l : List ℕ). replayed file count (rest_of xs) l) (resized_effect plan xs n (file_of xs) file x first.whole first.inside is (omega (arith, is, le)))

-- a length and then a longer one, for a file that is no longer than the first length
resized_twice : (m n : ℕ) (x : List ℕ) → length x ≤ m → m ≤ n → resized n (resized m x) ≡ resized n x
resized_twice m n x le grows = ext_get_or 0 (resized n (resized m x)) (resized n x) (length-resized n (resized m x) ∙ sym (length-resized n x))
    (λ i below. let lt : i < n = omega (arith, below, length-resized n (resized m x)) in
    read_resized n (resized m x) i lt
    ∙ ⊎_elim
    (λ inside. read_resized m x i inside)
    (λ past. get_or_past (resized m x) i 0 (omega (arith, past, length-resized m x)) ∙ sym (get_or_past x i 0 (omega (arith, past, le))))
    (cases_lt i m)
    ∙ sym (read_resized n x i lt))

-- the file of a change, or the second file
same_file : (a b : ℕ) → (data_file a ≡ data_file b) ⊎ (data_file a ≢ data_file b)
same_file zero zero = inl refl
same_file zero (suc b) = inr (λ is. cc)
same_file (suc a) zero = inr (λ is. cc)
same_file (suc a) (suc b) = inl refl

-- one of n changes covers a place of a file
record Covers (n : ℕ) (xs : List ℕ) (file : DiskFile) (at : ℕ) : Type 0 where
  index : ℕ
  counted : index < n
  touches : file_of (rest_after index xs) ≡ file
  from : offset_of (rest_after index xs) ≤ at
  to : at < offset_of (rest_after index xs) + size_of (rest_after index xs)

abbrev NoneCovers : ℕ → List ℕ → DiskFile → ℕ → Type 0
NoneCovers n xs file at = (k : ℕ) → k < n → file_of (rest_after k xs) ≡ file → offset_of (rest_after k xs) ≤ at → at < offset_of (rest_after k xs) + size_of (rest_after k xs) → ⊥

none_first : (n : ℕ) (xs : List ℕ) (file : DiskFile) (at : ℕ) → (file_of xs ≡ file → offset_of xs ≤ at → at < offset_of xs + size_of xs → ⊥) → NoneCovers n (rest_of xs) file at → NoneCovers (suc n) xs file at
none_first n xs file at first others zero lt = first
none_first n xs file at first others (suc k) lt = others k (omega (arith, lt))

covers_later : (n : ℕ) (xs : List ℕ) (file : DiskFile) (at : ℕ) → Covers n (rest_of xs) file at → Covers (suc n) xs file at
covers_later n xs file at covers = record { index = suc covers.index; counted = omega (arith, covers.counted); touches = covers.touches; from = covers.from; to = covers.to }

covers_first : (n : ℕ) (xs : List ℕ) (file : DiskFile) (at : ℕ) → file_of xs ≡ file → offset_of xs ≤ at → at < offset_of xs + size_of xs → Covers (suc n) xs file at
covers_first n xs file at touches from to = record { index = 0; counted = omega arith; touches = touches; from = from; to = to }

covers_or_not : (n : ℕ) (xs : List ℕ) (g at : ℕ) → Covers n xs (data_file g) at ⊎ NoneCovers n xs (data_file g) at
covers_or_not zero xs g at = inr (λ k lt. absurd (omega (arith, lt)))
covers_or_not (suc n) xs g at = ⊎_elim
    (λ covers. inl (covers_later n xs (data_file g) at covers))
    (λ none. ⊎_elim
    (λ touches. ⊎_elim
    (λ before. inr (none_first n xs (data_file g) at (λ is from to. absurd (omega (arith, before, from))) none))
    (λ from. ⊎_elim
    (λ to. inl (covers_first n xs (data_file g) at touches from to))
    (λ past. inr (none_first n xs (data_file g) at (λ is le to. absurd (omega (arith, past, to))) none))
    (cases_lt at (offset_of xs + size_of xs)))
    (cases_lt at (offset_of xs)))
    (λ other. inr (none_first n xs (data_file g) at (λ is from to. other is) none))
    (same_file (get_or xs 0 0) g))
    (covers_or_not n (rest_of xs) g at)

-- a byte that no change covers
effect_outside : (plan change : List ℕ) (touched file : DiskFile) (at : ℕ) (x : List ℕ) → span_of change ≤ length change → offset_of change + size_of change ≤ new_length touched plan → length x ≡ new_length file plan
    → (touched ≡ file → offset_of change ≤ at → at < offset_of change + size_of change → ⊥) → get_or (effect touched file change x) at 0 ≡ get_or x at 0
effect_outside plan change Pages Pages at x whole inside is none = ⊎_elim
    (λ before. written_before (offset_of change) (data_of change) x at (omega (arith, inside, is)) before)
    (λ le. ⊎_elim
    (λ in_it. absurd (none refl le in_it))
    (λ past. written_after (offset_of change) (data_of change) x at (omega (arith, inside, is)) (omega (arith, past, length-data change whole)))
    (cases_lt at (offset_of change + size_of change)))
    (cases_lt at (offset_of change))
effect_outside plan change Pages Directory at x whole inside is none = refl
effect_outside plan change Pages Redo at x whole inside is none = refl
effect_outside plan change Directory Pages at x whole inside is none = refl
effect_outside plan change Directory Directory at x whole inside is none = ⊎_elim
    (λ before. written_before (offset_of change) (data_of change) x at (omega (arith, inside, is)) before)
    (λ le. ⊎_elim
    (λ in_it. absurd (none refl le in_it))
    (λ past. written_after (offset_of change) (data_of change) x at (omega (arith, inside, is)) (omega (arith, past, length-data change whole)))
    (cases_lt at (offset_of change + size_of change)))
    (cases_lt at (offset_of change))
effect_outside plan change Directory Redo at x whole inside is none = refl
effect_outside plan change Redo Pages at x whole inside is none = refl
effect_outside plan change Redo Directory at x whole inside is none = refl
effect_outside plan change Redo Redo at x whole inside is none = refl

replayed_outside : (plan : List ℕ) (n : ℕ) (xs : List ℕ) (file : DiskFile) (at : ℕ) (x : List ℕ) → ((k : ℕ) → k < n → Fits plan (rest_after k xs)) → length x ≡ new_length file plan → NoneCovers n xs file at → get_or (replayed file n xs x) at 0 ≡ get_or x at 0
replayed_outside plan zero xs file at x fits is none = refl
replayed_outside plan (suc n) xs file at x fits is none =
    let first : Fits plan xs = fits 0 (omega arith) in
    replayed_outside plan n (rest_of xs) file at (effect (file_of xs) file xs x) (λ k lt. fits (suc k) (omega (arith, lt)))
    (length-effect plan xs first.whole (file_of xs) file x first.inside is ∙ is) (λ k lt. none (suc k) (omega (arith, lt)))
    ∙ effect_outside plan xs (file_of xs) file at x first.whole first.inside is (none 0 (omega arith))

-- a change with more bytes after it has the same bytes
offers_append : (xs ys : List ℕ) (file : DiskFile) (at byte : ℕ) → span_of xs ≤ length xs → Offers xs file at byte → Offers (xs ++ ys) file at byte
offers_append xs ys file at byte whole offers = record {
  touches = file_append xs ys whole ∙ offers.touches;
  index = offers.index;
  covered = omega (arith, offers.covered, size_append xs ys whole);
  place = ap (λ n. n + offers.index) (offset_append xs ys whole) ∙ offers.place;
  is = ⊎_elim
      (λ new. inl (new ∙ ap (λ (l : List ℕ). get_or l offers.index 0) (sym (data_append xs ys whole))))
      (λ old. inr (old ∙ ap (λ (l : List ℕ). get_or l offers.index 0) (sym (was_append xs ys whole))))
      offers.is;
}

-- the head of two plans that are joined
module _ (m q : List ℕ) (long : 28 ≤ length m) (other : 28 ≤ length q) where
  abbrev counted : List ℕ
  counted = written 24 (spelled (count_of m + count_of q)) m

  abbrev head : List ℕ
  head = written 8 (take 8 (drop 8 q)) counted

  eight : length (take 8 (drop 8 q)) ≡ 8
  eight = length-take-le 8 (drop 8 q) (omega (arith, other, length-drop 8 q))

  length_counted : length counted ≡ length m
  length_counted = length-written 24 (spelled (count_of m + count_of q)) m (omega (arith, long))

  length_head : length head ≡ length m
  length_head = length-written 8 (take 8 (drop 8 q)) counted (omega (arith, eight, length_counted, long)) ∙ length_counted

  head_first : (i : ℕ) → i < 8 → get_or head i 0 ≡ get_or m i 0
  head_first i lt = written_before 8 (take 8 (drop 8 q)) counted i (omega (arith, length_counted, long)) lt
      ∙ written_before 24 (spelled (count_of m + count_of q)) m i (omega (arith, long)) (omega (arith, lt))

  head_new : (i : ℕ) → 8 ≤ i → i < 16 → get_or head i 0 ≡ get_or q i 0
  head_new i from to = let on : 8 + (i - 8) ≡ i = omega (arith, from) in
      written_inside 8 (take 8 (drop 8 q)) counted i (omega (arith, length_counted, long)) from (omega (arith, to, eight))
      ∙ get_or-take 8 (drop 8 q) (i - 8) 0 (omega (arith, from, to)) ∙ get_or-drop 8 q (i - 8) 0 ∙ ap (λ k. get_or q k 0) on

  head_old : (i : ℕ) → 16 ≤ i → i < 24 → get_or head i 0 ≡ get_or m i 0
  head_old i from to = written_after 8 (take 8 (drop 8 q)) counted i (omega (arith, length_counted, long)) (omega (arith, from, eight))
      ∙ written_before 24 (spelled (count_of m + count_of q)) m i (omega (arith, long)) to

  head_count : (i : ℕ) → 24 ≤ i → i < 24 + 4 → get_or head i 0 ≡ get_or (spelled (count_of m + count_of q)) (i - 24) 0
  head_count i from to = written_after 8 (take 8 (drop 8 q)) counted i (omega (arith, length_counted, long)) (omega (arith, from, eight))
      ∙ written_inside 24 (spelled (count_of m + count_of q)) m i (omega (arith, long)) from to

  head_rest : (i : ℕ) → 28 ≤ i → get_or head i 0 ≡ get_or m i 0
  head_rest i from = written_after 8 (take 8 (drop 8 q)) counted i (omega (arith, length_counted, long)) (omega (arith, from, eight))
      ∙ written_after 24 (spelled (count_of m + count_of q)) m i (omega (arith, long)) from

  number_head : (at : ℕ) → at + 4 ≤ 28 → number_at (joined m q) at ≡ number_at head at
  number_head at inside = number_append head (changes_of q) at (omega (arith, inside, length_head, long))

  pub joined_new : (g : ℕ) → new_length (data_file g) (joined m q) ≡ new_length (data_file g) q
  joined_new zero = number_head 8 (omega arith) ∙ number_same head q 8 (λ i from to. head_new i from (omega (arith, to)))
  joined_new (suc g) = number_head 12 (omega arith) ∙ number_same head q 12 (λ i from to. head_new i (omega (arith, from)) (omega (arith, to)))

  pub joined_old : (g : ℕ) → old_length (data_file g) (joined m q) ≡ old_length (data_file g) m
  joined_old zero = number_head 16 (omega arith) ∙ number_same head m 16 (λ i from to. head_old i from (omega (arith, to)))
  joined_old (suc g) = number_head 20 (omega arith) ∙ number_same head m 20 (λ i from to. head_old i (omega (arith, from)) (omega (arith, to)))

  pub joined_count : count_of m + count_of q < 2 ^ 32 → count_of (joined m q) ≡ count_of m + count_of q
  joined_count few = number_head 24 (omega arith) ∙ number_spelled head 24 (count_of m + count_of q) few head_count

  pub joined_long : 28 ≤ length (joined m q)
  joined_long = omega (arith, length-append head (changes_of q), length_head, long)

  drop_head : drop 28 head ≡ changes_of m
  drop_head = ext_get_or 0 (drop 28 head) (drop 28 m) (omega (arith, length-drop 28 head, length-drop 28 m, length_head))
      (λ i below. get_or-drop 28 head i 0 ∙ head_rest (28 + i) (omega arith) ∙ sym (get_or-drop 28 m i 0))

  joined_changes : changes_of (joined m q) ≡ changes_of m ++ changes_of q
  joined_changes = drop-append-le 28 head (changes_of q) (omega (arith, length_head, long)) ∙ ap (λ (l : List ℕ). l ++ changes_of q) drop_head

  joined_signature : take 8 (joined m q) ≡ take 8 m
  joined_signature = take-append-le 8 head (changes_of q) (omega (arith, length_head, long))
      ∙ ext_get_or 0 (take 8 head) (take 8 m) (length-take-le 8 head (omega (arith, length_head, long)) ∙ sym (length-take-le 8 m (omega (arith, long))))
      (λ i below. let lt : i < 8 = omega (arith, below, length-take-le 8 head (omega (arith, length_head, long))) in
      get_or-take 8 head i 0 lt ∙ head_first i lt ∙ sym (get_or-take 8 m i 0 lt))

module _ (m q : List ℕ) (m_is : IsPlan m) (q_is : IsPlan q) (grows : Grows m q) where
  whole_m : Whole (count_of m) (changes_of m)
  whole_m k lt = (m_is.fits k lt).whole

  count_is : count_of (joined m q) ≡ count_of m + count_of q
  count_is = joined_count m q m_is.header q_is.header grows.few

  -- the changes of the first plan, and those of the next
  change_first : (k : ℕ) → k < count_of m → rest_after k (changes_of (joined m q)) ≡ rest_after k (changes_of m) ++ changes_of q
  change_first k lt = ap (λ (l : List ℕ). rest_after k l) (joined_changes m q m_is.header q_is.header)
      ∙ after_append k (changes_of m) (changes_of q) (λ j below. whole_m j (omega (arith, below, lt)))

  change_all : rest_after (count_of m) (changes_of (joined m q)) ≡ changes_of q
  change_all = ap (λ (l : List ℕ). rest_after (count_of m) l) (joined_changes m q m_is.header q_is.header)
      ∙ after_append (count_of m) (changes_of m) (changes_of q) whole_m ∙ ap (λ (l : List ℕ). l ++ changes_of q) m_is.ends

  change_next : (k : ℕ) → rest_after (count_of m + k) (changes_of (joined m q)) ≡ rest_after k (changes_of q)
  change_next k = after_split (count_of m) k (changes_of (joined m q)) ∙ ap (λ (l : List ℕ). rest_after k l) change_all

  fits_first : (change : List ℕ) → Fits m change → Fits (joined m q) (change ++ changes_of q)
  fits_first change fit = record {
    whole = omega (arith, fit.whole, size_append change (changes_of q) fit.whole, length-append change (changes_of q));
    inside = subst (λ f. offset_of (change ++ changes_of q) + size_of (change ++ changes_of q) ≤ new_length f (joined m q)) (sym (file_append change (changes_of q) fit.whole))
        (omega (arith, fit.inside, size_append change (changes_of q) fit.whole, offset_append change (changes_of q) fit.whole, grows.on (get_or change 0 0), joined_new m q m_is.header q_is.header (get_or change 0 0)));
  }

  fits_next : (change : List ℕ) → Fits q change → Fits (joined m q) change
  fits_next change fit = record {
    whole = fit.whole;
    inside = omega (arith, fit.inside, joined_new m q m_is.header q_is.header (get_or change 0 0));
  }

  pub is_joined : IsPlan (joined m q)
  is_joined = record {
    header = joined_long m q m_is.header q_is.header;
    signed = joined_signature m q m_is.header q_is.header ∙ m_is.signed;
    fits = λ k lt. ⊎_elim
        (λ below. subst (λ (l : List ℕ). Fits (joined m q) l) (sym (change_first k below)) (fits_first (rest_after k (changes_of m)) (m_is.fits k below)))
        (λ le. let on : count_of m + (k - count_of m) ≡ k = omega (arith, le) in
        subst (λ j. Fits (joined m q) (rest_after j (changes_of (joined m q)))) on
        (subst (λ (l : List ℕ). Fits (joined m q) l) (sym (change_next (k - count_of m))) (fits_next (rest_after (k - count_of m) (changes_of q)) (q_is.fits (k - count_of m) (omega (arith, lt, le, count_is))))))
        (cases_lt k (count_of m));
    ends = ap (λ n. rest_after n (changes_of (joined m q))) count_is ∙ change_next (count_of q) ∙ q_is.ends;
  }

  pub ends_with : EndsWith (joined m q) q
  ends_with = record {
    is_plan = is_joined;
    before = count_of m;
    count = count_is;
    changes = change_all;
    lengths = joined_new m q m_is.header q_is.header;
  }

  -- a plan at the end of the first plan, joined with the second
  pub ends_joined : (tail : List ℕ) → EndsWith m tail → 28 ≤ length tail → EndsWith (joined m q) (joined tail q)
  ends_joined tail ends header =
      let few : count_of tail + count_of q < 2 ^ 32 = omega (arith, ends.count, grows.few) in
      let count : count_of (joined tail q) ≡ count_of tail + count_of q = joined_count tail q header q_is.header few in
      record {
        is_plan = is_joined;
        before = ends.before;
        count = omega (arith, count_is, count, ends.count);
        changes = ap (λ (l : List ℕ). rest_after ends.before l) (joined_changes m q m_is.header q_is.header)
            ∙ after_append ends.before (changes_of m) (changes_of q) (λ k lt. whole_m k (omega (arith, lt, ends.count)))
            ∙ ap (λ (l : List ℕ). l ++ changes_of q) ends.changes
            ∙ sym (joined_changes tail q header q_is.header);
        lengths = λ g. joined_new m q m_is.header q_is.header g ∙ sym (joined_new tail q header q_is.header g);
      }

  -- the plans applied one after the other, to a file that is no longer than the first plan makes it
  pub renewed_joined : (g : ℕ) (x : List ℕ) → length x ≤ new_length (data_file g) m → renewed (data_file g) (joined m q) x ≡ renewed (data_file g) q (renewed (data_file g) m x)
  renewed_joined g x le =
      let f : DiskFile = data_file g in
      let n = new_length f q in
      let first : List ℕ = resized (new_length f m) x in
      let done : List ℕ = replayed f (count_of m) (changes_of m) (resized n x) in
      ap (λ k. replayed f (count_of (joined m q)) (changes_of (joined m q)) (resized k x)) (joined_new m q m_is.header q_is.header g)
      ∙ ap (λ k. replayed f k (changes_of (joined m q)) (resized n x)) count_is
      ∙ replayed_split f (count_of m) (count_of q) (changes_of (joined m q)) (resized n x)
      ∙ ap (λ (l : List ℕ). replayed f (count_of q) l (replayed f (count_of m) (changes_of (joined m q)) (resized n x))) change_all
      ∙ ap (λ (l : List ℕ). replayed f (count_of q) (changes_of q) (replayed f (count_of m) l (resized n x))) (joined_changes m q m_is.header q_is.header)
      ∙ ap (λ (l : List ℕ). replayed f (count_of q) (changes_of q) l) (replayed_append f (count_of m) (changes_of m) (changes_of q) (resized n x) whole_m)
      ∙ ap (λ (l : List ℕ). replayed f (count_of q) (changes_of q) l)
      (sym (resized_replayed m n f (count_of m) (changes_of m) first m_is.fits (length-resized (new_length f m) x) (grows.on g)
      ∙ ap (λ (l : List ℕ). replayed f (count_of m) (changes_of m) l) (resized_twice (new_length f m) n x le (grows.on g))))

  -- the bytes that each plan has
  has_first : (file : DiskFile) (at byte : ℕ) → HasByte m file at byte → HasByte (joined m q) file at byte
  has_first file at byte has = record {
    change = has.change ++ changes_of q;
    one = record {
      index = has.one.index;
      counted = omega (arith, has.one.counted, count_is);
      is = ap (λ (l : List ℕ). l ++ changes_of q) has.one.is ∙ sym (change_first has.one.index has.one.counted);
    };
    offers = offers_append has.change (changes_of q) file at byte (change_whole m has.change m_is has.one).whole has.offers;
  }

  has_next : (file : DiskFile) (at byte : ℕ) → HasByte q file at byte → HasByte (joined m q) file at byte
  has_next file at byte has = record {
    change = has.change;
    one = record {
      index = count_of m + has.one.index;
      counted = omega (arith, has.one.counted, count_is);
      is = has.one.is ∙ sym (change_next has.one.index);
    };
    offers = has.offers;
  }

  module _ (c s : List ℕ × List ℕ) (c_known : Knows m c) (s_known : Knows q s) (done : (g : ℕ) → renewed (data_file g) m (data_in c (data_file g)) ≡ data_in s (data_file g)) where
    between : (g : ℕ) → IsBetween (old_length (data_file g) m) (new_length (data_file g) m) (length (data_in c (data_file g)))
    between zero = c_known.pages
    between (suc g) = c_known.directory

    -- a byte that the first plan has, if one of its changes covers the place
    known_first : (g at : ℕ) → Covers (count_of m) (changes_of m) (data_file g) at → HasByte m (data_file g) at (get_or (data_in c (data_file g)) at 0)
    known_first g at covers =
        let change : List ℕ = rest_after covers.index (changes_of m) in
        let on : offset_of change + (at - offset_of change) ≡ at = omega (arith, covers.from) in
        let has = c_known.bytes change (record { index = covers.index; counted = covers.counted; is = refl }) (at - offset_of change) (omega (arith, covers.from, covers.to)) in
        subst (λ k. HasByte m (data_file g) k (get_or (data_in c (data_file g)) k 0)) on
        (subst (λ f. HasByte m f (offset_of change + (at - offset_of change)) (get_or (data_in c f) (offset_of change + (at - offset_of change)) 0)) covers.touches has)

    -- a byte that the first plan does not cover is unchanged after it
    same_outside : (g at : ℕ) → NoneCovers (count_of m) (changes_of m) (data_file g) at → get_or (data_in c (data_file g)) at 0 ≡ get_or (data_in s (data_file g)) at 0
    same_outside g at none =
        let f : DiskFile = data_file g in
        let x : List ℕ = data_in c f in
        let n = new_length f m in
        sym (ap (λ (l : List ℕ). get_or l at 0) (sym (done g))
        ∙ replayed_outside m (count_of m) (changes_of m) f at (resized n x) m_is.fits (length-resized n x) none
        ∙ ⊎_elim
        (λ inside. read_resized n x at inside)
        (λ past. get_or_past (resized n x) at 0 (omega (arith, past, length-resized n x)) ∙ sym (get_or_past x at 0 (omega (arith, past, (between g).no_longer, grows.so_far g))))
        (cases_lt at n))

    known_next : (g at : ℕ) → HasByte q (data_file g) at (get_or (data_in s (data_file g)) at 0) → HasByte (joined m q) (data_file g) at (get_or (data_in c (data_file g)) at 0)
    known_next g at has = ⊎_elim
        (λ covers. has_first (data_file g) at _ (known_first g at covers))
        (λ none. has_next (data_file g) at _ (subst (λ b. HasByte q (data_file g) at b) (sym (same_outside g at none)) has))
        (covers_or_not (count_of m) (changes_of m) g at)

    block_first : (change : List ℕ) → IsChangeOf m change → KnowsBlock (joined m q) (change ++ changes_of q) (data_in c (file_of (change ++ changes_of q)))
    block_first change one = λ i lt.
        let whole = (change_whole m change m_is one).whole in
        let ys : List ℕ = changes_of q in
        let has = has_first (file_of change) (offset_of change + i) _ (c_known.bytes change one i (omega (arith, lt, size_append change ys whole))) in
        subst (λ f. HasByte (joined m q) f (offset_of (change ++ ys) + i) (get_or (data_in c f) (offset_of (change ++ ys) + i) 0)) (sym (file_append change ys whole))
        (subst (λ o. HasByte (joined m q) (file_of change) (o + i) (get_or (data_in c (file_of change)) (o + i) 0)) (sym (offset_append change ys whole)) has)

    block_next : (change : List ℕ) → IsChangeOf q change → KnowsBlock (joined m q) change (data_in c (file_of change))
    block_next change one = λ i lt. known_next (get_or change 0 0) (offset_of change + i) (s_known.bytes change one i lt)

    -- files that the first plan knows and turns into files that the next plan knows
    pub knows_joined : Knows (joined m q) c
    knows_joined = record {
      pages = record {
        no_shorter = omega (arith, (between 0).no_shorter, grows.so_far 0, grows.on 0, joined_old m q m_is.header q_is.header 0, joined_new m q m_is.header q_is.header 0);
        no_longer = omega (arith, (between 0).no_longer, grows.so_far 0, grows.on 0, joined_old m q m_is.header q_is.header 0, joined_new m q m_is.header q_is.header 0);
      };
      directory = record {
        no_shorter = omega (arith, (between 1).no_shorter, grows.so_far 1, grows.on 1, joined_old m q m_is.header q_is.header 1, joined_new m q m_is.header q_is.header 1);
        no_longer = omega (arith, (between 1).no_longer, grows.so_far 1, grows.on 1, joined_old m q m_is.header q_is.header 1, joined_new m q m_is.header q_is.header 1);
      };
      bytes = λ change one. ⊎_elim
          (λ below. subst (λ (l : List ℕ). KnowsBlock (joined m q) l (data_in c (file_of l))) (sym (one.is ∙ change_first one.index below))
          (block_first (rest_after one.index (changes_of m)) (record { index = one.index; counted = below; is = refl })))
          (λ le. let on : count_of m + (one.index - count_of m) ≡ one.index = omega (arith, le) in
          block_next change (record {
            index = one.index - count_of m;
            counted = omega (arith, one.counted, le, count_is);
            is = one.is ∙ ap (λ j. rest_after j (changes_of (joined m q))) (sym on) ∙ change_next (one.index - count_of m);
          }))
          (cases_lt one.index (count_of m));
    }

-- a write that is not interrupted, and a length
pub torn_written : (at : ℕ) (bytes x : List ℕ) → at ≤ length x → Torn at bytes x (written at bytes x)
torn_written at bytes x inside = record {
  before = λ i lt. written_before at bytes x i inside lt;
  within = λ i lt. let on : at + i - at ≡ i = omega arith in
      inr (written_inside at bytes x (at + i) inside (omega arith) (omega (arith, lt)) ∙ ap (λ k. get_or bytes k 0) on);
  after = λ i le. written_after at bytes x i inside le;
  no_shorter = omega (arith, long);
  no_longer = omega (arith, long);
}
  where
    long : length (written at bytes x) ≡ at + (length bytes + (length x - (at + length bytes)))
    long = omega (arith, length-take-le at x inside, length-append (take at x) (bytes ++ drop (at + length bytes) x), length-append bytes (drop (at + length bytes) x), length-drop (at + length bytes) x)

torn_resized : (n : ℕ) (x : List ℕ) → TornLength n x (resized n x)
torn_resized n x = record { same = λ i lt. read_resized n x i lt; no_shorter = omega (arith, length-resized n x); no_longer = omega (arith, length-resized n x) }

-- a plan that is applied is also partly applied
replayed_for : (plan : List ℕ) → IsPlan plan → (image : Image) → ((g : ℕ) → length (content (data_file g) image) ≡ new_length (data_file g) plan) → (n : ℕ) → n ≤ count_of plan → AlikeFor plan image (replayed_image n plan image)
replayed_for plan is_plan image sized zero le = for_self plan image
replayed_for plan is_plan image sized (suc n) le =
    let change : List ℕ = rest_after n (changes_of plan) in
    let fit : Fits plan change = is_plan.fits n (omega (arith, le)) in
    let before = replayed_image n plan image in
    let long : length (content (file_of change) before) ≡ new_length (file_of change) plan = image_sized plan is_plan n (omega (arith, le)) image sized (get_or change 0 0) in
    let more : n + 1 ≡ suc n = omega arith in
    let step : Image = put (file_of change) (written (offset_of change) (data_of change) (content (file_of change) before)) before in
    for_joins plan image before (replayed_image (suc n) plan image) (replayed_for plan is_plan image sized n (omega (arith, le)))
    (subst (λ (o : Image). AlikeFor plan before o) (image_next plan n image change refl ∙ ap (λ k. replayed_image k plan image) more)
    (for_change plan n (omega (arith, le)) change refl before step
    (within_put (get_or change 0 0) _ before _ (torn_written (offset_of change) (data_of change) (content (file_of change) before) (omega (arith, fit.inside, long))))))
  where
    within_put : (g : ℕ) (step : List ℕ → List ℕ → Type 0) (d : Image) (bytes : List ℕ) → step (content (data_file g) d) bytes → Within (data_file g) step d (put (data_file g) bytes d)
    within_put zero step d bytes stepped = record { stepped = stepped; others = refl }
    within_put (suc g) step d bytes stepped = record { stepped = stepped; others = refl }

pub for_done : (plan : List ℕ) → IsPlan plan → (image : Image) → AlikeFor plan image (renewed_image plan image)
for_done plan is_plan image =
    let pages : Image = put Pages (resized (new_length Pages plan) image.pages) image in
    let both : Image = put Directory (resized (new_length Directory plan) image.directory) pages in
    for_joins plan image pages (renewed_image plan image)
    (for_length plan 0 (new_length Pages plan) refl image pages (record { stepped = torn_resized (new_length Pages plan) image.pages; others = refl }))
    (for_joins plan pages both (renewed_image plan image)
    (for_length plan 1 (new_length Directory plan) refl pages both (record { stepped = torn_resized (new_length Directory plan) image.directory; others = refl }))
    (replayed_for plan is_plan both (sizes both refl refl) (count_of plan) (omega arith)))
  where
    sizes : (both : Image) → both.pages ≡ resized (new_length Pages plan) image.pages → both.directory ≡ resized (new_length Directory plan) image.directory
        → (g : ℕ) → length (content (data_file g) both) ≡ new_length (data_file g) plan
    sizes both pages directory zero = ap (λ (l : List ℕ). length l) pages ∙ length-resized (new_length Pages plan) image.pages
    sizes both pages directory (suc g) = ap (λ (l : List ℕ). length l) directory ∙ length-resized (new_length Directory plan) image.directory
