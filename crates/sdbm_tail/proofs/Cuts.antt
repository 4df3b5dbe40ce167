-- A crash lost some bytes of a log. These are the complete records at its start.
use Rattle.std.proofs.Common.{true, false, ◌≡◌, ◌⊎◌, inl, inr, ⊎_elim, ℕ, zero, suc, ◌+◌, ◌-◌, ◌<◌, ◌≤◌, List, [], ◌∷◌, ◌++◌, length, take, drop, get_or, refl, sym, ◌∙◌, ap, subst, arith, length-append, length-drop, append_assoc}
use Rattle.std.proofs.lemmas.Bool.{cases_Bool}
use Rattle.std.proofs.lemmas.List.{take-append-le, drop-append-le, take-append-drop, take_all, drop_all, length-take-le, ext_get_or, get_or-take, get_or-drop, get_or_append_left, get_or-append_right}
use Rattle.sdbm_log.specs.Log.{nonzero, weight_at, size_at, is_whole, later_records, AreRecords}
use Rattle.sdbm_log.proofs.Header.{both_true}
use Rattle.sdbm_log.proofs.Weights.{OverZeros, no_more, all_there, over_zeros, same_length, nonzero_take, weight_front, zeros_no, same_true, number_more, whole_more, later_more}

-- the remains of two parts
pub split_over : (xs ys left : List ℕ) → OverZeros (xs ++ ys) left → (t : List ℕ) × (z : List ℕ) × ((left ≡ t ++ z) × (OverZeros xs t × OverZeros ys z))
split_over [] ys left over = ([], left, (refl, (tt, over)))
split_over (x ∷ xs) ys [] over = absurd over
split_over (x ∷ xs) ys (c ∷ cs) over =
    let rest = split_over xs ys cs over.1 in
    (c ∷ rest.0, rest.1, (ap (λ (l : List ℕ). c ∷ l) rest.2.0, ((over.0, rest.2.1.0), rest.2.1.1)))

over_less : (bytes left : List ℕ) → OverZeros bytes left → (i : ℕ) → get_or left i 0 ≤ get_or bytes i 0
over_less [] [] over i = omega arith
over_less [] (c ∷ cs) over i = absurd over
over_less (b ∷ bs) [] over i = absurd over
over_less (b ∷ bs) (c ∷ cs) over zero = ⊎_elim (λ none. omega (arith, none)) (λ same. omega (arith, same)) over.0
over_less (b ∷ bs) (c ∷ cs) over (suc i) = over_less bs cs over.1 i

weight_less : (bytes left : List ℕ) → OverZeros bytes left → weight_at left ≤ weight_at bytes
unfolding weight_at
weight_less bytes left over = omega (arith, over_less bytes left over 0, over_less bytes left over 1, over_less bytes left over 2, over_less bytes left over 3)

-- the tests of a complete record
whole_tests : (log : List ℕ) → is_whole log ≡ true → (nonzero (take 4 log) ≡ 4) × (nonzero (take (4 + size_at log) (drop 4 log)) ≡ weight_at log)
unfolding is_whole
whole_tests log whole =
    let tests = both_true (nonzero (take 4 log)) 4 _ whole in
    (tests.0, same_true _ _ tests.1)

-- If a crash lost a byte of a record, the record is not complete. The bytes after it do not matter.
module _ (xs t z : List ℕ) (whole : is_whole xs ≡ true) (fits : 8 + size_at xs ≡ length xs) (over : OverZeros xs t) (still : is_whole (t ++ z) ≡ true) where
  abbrev head : List ℕ
  head = take 4 xs

  abbrev body : List ℕ
  body = drop 4 xs

  parts : (a : List ℕ) × (b : List ℕ) × ((t ≡ a ++ b) × (OverZeros head a × OverZeros body b))
  parts = split_over head body t (subst (λ (l : List ℕ). OverZeros l t) (sym (take-append-drop 4 xs)) over)

  pub all_left : t ≡ xs
  all_left =
      let a : List ℕ = parts.0 in
      let b : List ℕ = parts.1 in
      let is : t ≡ a ++ b = parts.2.0 in
      let over_a : OverZeros head a = parts.2.1.0 in
      let over_b : OverZeros body b = parts.2.1.1 in
      let long_head : length head ≡ 4 = length-take-le 4 xs (omega (arith, fits)) in
      let long_a : length a ≡ 4 = same_length head a over_a ∙ long_head in
      let long_body : length body ≡ 4 + size_at xs = omega (arith, length-drop 4 xs, fits) in
      let long_b : length b ≡ 4 + size_at xs = same_length body b over_b ∙ long_body in
      let all : t ++ z ≡ a ++ (b ++ z) = ap (λ (l : List ℕ). l ++ z) is ∙ append_assoc a b z in
      let was = whole_tests xs whole in
      let now = whole_tests (t ++ z) still in
      let first : take 4 (t ++ z) ≡ a = ap (λ (l : List ℕ). take 4 l) all ∙ take-append-le 4 a (b ++ z) (omega (arith, long_a)) ∙ take_all 4 a (omega (arith, long_a)) in
      let rest : drop 4 (t ++ z) ≡ b ++ z = ap (λ (l : List ℕ). drop 4 l) all ∙ drop-append-le 4 a (b ++ z) (omega (arith, long_a)) ∙ ap (λ (l : List ℕ). l ++ (b ++ z)) (drop_all 4 a (omega (arith, long_a))) in
      let same_head : a ≡ head = all_there head a over_a (sym (ap nonzero first) ∙ now.0 ∙ sym was.0) in
      let weight : weight_at (t ++ z) ≡ weight_at xs =
      ap weight_at all ∙ weight_front a (b ++ z) (omega (arith, long_a)) ∙ ap weight_at same_head ∙ sym (weight_front head body (omega (arith, long_head))) ∙ ap weight_at (take-append-drop 4 xs) in
      let size_is : size_at (t ++ z) ≡ weight_at b = ap weight_at rest ∙ weight_front b z (omega (arith, long_b)) in
      let size_less : weight_at b ≤ size_at xs = weight_less body b over_b in
      let k : ℕ = 4 + size_at (t ++ z) in
      let window : take k (drop 4 (t ++ z)) ≡ take k b = ap (λ (l : List ℕ). take k l) rest ∙ take-append-le k b z (omega (arith, long_b, size_is, size_less)) in
      let counted : nonzero (take k b) ≡ weight_at xs = sym (ap nonzero window) ∙ now.1 ∙ weight in
      let all_body : nonzero body ≡ weight_at xs = sym (ap nonzero (take_all (4 + size_at xs) body (omega (arith, long_body)))) ∙ was.1 in
      let same_body : b ≡ body = all_there body b over_b (omega (arith, counted, all_body, nonzero_take k b, no_more body b over_b)) in
      is ∙ ap (λ (l : List ℕ). l ++ b) same_head ∙ ap (λ (l : List ℕ). head ++ l) same_body ∙ take-append-drop 4 xs

-- The complete records at the start of `left`: the first ones of n records.
pub record Cut (n : ℕ) (records left : List ℕ) : Type 0 where
  pub number : ℕ
  pub first : List ℕ
  pub rest : List ℕ
  pub gone : List ℕ
  pub is : left ≡ first ++ rest
  pub are : AreRecords number first
  pub ends : is_whole rest ≡ false
  pub was : records ≡ first ++ gone
  pub few : number ≤ n

pub cut : (n : ℕ) (xs slack left : List ℕ) → AreRecords n xs → nonzero slack ≡ 0 → OverZeros (xs ++ slack) left → Cut n xs left
cut zero xs slack left are zeros over =
    let none : OverZeros slack left = subst (λ (l : List ℕ). OverZeros (l ++ slack) left) are over in
    record { number = 0; first = []; rest = left; gone = xs; is = refl; are = refl; ends = zeros_no left (omega (arith, no_more slack left none, zeros)); was = refl; few = omega arith }
cut (suc n) xs slack left are zeros over = ⊎_elim (one (λ z over_z. cut n (later_records xs) slack z are.1.1 zeros over_z)) none (cases_Bool (is_whole left))
  where
    s : ℕ
    s = 8 + size_at xs

    head : List ℕ
    head = take (8 + size_at xs) xs

    more : List ℕ
    more = later_records xs

    split : head ++ more ≡ xs
    split = take-append-drop (8 + size_at xs) xs

    long : length head ≡ 8 + size_at xs
    long = length-take-le (8 + size_at xs) xs are.1.0

    size_same : size_at xs ≡ size_at head
    size_same = sym (ap size_at split) ∙ ap weight_at (drop-append-le 4 head more (omega (arith, long))) ∙ weight_front (drop 4 head) more (omega (arith, long, length-drop 4 head))

    fits : 8 + size_at head ≤ length head
    fits = omega (arith, long, size_same)

    whole : is_whole head ≡ true
    whole = sym (whole_more head more fits) ∙ ap is_whole split ∙ are.0

    parts : (t : List ℕ) × (z : List ℕ) × ((left ≡ t ++ z) × (OverZeros head t × OverZeros (more ++ slack) z))
    parts = split_over head (more ++ slack) left (subst (λ (l : List ℕ). OverZeros l left) (sym (ap (λ (l : List ℕ). l ++ slack) split) ∙ append_assoc head more slack) over)

    one : ((z : List ℕ) → OverZeros (later_records xs ++ slack) z → Cut n (later_records xs) z) → is_whole left ≡ true → Cut (suc n) xs left
    one rest still =
        let t : List ℕ = parts.0 in
        let z : List ℕ = parts.1 in
        let same : t ≡ head = all_left head t z whole (omega (arith, long, size_same)) parts.2.1.0 (sym (ap is_whole parts.2.0) ∙ still) in
        let next : Cut n more z = rest z parts.2.1.1 in
        let nothing : later_records head ≡ [] = drop_all (8 + size_at head) head (omega (arith, long, size_same)) in
        record {
          number = suc next.number;
          first = head ++ next.first;
          rest = next.rest;
          gone = next.gone;
          is = parts.2.0 ∙ ap (λ (l : List ℕ). l ++ z) same ∙ ap (λ (l : List ℕ). head ++ l) next.is ∙ sym (append_assoc head next.first next.rest);
          are = (
            whole_more head next.first fits ∙ whole,
            (
              size_fits next.first,
              subst (λ (l : List ℕ). AreRecords next.number l) (sym (later_more head next.first fits ∙ ap (λ (l : List ℕ). l ++ next.first) nothing)) next.are,
            ),
          );
          ends = next.ends;
          was = sym split ∙ ap (λ (l : List ℕ). head ++ l) next.was ∙ sym (append_assoc head next.first next.gone);
          few = omega (arith, next.few);
        }
      where
        size_fits : (ys : List ℕ) → 8 + size_at (head ++ ys) ≤ length (head ++ ys)
        size_fits ys = omega (arith, fits, number_more head ys fits, length-append head ys)

    none : is_whole left ≡ false → Cut (suc n) xs left
    none isnt = record { number = 0; first = []; rest = left; gone = xs; is = refl; are = refl; ends = isnt; was = refl; few = omega arith }

-- records and more records
pub are_append : (n m k : ℕ) (xs ys : List ℕ) → k ≡ n + m → AreRecords n xs → AreRecords m ys → AreRecords k (xs ++ ys)
are_append zero m k xs ys is are more = subst (λ j. AreRecords j (xs ++ ys)) (sym (is ∙ plain)) (subst (λ (l : List ℕ). AreRecords m (l ++ ys)) (sym are) more)
  where
    plain : zero + m ≡ m
    plain = omega arith
are_append (suc n) m k xs ys is are more =
    let next : AreRecords (n + m) (later_records xs ++ ys) = are_append n m (n + m) (later_records xs) ys refl are.1.1 more in
    subst (λ j. AreRecords j (xs ++ ys)) (sym (is ∙ plain)) (
      whole_more xs ys are.1.0 ∙ are.0,
      (omega (arith, are.1.0, number_more xs ys are.1.0, length-append xs ys), subst (λ (l : List ℕ). AreRecords (n + m) l) (sym (later_more xs ys are.1.0)) next),
    )
  where
    plain : suc n + m ≡ suc (n + m)
    plain = omega arith

-- The complete records at the start of `left`: the first ones of m + n records, and at least m of them.
pub record CutAfter (m n : ℕ) (records left : List ℕ) : Type 0 where
  pub number : ℕ
  pub first : List ℕ
  pub rest : List ℕ
  pub gone : List ℕ
  pub is : left ≡ first ++ rest
  pub are : AreRecords (m + number) first
  pub ends : is_whole rest ≡ false
  pub was : records ≡ first ++ gone
  pub few : number ≤ n

pub cut_after : (m n : ℕ) (xs ys slack left : List ℕ) → AreRecords m xs → AreRecords n ys → nonzero slack ≡ 0 → length left ≡ length ((xs ++ ys) ++ slack)
    → ((i : ℕ) → i < length xs → get_or left i 0 ≡ get_or ((xs ++ ys) ++ slack) i 0)
    → ((i : ℕ) → (get_or left i 0 ≡ 0) ⊎ (get_or left i 0 ≡ get_or ((xs ++ ys) ++ slack) i 0)) → CutAfter m n (xs ++ ys) left
cut_after m n xs ys slack left xs_are ys_are zeros long same behind = record {
  number = next.number;
  first = xs ++ next.first;
  rest = next.rest;
  gone = next.gone;
  is = sym (take-append-drop (length xs) left) ∙ ap (λ (l : List ℕ). l ++ drop (length xs) left) front ∙ ap (λ (l : List ℕ). xs ++ l) next.is ∙ sym (append_assoc xs next.first next.rest);
  are = are_append m next.number (m + next.number) xs next.first refl xs_are next.are;
  ends = next.ends;
  was = ap (λ (l : List ℕ). xs ++ l) next.was ∙ sym (append_assoc xs next.first next.gone);
  few = next.few;
}
  where
    inside : length xs ≤ length left
    inside = omega (arith, long, length-append (xs ++ ys) slack, length-append xs ys)

    whole_is : (xs ++ ys) ++ slack ≡ xs ++ (ys ++ slack)
    whole_is = append_assoc xs ys slack

    front : take (length xs) left ≡ xs
    front = ext_get_or 0 (take (length xs) left) xs (length-take-le (length xs) left inside)
        (λ i below. let lt : i < length xs = omega (arith, below, length-take-le (length xs) left inside) in
        get_or-take (length xs) left i 0 lt ∙ same i lt ∙ ap (λ (l : List ℕ). get_or l i 0) whole_is ∙ get_or_append_left xs (ys ++ slack) 0 i lt)

    over : OverZeros (ys ++ slack) (drop (length xs) left)
    over = over_zeros (ys ++ slack) (drop (length xs) left) (omega (arith, length-drop (length xs) left, long, length-append (xs ++ ys) slack, length-append xs ys, length-append ys slack))
        (λ i lt.
        let here : get_or (drop (length xs) left) i 0 ≡ get_or left (length xs + i) 0 = get_or-drop (length xs) left i 0 in
        let less : length xs + i - length xs ≡ i = omega arith in
        let was : get_or ((xs ++ ys) ++ slack) (length xs + i) 0 ≡ get_or (ys ++ slack) i 0 =
        ap (λ (l : List ℕ). get_or l (length xs + i) 0) whole_is ∙ get_or-append_right xs (ys ++ slack) (length xs) (length xs + i) 0 refl (omega arith) ∙ ap (λ k. get_or (ys ++ slack) k 0) less in
        ⊎_elim (λ none. inl (here ∙ none)) (λ is. inr (here ∙ is ∙ was)) (behind (length xs + i)))

    next : Cut n ys (drop (length xs) left)
    next = cut n ys slack (drop (length xs) left) ys_are zeros over
