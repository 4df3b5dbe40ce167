-- Bytes written into a file, byte by byte.
use Rattle.std.proofs.Common.{◌≡◌, ⊎_elim, ℕ, ◌+◌, ◌-◌, ◌<◌, ◌≤◌, List, ◌++◌, length, take, drop, replicate, get_or, refl, sym, ◌∙◌, ap, arith, length-append, length-drop}
use Rattle.std.proofs.lemmas.List.{ext_get_or, get_or-take, get_or-drop, get_or_past, get_or_append_left, get_or-append_right, get_or-replicate, length-take-le, length-replicate}
use Rattle.std.proofs.lemmas.Bool.{cases_lt}
use Rattle.sdbm_saves.specs.Disk.{written, resized}

-- two lists are equal except for n bytes from an offset on
pub record Elsewhere (at n : ℕ) (x y : List ℕ) : Type 0 where
  pub before : (i : ℕ) → i < at → get_or y i 0 ≡ get_or x i 0
  pub after : (i : ℕ) → at + n ≤ i → get_or y i 0 ≡ get_or x i 0

pub length-written : (at : ℕ) (bytes old : List ℕ) → at + length bytes ≤ length old → length (written at bytes old) ≡ length old
length-written at bytes old inside =
    let front : length (take at old) ≡ at = length-take-le at old (omega (arith, inside)) in
    omega (arith, inside, front, length-append (take at old) (bytes ++ drop (at + length bytes) old), length-append bytes (drop (at + length bytes) old), length-drop (at + length bytes) old)

pub written_before : (at : ℕ) (bytes old : List ℕ) (i : ℕ) → at ≤ length old → i < at → get_or (written at bytes old) i 0 ≡ get_or old i 0
written_before at bytes old i inside lt =
    let front : length (take at old) ≡ at = length-take-le at old inside in
    get_or_append_left (take at old) (bytes ++ drop (at + length bytes) old) 0 i (omega (arith, front, lt)) ∙ get_or-take at old i 0 lt

pub written_behind : (at : ℕ) (bytes old : List ℕ) (i : ℕ) → at ≤ length old → at ≤ i → get_or (written at bytes old) i 0 ≡ get_or (bytes ++ drop (at + length bytes) old) (i - at) 0
written_behind at bytes old i inside le = get_or-append_right (take at old) (bytes ++ drop (at + length bytes) old) at i 0 (length-take-le at old inside) le

pub written_inside : (at : ℕ) (bytes old : List ℕ) (i : ℕ) → at ≤ length old → at ≤ i → i < at + length bytes → get_or (written at bytes old) i 0 ≡ get_or bytes (i - at) 0
written_inside at bytes old i inside le lt = written_behind at bytes old i inside le ∙ get_or_append_left bytes (drop (at + length bytes) old) 0 (i - at) (omega (arith, le, lt))

pub written_after : (at : ℕ) (bytes old : List ℕ) (i : ℕ) → at ≤ length old → at + length bytes ≤ i → get_or (written at bytes old) i 0 ≡ get_or old i 0
written_after at bytes old i inside le =
    let same : at + length bytes + (i - at - length bytes) ≡ i = omega (arith, le) in
    written_behind at bytes old i inside (omega (arith, le))
    ∙ get_or-append_right bytes (drop (at + length bytes) old) (length bytes) (i - at) 0 refl (omega (arith, le))
    ∙ get_or-drop (at + length bytes) old (i - at - length bytes) 0
    ∙ ap (λ (k : ℕ). get_or old k 0) same

-- the overwritten bytes do not matter
pub absorbs : (at : ℕ) (bytes x y : List ℕ) → at + length bytes ≤ length x → length y ≡ length x → Elsewhere at (length bytes) x y → written at bytes y ≡ written at bytes x
absorbs at bytes x y inside same_length same =
    let in_y : at + length bytes ≤ length y = omega (arith, inside, same_length) in
    ext_get_or 0 (written at bytes y) (written at bytes x) (length-written at bytes y in_y ∙ same_length ∙ sym (length-written at bytes x inside))
    (λ i below. ⊎_elim
    (λ lt. written_before at bytes y i (omega (arith, in_y)) lt ∙ same.before i lt ∙ sym (written_before at bytes x i (omega (arith, inside)) lt))
    (λ le. ⊎_elim
    (λ lt. written_inside at bytes y i (omega (arith, in_y)) le lt ∙ sym (written_inside at bytes x i (omega (arith, inside)) le lt))
    (λ past. written_after at bytes y i (omega (arith, in_y)) past ∙ same.after i past ∙ sym (written_after at bytes x i (omega (arith, inside)) past))
    (cases_lt i (at + length bytes)))
    (cases_lt i at))

-- writing the same bytes into both keeps them equal elsewhere
pub written_elsewhere : (at n a : ℕ) (bytes x y : List ℕ) → a + length bytes ≤ length x → length y ≡ length x → Elsewhere at n x y → Elsewhere at n (written a bytes x) (written a bytes y)
written_elsewhere at n a bytes x y inside same_length same = record {
  before = λ i lt. each i (same.before i lt);
  after = λ i le. each i (same.after i le);
}
  where
    in_y : a + length bytes ≤ length y
    in_y = omega (arith, inside, same_length)

    each : (i : ℕ) → get_or y i 0 ≡ get_or x i 0 → get_or (written a bytes y) i 0 ≡ get_or (written a bytes x) i 0
    each i is = ⊎_elim
        (λ lt. written_before a bytes y i (omega (arith, in_y)) lt ∙ is ∙ sym (written_before a bytes x i (omega (arith, inside)) lt))
        (λ le. ⊎_elim
        (λ lt. written_inside a bytes y i (omega (arith, in_y)) le lt ∙ sym (written_inside a bytes x i (omega (arith, inside)) le lt))
        (λ past. written_after a bytes y i (omega (arith, in_y)) past ∙ is ∙ sym (written_after a bytes x i (omega (arith, inside)) past))
        (cases_lt i (a + length bytes)))
        (cases_lt i a)

pub length-resized : (n : ℕ) (old : List ℕ) → length (resized n old) ≡ n
length-resized n old = length-take-le n (old ++ replicate n 0) (omega (arith, length-append old (replicate n 0), length-replicate {A = ℕ} n 0))

-- a byte past the end counts as zero
pub read_resized : (n : ℕ) (old : List ℕ) (i : ℕ) → i < n → get_or (resized n old) i 0 ≡ get_or old i 0
read_resized n old i lt = get_or-take n (old ++ replicate n 0) i 0 lt ∙ ⊎_elim
    (λ inside. get_or_append_left old (replicate n 0) 0 i inside)
    (λ past. get_or-append_right old (replicate n 0) (length old) i 0 refl past ∙ get_or-replicate n (i - length old) 0 0 (omega (arith, lt)) ∙ sym (get_or_past old i 0 past))
    (cases_lt i (length old))

pub resized_same : (n : ℕ) (x y : List ℕ) → ((i : ℕ) → i < n → get_or y i 0 ≡ get_or x i 0) → resized n y ≡ resized n x
resized_same n x y same = ext_get_or 0 (resized n y) (resized n x) (length-resized n y ∙ sym (length-resized n x))
    (λ i below. let lt : i < n = omega (arith, below, length-resized n y) in read_resized n y i lt ∙ same i lt ∙ sym (read_resized n x i lt))

pub resized_elsewhere : (at n k : ℕ) (x y : List ℕ) → Elsewhere at n x y → Elsewhere at n (resized k x) (resized k y)
resized_elsewhere at n k x y same = record {
  before = λ i lt. each i (same.before i lt);
  after = λ i le. each i (same.after i le);
}
  where
    each : (i : ℕ) → get_or y i 0 ≡ get_or x i 0 → get_or (resized k y) i 0 ≡ get_or (resized k x) i 0
    each i is = ⊎_elim
        (λ lt. read_resized k y i lt ∙ is ∙ sym (read_resized k x i lt))
        (λ past. get_or_past (resized k y) i 0 (omega (arith, past, length-resized k y)) ∙ sym (get_or_past (resized k x) i 0 (omega (arith, past, length-resized k x))))
        (cases_lt i k)

-- the bytes after the first
pub behind_first : (x y : List ℕ) → length y ≡ length x → ((i : ℕ) → 1 ≤ i → get_or y i 0 ≡ get_or x i 0) → drop 1 y ≡ drop 1 x
behind_first x y same_length same = ext_get_or 0 (drop 1 y) (drop 1 x) (omega (arith, length-drop 1 y, length-drop 1 x, same_length))
    (λ i below. get_or-drop 1 y i 0 ∙ same (1 + i) (omega arith) ∙ sym (get_or-drop 1 x i 0))
