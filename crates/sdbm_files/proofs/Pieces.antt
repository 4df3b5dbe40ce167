-- Reading a piece of a file page by page.
use Rattle.std.proofs.Common.{◌≡◌, ℕ, ◌+◌, ◌*◌, ◌-◌, ◌/◌, ◌%◌, ◌<◌, ◌≤◌, List, ◌++◌, length, length-append, length-drop, take, drop, sym, ap, ◌∙◌, subst, arith, append_assoc}
use Rattle.std.proofs.lemmas.List.{append-nil, length-take-le, take-append-drop, take_rest}
use Rattle.std.proofs.Math.Seq.{take-add}
use Rattle.sdbm_addr.specs.declared.PageSize.{PageSize}
use Rattle.sdbm_addr.specs.declared.PageSize.TheVariants.{Small, Wide}
use Rattle.sdbm_addr.specs.Pairs.{page_bytes}
use Rattle.sdbm_files.specs.Reading.{PagRead, with_piece}

-- the same file with other bytes
abbrev with_bytes : PagRead → List ℕ → PagRead
with_bytes read bytes = record { size = read.size; bytes = bytes }

pub piece_none : (read : PagRead) (piece : List ℕ) (n : ℕ) → n ≡ 0 → read ≡ with_piece read (take n piece)
piece_none read piece n none = sym (ap (with_bytes read) (ap (λ (k : ℕ). read.bytes ++ take k piece) none ∙ append-nil read.bytes))

-- two pieces in a row
pub piece_more : (read middle new : PagRead) (first second both : List ℕ) → middle ≡ with_piece read first → new ≡ with_piece middle second → first ++ second ≡ both → new ≡ with_piece read both
piece_more read middle new first second both before is parts =
    is ∙ ap (λ (r : PagRead). with_piece r second) before ∙ ap (with_bytes read) (append_assoc read.bytes first second ∙ ap (λ (l : List ℕ). read.bytes ++ l) parts)

size_kept : (read middle : PagRead) (first : List ℕ) → middle ≡ with_piece read first → middle.size ≡ read.size
size_kept read middle first is = ap (λ (r : PagRead). r.size) is

pages_in : (size : PageSize) (long index : ℕ) → index < long / page_bytes size → index * page_bytes size + page_bytes size ≤ long
pages_in Small long index h = omega arith
pages_in Wide long index h = omega arith

pub inside_at : (size : PageSize) (long index b : ℕ) → b ≡ page_bytes size → index < long / b → index * page_bytes size ≤ long
inside_at size long index b is below =
    let within : index * page_bytes size + page_bytes size ≤ long = pages_in size long index (subst (λ (k : ℕ). index < long / k) is below) in
    omega (arith, within)

pages_of_piece : (size : PageSize) (long : ℕ) → long / page_bytes size * page_bytes size ≤ long
pages_of_piece Small long = omega arith
pages_of_piece Wide long = omega arith

rest_short : (size : PageSize) (long : ℕ) → long - long / page_bytes size * page_bytes size < page_bytes size
rest_short Small long = omega arith
rest_short Wide long = omega arith

whole_more : (size : PageSize) (long n : ℕ) → long % page_bytes size ≡ 0 → (long + n * page_bytes size) % page_bytes size ≡ 0
whole_more Small long n h = omega arith
whole_more Wide long n h = omega arith

-- the first pages of the piece are read
module _ (read middle : PagRead) (piece : List ℕ) (index : ℕ) (before : middle ≡ with_piece read (take (index * page_bytes read.size) piece)) (inside : index * page_bytes read.size ≤ length piece) where
  long : length middle.bytes ≡ length read.bytes + index * page_bytes read.size
  long = ap (λ (r : PagRead). length r.bytes) before ∙ length-append read.bytes (take (index * page_bytes read.size) piece)
      ∙ ap (λ (k : ℕ). length read.bytes + k) (length-take-le (index * page_bytes read.size) piece inside)

  same_size : middle.size ≡ read.size
  same_size = size_kept read middle (take (index * page_bytes read.size) piece) before

  pub whole_still : length read.bytes % page_bytes read.size ≡ 0 → length middle.bytes % page_bytes middle.size ≡ 0
  whole_still whole =
      ap (λ (s : PageSize). length middle.bytes % page_bytes s) same_size ∙ ap (λ (k : ℕ). k % page_bytes read.size) long ∙ whole_more read.size (length read.bytes) index whole

  -- the next page
  module _ (b : ℕ) (b_is : b ≡ page_bytes read.size) (below : index < length piece / b) where
    abbrev part : List ℕ
    part = take (index * b + b - index * b) (drop (index * b) piece)

    at : ℕ
    at = index * page_bytes read.size

    within : at + page_bytes read.size ≤ length piece
    unfolding at
    within = pages_in read.size (length piece) index (subst (λ (k : ℕ). index < length piece / k) b_is below)

    part_is : part ≡ take (page_bytes read.size) (drop at piece)
    unfolding at
    part_is =
        ap (λ (k : ℕ). take (index * k + k - index * k) (drop (index * k) piece)) b_is
        ∙ ap (λ (k : ℕ). take k (drop (index * page_bytes read.size) piece)) (omega arith)

    part_long : length part ≡ page_bytes read.size
    part_long = ap (λ (l : List ℕ). length l) part_is ∙ length-take-le (page_bytes read.size) (drop at piece) (omega (arith, within, length-drop at piece))

    pub next_page : length part ≡ page_bytes middle.size
    next_page = part_long ∙ ap page_bytes (sym same_size)

    pub next_short : (most : ℕ) → length read.bytes + length piece < most → length middle.bytes + length part < most
    unfolding at
    next_short most short = omega (arith, long, part_long, within, short)

    pub next_read : (new : PagRead) → new ≡ with_piece middle part → new ≡ with_piece read (take ((index + 1) * page_bytes read.size) piece)
    unfolding at
    next_read new is =
        piece_more read middle new (take at piece) part (take ((index + 1) * page_bytes read.size) piece) before is
        (ap (λ (l : List ℕ). take at piece ++ l) part_is ∙ sym (take-add at (page_bytes read.size) piece) ∙ ap (λ (k : ℕ). take k piece) (next_at read.size index))
      where
        next_at : (size : PageSize) (index : ℕ) → index * page_bytes size + page_bytes size ≡ (index + 1) * page_bytes size
        next_at Small index = omega arith
        next_at Wide index = omega arith

-- all whole pages are read, and the rest is not
module _ (read middle : PagRead) (piece : List ℕ) (index b : ℕ) (before : middle ≡ with_piece read (take (index * page_bytes read.size) piece)) (b_is : b ≡ page_bytes read.size) (all : index ≡ length piece / b) where
  abbrev rest : List ℕ
  rest = take (length piece - length piece / b * b) (drop (length piece / b * b) piece)

  count_is : index ≡ length piece / page_bytes read.size
  count_is = all ∙ ap (λ (k : ℕ). length piece / k) b_is

  inside_all : index * page_bytes read.size ≤ length piece
  inside_all = subst (λ (k : ℕ). k * page_bytes read.size ≤ length piece) (sym count_is) (pages_of_piece read.size (length piece))

  rest_is : rest ≡ drop (index * page_bytes read.size) piece
  rest_is = take_rest piece (length piece / b * b) ∙ ap (λ (k : ℕ). drop (k * b) piece) (sym all) ∙ ap (λ (k : ℕ). drop (index * k) piece) b_is

  rest_long : length rest ≡ length piece - index * page_bytes read.size
  rest_long = ap (λ (l : List ℕ). length l) rest_is ∙ length-drop (index * page_bytes read.size) piece

  pub whole_all : length read.bytes % page_bytes read.size ≡ 0 → length middle.bytes % page_bytes middle.size ≡ 0
  whole_all = whole_still read middle piece index before inside_all

  pub rest_below : length rest < page_bytes middle.size
  rest_below =
      subst (λ (s : PageSize). length rest < page_bytes s) (sym (size_kept read middle (take (index * page_bytes read.size) piece) before))
      (subst (λ (k : ℕ). k < page_bytes read.size) (sym rest_long)
      (subst (λ (k : ℕ). length piece - k * page_bytes read.size < page_bytes read.size) (sym count_is) (rest_short read.size (length piece))))

  pub rest_fits : (most : ℕ) → length read.bytes + length piece < most → length middle.bytes + length rest < most
  rest_fits most short = omega (arith, long read middle piece index before inside_all, rest_long, inside_all, short)

  pub all_read : (new : PagRead) → new ≡ with_piece middle rest → new ≡ with_piece read piece
  all_read new is =
      piece_more read middle new (take (index * page_bytes read.size) piece) rest piece before is
      (ap (λ (l : List ℕ). take (index * page_bytes read.size) piece ++ l) rest_is ∙ take-append-drop (index * page_bytes read.size) piece)
