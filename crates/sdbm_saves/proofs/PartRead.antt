-- The image with one page that was read, and zeros on the remaining pages, reads the same.
use Rattle.std.proofs.Common.{◌≡◌, ◌≢◌, ℕ, ◌+◌, ◌*◌, ◌-◌, ◌<◌, ◌≤◌, List, [], ◌++◌, length, get_or, replicate, Bool, true, false, nat_lt, refl, sym, ◌∙◌, ap, arith}
use Rattle.std.proofs.lemmas.Bool.{ltb-true, ltb-false}
use Rattle.std.proofs.lemmas.List.{get_or_append_left, get_or-append_right, get_or-replicate, get_or_past, length-replicate, length-append}
use Rattle.sdbm_addr.specs.declared.PageSize.{PageSize}
use Rattle.sdbm_addr.specs.declared.PageSize.TheVariants.{Small, Wide}
use Rattle.sdbm_addr.specs.Pairs.{page_bytes}
use Rattle.sdbm_saves.specs.declared.part.Part.{Part}
use Rattle.sdbm_saves.specs.Recording.{part_pages}
use Rattle.sdbm_saves.specs.Parts.{IsReadSo}
use Rattle.sdbm_saves.proofs.Lists.{length-resized, read_resized}

pub below_page : (size : PageSize) (n m i : ℕ) → n < m → i < page_bytes size → n * page_bytes size + i < m * page_bytes size
below_page Small n m i lt inside = omega (arith, lt, inside)
below_page Wide n m i lt inside = omega (arith, lt, inside)

above_page : (size : PageSize) (n m i : ℕ) → m < n → m * page_bytes size + page_bytes size ≤ n * page_bytes size + i
above_page Small n m i lt = omega (arith, lt)
above_page Wide n m i lt = omega (arith, lt)

above : (n m : ℕ) → n ≢ m → m ≤ n → m < n
above n m other le = omega (arith, other, le)

module _ (part : Part) (size : PageSize) (long : length part.page.now ≡ page_bytes size)
    (padded : (i : ℕ) → i < page_bytes size → part.len ≤ part.number * page_bytes size + i → get_or part.page.now i 0 ≡ 0) where
  abbrev zeros : List ℕ
  zeros = replicate (part.number * page_bytes size) 0

  abbrev given : List ℕ
  given = zeros ++ part.page.now

  before_long : length zeros ≡ part.number * page_bytes size
  before_long = length-replicate (part.number * page_bytes size) 0

  given_long : length given ≡ part.number * page_bytes size + page_bytes size
  given_long = length-append zeros part.page.now ∙ ap (λ (k : ℕ). k + length part.page.now) before_long ∙ ap (λ (k : ℕ). part.number * page_bytes size + k) long

  here : (i : ℕ) → i < page_bytes size → get_or given (part.number * page_bytes size + i) 0 ≡ get_or part.page.now i 0
  here i below =
      let back : part.number * page_bytes size + i - part.number * page_bytes size ≡ i = omega arith in
      get_or-append_right zeros part.page.now (part.number * page_bytes size) (part.number * page_bytes size + i) 0 before_long (omega arith)
      ∙ ap (λ (k : ℕ). get_or part.page.now k 0) back

  elsewhere : (n i : ℕ) → n ≢ part.number → i < page_bytes size → get_or given (n * page_bytes size + i) 0 ≡ 0
  elsewhere n i other below = at (nat_lt n part.number) refl
    where
      at : (b : Bool) → nat_lt n part.number ≡ b → get_or given (n * page_bytes size + i) 0 ≡ 0
      at true is =
          let lt : n * page_bytes size + i < part.number * page_bytes size = below_page size n part.number i (ltb-true n part.number is) below in
          get_or_append_left zeros part.page.now 0 (n * page_bytes size + i) (omega (arith, lt, before_long))
          ∙ get_or-replicate (part.number * page_bytes size) (n * page_bytes size + i) 0 0 lt
      at false is =
          let gt : part.number < n = above n part.number other (ltb-false n part.number is) in
          get_or_past given (n * page_bytes size + i) 0 (omega (arith, given_long, above_page size n part.number i gt))

  reads : (n i : ℕ) (page : List ℕ) → get_or given (n * page_bytes size + i) 0 ≡ get_or page i 0 → (part.len ≤ n * page_bytes size + i → get_or page i 0 ≡ 0)
      → get_or (part_pages part size) (n * page_bytes size + i) 0 ≡ get_or page i 0
  reads n i page same past = at (nat_lt (n * page_bytes size + i) part.len) refl
    where
      at : (b : Bool) → nat_lt (n * page_bytes size + i) part.len ≡ b → get_or (part_pages part size) (n * page_bytes size + i) 0 ≡ get_or page i 0
      at true is = read_resized part.len given (n * page_bytes size + i) (ltb-true (n * page_bytes size + i) part.len is) ∙ same
      at false is =
          let beyond : part.len ≤ n * page_bytes size + i = ltb-false (n * page_bytes size + i) part.len is in
          get_or_past (part_pages part size) (n * page_bytes size + i) 0 (omega (arith, beyond, length-resized part.len given)) ∙ sym (past beyond)

  pub part_is_read : (numbers : List ℕ) → IsReadSo part numbers size (part_pages part size)
  part_is_read numbers = record {
    long = length-resized part.len given;
    reads = record {
      page = λ i below. reads part.number i part.page.now (here i below) (padded i below);
      others = λ n there other i below. reads n i [] (elsewhere n i other below) (λ past. refl);
    };
  }
