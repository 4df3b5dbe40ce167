-- Pages in the bytes of a file: their positions, and the effect of appended bytes.
use Rattle.std.proofs.Common.{◌≡◌, ℕ, ◌+◌, ◌*◌, ◌-◌, ◌/◌, ◌%◌, ◌<◌, ◌≤◌, min, List, [], ◌++◌, length, length-drop, take, drop, get_or, sym, ap, ◌∙◌, subst, arith}
use Rattle.std.proofs.lemmas.List.{append-nil, take-append-le, drop-append-le, take_all, get_or-take, get_or-drop}
use Rattle.std.proofs.Math.Seq.{take-add}
use Rattle.sdbm_addr.specs.declared.PageSize.{PageSize}
use Rattle.sdbm_addr.specs.declared.PageSize.TheVariants.{Small, Wide}
use Rattle.sdbm_addr.specs.Pairs.{page_bytes}
use Rattle.sdbm_addr.specs.Files.{page_at}
use Rattle.sdbm_page.proofs.Reading.{part_read}
use Rattle.sdbm_files.specs.Reading.{IsBlock}

pub inside_page : (size : PageSize) (long n count : ℕ) → long ≡ count * page_bytes size → (n + 1) * page_bytes size ≤ long → n < count
inside_page Small long n count is h = omega arith
inside_page Wide long n count is h = omega arith

pub pages_whole : (size : PageSize) (long count : ℕ) → long ≡ count * page_bytes size → long % page_bytes size ≡ 0
pages_whole Small long count is = omega arith
pages_whole Wide long count is = omega arith

pub page_end : (size : PageSize) (long n count : ℕ) → count * page_bytes size ≤ long → n < count → (n + 1) * page_bytes size ≤ long
page_end Small long n count is h = omega arith
page_end Wide long n count is h = omega arith

-- if no whole page follows the first `count` pages of a whole number of pages, these are all pages
pub all_pages : (size : PageSize) (long count : ℕ) → long % page_bytes size ≡ 0 → count * page_bytes size ≤ long → long < (count + 1) * page_bytes size → long ≡ count * page_bytes size
all_pages Small long count whole least most = omega arith
all_pages Wide long count whole least most = omega arith

-- one more page
pub one_page : (size : PageSize) (long count : ℕ) → long ≡ count * page_bytes size → long + page_bytes size ≡ (count + 1) * page_bytes size
one_page Small long count is = omega arith
one_page Wide long count is = omega arith

pub more_pages : (size : PageSize) (long count : ℕ) → long < (count + 1) * page_bytes size → long + page_bytes size < (count + 1 + 1) * page_bytes size
more_pages Small long count h = omega arith
more_pages Wide long count h = omega arith

next_start : (size : PageSize) (n : ℕ) → (n + 1) * page_bytes size - n * page_bytes size ≡ page_bytes size
next_start Small n = omega arith
next_start Wide n = omega arith

pub start_below : (size : PageSize) (n : ℕ) → n * page_bytes size ≤ (n + 1) * page_bytes size
start_below Small n = omega arith
start_below Wide n = omega arith

-- appended bytes do not change earlier pages
pub page_before : (size : PageSize) (pag bytes : List ℕ) (n : ℕ) → (n + 1) * page_bytes size ≤ length pag → page_at size (pag ++ bytes) n ≡ page_at size pag n
page_before size pag bytes n inside =
    let start = n * page_bytes size in
    let from : start ≤ length pag = omega (arith, start_below size n, inside) in
    let room : (n + 1) * page_bytes size - start ≤ length (drop start pag) = omega (arith, length-drop start pag, inside) in
    ap (λ (l : List ℕ). take ((n + 1) * page_bytes size - start) l) (drop-append-le start pag bytes from) ∙ take-append-le ((n + 1) * page_bytes size - start) (drop start pag) bytes room

-- a page appended to n pages is page n
pub page_behind : (size : PageSize) (pag bytes : List ℕ) (n : ℕ) → length pag ≡ n * page_bytes size → length bytes ≡ page_bytes size → page_at size (pag ++ bytes) n ≡ bytes
page_behind size pag bytes n long is_page =
    part_read (pag ++ bytes) pag bytes [] (n * page_bytes size) ((n + 1) * page_bytes size) (ap (λ (l : List ℕ). pag ++ l) (sym (append-nil bytes))) (sym long)
    (omega (arith, one_page size (length pag) n long, is_page))

-- a byte of a page is a byte of the file
pub page_reads : (size : PageSize) (pag : List ℕ) (n i : ℕ) → i < page_bytes size → get_or (page_at size pag n) i 0 ≡ get_or pag (n * page_bytes size + i) 0
page_reads size pag n i below =
    get_or-take ((n + 1) * page_bytes size - n * page_bytes size) (drop (n * page_bytes size) pag) i 0 (omega (arith, below, next_start size n)) ∙ get_or-drop (n * page_bytes size) pag i 0

-- ---- whole pages

-- the length of a whole number of pages
pub pages_counted : (size : PageSize) (long : ℕ) → long % page_bytes size ≡ 0 → long ≡ long / page_bytes size * page_bytes size
pages_counted Small long whole = omega arith
pages_counted Wide long whole = omega arith

pub count_is : (size : PageSize) (long count : ℕ) → long ≡ count * page_bytes size → long / page_bytes size ≡ count
count_is Small long count is = omega arith
count_is Wide long count is = omega arith

pub count_more : (size : PageSize) (long count k : ℕ) → long ≡ count * page_bytes size → k ≡ page_bytes size → (long + k) / page_bytes size ≡ count + 1
count_more Small long count k is page = omega arith
count_more Wide long count k is page = omega arith

pub count_kept : (size : PageSize) (long k : ℕ) → long % page_bytes size ≡ 0 → k < page_bytes size → (long + k) / page_bytes size ≡ long / page_bytes size
count_kept Small long k whole short = omega arith
count_kept Wide long k whole short = omega arith

pub counted_inside : (size : PageSize) (long : ℕ) → long / page_bytes size * page_bytes size ≤ long
counted_inside Small long = omega arith
counted_inside Wide long = omega arith

pub no_pages : (size : PageSize) (pag : List ℕ) → take (0 * page_bytes size) pag ≡ []
no_pages size pag = ap (λ (k : ℕ). take k pag) (nothing (page_bytes size))
  where
    nothing : (n : ℕ) → 0 * n ≡ 0
    nothing n = omega arith

-- the first n pages and the next page
pub pages_next : (size : PageSize) (pag : List ℕ) (n : ℕ) → take (n * page_bytes size) pag ++ page_at size pag n ≡ take ((n + 1) * page_bytes size) pag
pages_next size pag n =
    let start = n * page_bytes size in
    sym (take-add start ((n + 1) * page_bytes size - start) pag) ∙ ap (λ (k : ℕ). take k pag) (omega (arith, start_below size n))

ceil_past : (size : PageSize) (long n : ℕ) → long / page_bytes size + min 1 (long % page_bytes size) ≤ n → long ≤ n * page_bytes size
ceil_past Small long n h = omega arith
ceil_past Wide long n h = omega arith

-- n pages are the whole file, if n is at least its number of pages, a partial last page included
pub all_taken : (size : PageSize) (pag : List ℕ) (n b : ℕ) → b ≡ page_bytes size → length pag / b + min 1 (length pag % b) ≤ n → take (n * page_bytes size) pag ≡ pag
all_taken size pag n b is past =
    take_all (n * page_bytes size) pag (ceil_past size (length pag) n (subst (λ (k : ℕ). length pag / k + min 1 (length pag % k) ≤ n) is past))

-- ---- blocks of 1,024 bytes

starts_on : (size : PageSize) (index : ℕ) → index % (page_bytes size / 1024) * 1024 + 1024 ≤ page_bytes size
starts_on Small index = omega arith
starts_on Wide index = omega arith

starts_in : (size : PageSize) (index : ℕ) → index / (page_bytes size / 1024) * page_bytes size + index % (page_bytes size / 1024) * 1024 ≡ index * 1024
starts_in Small index = omega arith
starts_in Wide index = omega arith

-- a part of a page is a block of the file
pub block_of_page : (size : PageSize) (pag page block : List ℕ) (index bytes : ℕ) → bytes ≡ page_bytes size → page ≡ page_at size pag (index / (bytes / 1024)) → length block ≤ 1024
    → ((i : ℕ) → i < 1024 → get_or block i 0 ≡ get_or page (index % (bytes / 1024) * 1024 + i) 0) → IsBlock pag index block
block_of_page size pag page block index bytes bytes_are is short reads = record {
  short = short;
  reads = λ i below.
      reads i below ∙ ap (λ (l : List ℕ). get_or l (index % (bytes / 1024) * 1024 + i) 0) is
      ∙ page_reads size pag (index / (bytes / 1024)) (index % (bytes / 1024) * 1024 + i) (omega (arith, below, within)) ∙ ap (λ (k : ℕ). get_or pag k 0) (omega (arith, place));
}
  where
    within : index % (bytes / 1024) * 1024 + 1024 ≤ page_bytes size
    within = subst (λ (k : ℕ). index % (k / 1024) * 1024 + 1024 ≤ page_bytes size) (sym bytes_are) (starts_on size index)

    place : index / (bytes / 1024) * page_bytes size + index % (bytes / 1024) * 1024 ≡ index * 1024
    place = subst (λ (k : ℕ). index / (k / 1024) * page_bytes size + index % (k / 1024) * 1024 ≡ index * 1024) (sym bytes_are) (starts_in size index)
