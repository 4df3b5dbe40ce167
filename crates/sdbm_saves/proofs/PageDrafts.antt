-- The pages of a database, as a draft writes them in order.
use Rattle.std.proofs.Common.{◌≡◌, ℕ, suc, ◌+◌, ◌*◌, ◌-◌, ◌/◌, ◌%◌, ◌<◌, ◌≤◌, ◌^◌, List, [], ◌++◌, length, take, drop, get_or, refl, sym, ◌∙◌, ap, subst, arith, length-append}
use Rattle.std.proofs.lemmas.List.{ext_get_or, get_or_append_left, get_or-append_right}
use Rattle.sdbm_addr.specs.declared.PageSize.{PageSize}
use Rattle.sdbm_addr.specs.declared.PageSize.TheVariants.{Small, Wide}
use Rattle.sdbm_addr.specs.Pairs.{page_bytes}
use Rattle.sdbm_addr.specs.Layout.{bytes_of_page}
use Rattle.sdbm_addr.specs.Database.{Database, IsDatabase, pairs_at}
use Rattle.sdbm_addr.specs.DirectoryFile.{AreDirectoryBytes}
use Rattle.sdbm_addr.specs.Files.{first_pages, ArePagBytes, IsPageCount}
use Rattle.sdbm_files.proofs.WriteLemmas.{first_pages-split, length-first_pages, long_page, SpellsDatabase-written}
use Rattle.sdbm_saves.specs.Disk.{resized}
use Rattle.sdbm_saves.specs.declared.disk.DiskFile.TheVariants.{Pages, Directory}
use Rattle.sdbm_saves.specs.Drafts.{plan_bytes, AreChanges}
use Rattle.sdbm_saves.specs.Saves.{AreFilesFor, ChangesNothing}
use Rattle.sdbm_saves.proofs.Lists.{length-resized, read_resized}
use Rattle.sdbm_saves.proofs.Drafts.{length_part, part_reads, is_planned, knows_planned, renewed_planned}

-- the first n pages
pub page_inside : (size : PageSize) (n count : ℕ) → n < count → n * page_bytes size + page_bytes size ≤ count * page_bytes size
page_inside Small n count below = omega (arith, below)
page_inside Wide n count below = omega (arith, below)

pub next_page : (size : PageSize) (n : ℕ) → n * page_bytes size + page_bytes size ≡ (n + 1) * page_bytes size
next_page Small n = omega arith
next_page Wide n = omega arith

-- the number of blocks in a page
abbrev pub in_page : PageSize → ℕ
in_page size = page_bytes size / 1024

-- a block belongs to one of the first n pages
pub page_is : (size : PageSize) (index count : ℕ) → index < count * in_page size → index / in_page size < count
page_is Small index count below = omega (arith, below)
page_is Wide index count below = omega (arith, below)

-- the offset of a block in its page and in the file
pub starts_on : (size : PageSize) (index : ℕ) → index % in_page size * 1024 + 1024 ≤ page_bytes size
starts_on Small index = omega arith
starts_on Wide index = omega arith

pub starts_in : (size : PageSize) (index : ℕ) → index / in_page size * page_bytes size + index % in_page size * 1024 ≡ index * 1024
starts_in Small index = omega arith
starts_in Wide index = omega arith

-- the blocks of all pages
pub blocks_are : (size : PageSize) (count : ℕ) → count * in_page size * 1024 ≡ count * page_bytes size
blocks_are Small count = omega arith
blocks_are Wide count = omega arith

-- a page starts at the end of the pages before it
pub page_reads : (db : Database) → IsDatabase db → (n count i : ℕ) → n < count → i < length (bytes_of_page db.size (pairs_at db n))
    → get_or (bytes_of_page db.size (pairs_at db n)) i 0 ≡ get_or (first_pages db count) (n * page_bytes db.size + i) 0
page_reads db ok n count i below inside =
    let page = bytes_of_page db.size (pairs_at db n) in
    let before = first_pages db n in
    let at = n * page_bytes db.size in
    let split = first_pages-split db (suc n) count below in
    let long : length before ≡ at = length-first_pages db ok n in
    let on : at + i - at ≡ i = omega arith in
    sym (ap (λ (l : List ℕ). get_or l (at + i) 0) split.1
    ∙ get_or_append_left (before ++ page) split.0 0 (at + i) (omega (arith, length-append before page, long, inside))
    ∙ get_or-append_right before page at (at + i) 0 long (omega arith)
    ∙ ap (λ (k : ℕ). get_or page k 0) on)

-- a block of the pages
module _ (db : Database) (ok : IsDatabase db) (index count whole : ℕ) (below : index < count * in_page db.size) (whole_is : count * page_bytes db.size ≡ whole) where
  abbrev page : List ℕ
  page = bytes_of_page db.size (pairs_at db (index / in_page db.size))

  abbrev at : ℕ
  at = index * 1024

  -- a block of its page is one of the file
  pub block_reads_so : (block : List ℕ) → length block ≡ 1024 → ((i : ℕ) → i < 1024 → get_or block i 0 ≡ get_or page (index % in_page db.size * 1024 + i) 0)
      → (i : ℕ) → i < length block → get_or block i 0 ≡ get_or (first_pages db count) (at + i) 0
  block_reads_so block long reads i lt =
      let n = index / in_page db.size in
      let start = index % in_page db.size * 1024 in
      let place : n * page_bytes db.size + (start + i) ≡ at + i = omega (arith, starts_in db.size index) in
      reads i (omega (arith, lt, long))
      ∙ page_reads db ok n count (start + i) (page_is db.size index count below) (omega (arith, lt, long, starts_on db.size index, long_page db ok n))
      ∙ ap (λ (k : ℕ). get_or (first_pages db count) k 0) place

-- a block of a page, as code reads it
module _ (db : Database) (ok : IsDatabase db) (index per : ℕ) (per_is : per ≡ in_page db.size) (page : List ℕ) (page_is : page ≡ bytes_of_page db.size (pairs_at db (index / per))) where
  abbrev part_start : ℕ
  part_start = index % per * 1024

  abbrev part_size : ℕ
  part_size = part_start + 1024 - part_start

  pub part_inside : part_start + 1024 ≤ length page
  part_inside =
      let within = subst (λ (k : ℕ). index % k * 1024 + 1024 ≤ page_bytes db.size) (sym per_is) (starts_on db.size index) in
      omega (arith, within, ap (λ (l : List ℕ). length l) page_is, long_page db ok (index / per))

  part_within : part_start + part_size ≤ length page
  part_within = omega (arith, part_inside)

  pub part_long : length (take part_size (drop part_start page)) ≡ 1024
  part_long = length_part part_start part_size page part_within ∙ omega arith

  pub part_reads_so : (i : ℕ) → i < 1024 → get_or (take part_size (drop part_start page)) i 0 ≡ get_or (bytes_of_page db.size (pairs_at db (index / in_page db.size))) (index % in_page db.size * 1024 + i) 0
  part_reads_so i below =
      part_reads part_start part_size page part_within i (omega (arith, below, part_long))
      ∙ ap (λ (l : List ℕ). get_or l (part_start + i) 0) page_is
      ∙ ap (λ (k : ℕ). get_or (bytes_of_page db.size (pairs_at db (index / k))) (index % k * 1024 + i) 0) per_is

-- bytes equal to those of a database's files
pub are_files : (db : Database) → IsDatabase db → (count : ℕ) → IsPageCount db count → (pages directory own : List ℕ) → AreDirectoryBytes db.splits own
    → pages ≡ first_pages db count → directory ≡ own → AreFilesFor db pages directory
are_files db ok count counted pages directory own spelled pages_are directory_is =
    let in_directory : AreDirectoryBytes db.splits directory = subst (λ (l : List ℕ). AreDirectoryBytes db.splits l) (sym directory_is) spelled in
    let in_pages : ArePagBytes db pages = record { count = count; counted = counted; is = pages_are } in
    record {
      written = record { directory = in_directory; pages = in_pages };
      spelled = SpellsDatabase-written db ok directory pages in_directory in_pages;
    }

-- a file whose length is unchanged
pub resized_own : (n : ℕ) (old : List ℕ) → n ≡ length old → resized n old ≡ old
resized_own n old is = ext_get_or 0 (resized n old) old (length-resized n old ∙ is) (λ i below. read_resized n old i (omega (arith, below, length-resized n old)))

-- a plan without changes
pub changes_nothing : (both : List ℕ × List ℕ) → length both.0 < 2 ^ 32 → length both.1 < 2 ^ 32
    → ChangesNothing (plan_bytes (length both.0) (length both.1) (length both.0) (length both.1) 0 []) both.0 both.1
changes_nothing both pages directory =
    let none : AreChanges (length both.0) (length both.1) both 0 [] = record { fits = λ k lt. absurd (omega (arith, lt)); ends = refl } in
    record {
      whole = is_planned (length both.0) (length both.1) both 0 [] pages directory (omega arith) pages directory none;
      knows = knows_planned (length both.0) (length both.1) both 0 [] pages directory (omega arith) pages directory none;
      same_pages = renewed_planned (length both.0) (length both.1) both 0 [] pages directory (omega arith) pages directory Pages (length both.0) both.0 refl ∙ resized_own (length both.0) both.0 refl;
      same_directory = renewed_planned (length both.0) (length both.1) both 0 [] pages directory (omega arith) pages directory Directory (length both.1) both.1 refl ∙ resized_own (length both.1) both.1 refl;
    }
