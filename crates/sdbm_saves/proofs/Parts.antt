-- A file if only one page was read, and its pages after a draft.
use Rattle.std.proofs.Common.{◌≡◌, ◌≢◌, ◌⊎◌, ⊎_elim, ℕ, zero, suc, max, ◌+◌, ◌*◌, ◌-◌, ◌/◌, ◌%◌, ◌<◌, ◌≤◌, ◌^◌, inl, inr, List, [], ◌∷◌, ◌++◌, length, replicate, get_or, refl, sym, ◌∙◌, ap, subst, arith, length-append}
use Rattle.std.specs.Prelude.{Contains}
use Rattle.std.proofs.lemmas.List.{ext_get_or, get_or_past, get_or_default, get_or_append_left, get_or-append_right, get_or-replicate, length-replicate}
use Rattle.std.proofs.lemmas.Bool.{cases_lt, cases_eq}
use Rattle.std.proofs.lemmas.List.Elements.{Contains-get_or}
use Rattle.sdbm_addr.specs.declared.PageSize.{PageSize}
use Rattle.sdbm_addr.specs.declared.PageSize.TheVariants.{Small, Wide}
use Rattle.sdbm_addr.specs.Pairs.{page_bytes}
use Rattle.sdbm_addr.specs.Layout.{bytes_of_page}
use Rattle.sdbm_addr.specs.Database.{Database, IsDatabase, pairs_at}
use Rattle.sdbm_addr.specs.DirectoryFile.{AreDirectoryBytes}
use Rattle.sdbm_addr.specs.Files.{first_pages, IsPageCount}
use Rattle.sdbm_files.proofs.WriteLemmas.{length-first_pages, long_page}
use Rattle.sdbm_saves.specs.declared.part.Part.{Part}
use Rattle.sdbm_saves.specs.declared.marked.Marked.{Marked}
use Rattle.sdbm_saves.specs.declared.disk.DiskFile.{DiskFile}
use Rattle.sdbm_saves.specs.declared.disk.DiskFile.TheVariants.{Pages, Directory}
use Rattle.sdbm_saves.specs.Disk.{written, resized}
use Rattle.sdbm_saves.specs.Redo.{replayed}
use Rattle.sdbm_saves.specs.Drafts.{AreChanges, Puts, ReadsAt, HasPut}
use Rattle.sdbm_saves.specs.Saves.{AreFilesFor, HasLongFile}
use Rattle.sdbm_saves.specs.Parts.{ReadsPage, SamePage, ReadsSo, ReadPages, IsPartOf, IsMarkedIn, HasPages, HasPutPages}
use Rattle.sdbm_saves.proofs.Lists.{length-written, written_before, written_inside, written_after, length-resized, read_resized}
use Rattle.sdbm_saves.proofs.Puts.{file_put}
use Rattle.sdbm_saves.proofs.PageDrafts.{page_inside, next_page, page_reads, are_files}

-- a number is in the list, or it is not
pub one_or_none : (numbers : List ℕ) (n : ℕ) → Contains numbers n ⊎ (Contains numbers n → ⊥)
one_or_none [] n = inr (λ one. absurd (omega (arith, one.1)))
one_or_none (m ∷ numbers) n = ⊎_elim
    (λ is. inl (0, omega arith, is))
    (λ other. ⊎_elim
    (λ one. inl (suc one.0, omega (arith, one.1), one.2))
    (λ none. inr (λ one. step m numbers n other none one.0 one.1 one.2))
    (one_or_none numbers n))
    (cases_eq m n)
  where
    step : (m : ℕ) (numbers : List ℕ) (n : ℕ) → (m ≢ n) → (Contains numbers n → ⊥) → (k : ℕ) → k < length (m ∷ numbers) → get_or (m ∷ numbers) k n ≡ n → ⊥
    step m numbers n other none zero lt is = other is
    step m numbers n other none (suc k) lt is = none (k, omega (arith, lt), is)

module _ (size : PageSize) (n k : ℕ) (page old : List ℕ) (long : length page ≡ page_bytes size) (inside : n * page_bytes size + page_bytes size ≤ length old) where
  room : n * page_bytes size + length page ≤ length old
  room = omega (arith, long, inside)

  -- the page that was written has its bytes
  pub page_written : ReadsPage size (written (n * page_bytes size) page old) n page
  page_written i lt =
      let at = n * page_bytes size in
      let on : at + i - at ≡ i = omega arith in
      written_inside at page old (at + i) (omega (arith, room)) (omega arith) (omega (arith, lt, long)) ∙ ap (λ j. get_or page j 0) on

  -- every different page is unchanged
  pub page_kept : k ≢ n → SamePage size k old (written (n * page_bytes size) page old)
  page_kept other i lt =
      let at = n * page_bytes size in
      let here = k * page_bytes size + i in
      ⊎_elim
      (λ below. written_before at page old here (omega (arith, room)) (omega (arith, lt, page_inside size k n below)))
      (λ le. let above : n < k = omega (arith, le, other) in
      written_after at page old here (omega (arith, room)) (omega (arith, long, page_inside size n k above)))
      (cases_lt k n)

-- the bytes that were read of a file
module _ (old : Part) (numbers : List ℕ) (size : PageSize) (long : length old.page.now ≡ page_bytes size) where
  -- a file that reads the same: the page, and zeros before it
  abbrev pub sample : List ℕ
  sample = replicate (old.number * page_bytes size) 0 ++ old.page.now

  front : length {A = ℕ} (replicate (old.number * page_bytes size) 0) ≡ old.number * page_bytes size
  front = length-replicate {A = ℕ} (old.number * page_bytes size) 0

  sample_own : ReadsPage size sample old.number old.page.now
  sample_own i lt =
      let at = old.number * page_bytes size in
      let on : at + i - at ≡ i = omega arith in
      get_or-append_right (replicate at 0) old.page.now at (at + i) 0 front (omega arith) ∙ ap (λ k. get_or old.page.now k 0) on

  sample_other : (n : ℕ) → n ≢ old.number → ReadsPage size sample n []
  sample_other n differs i lt =
      let at = old.number * page_bytes size in
      ⊎_elim
      (λ below. let inside : n * page_bytes size + i < at = omega (arith, lt, page_inside size n old.number below) in
      get_or_append_left (replicate at 0) old.page.now 0 (n * page_bytes size + i) (omega (arith, inside, front))
      ∙ get_or-replicate at (n * page_bytes size + i) 0 0 inside ∙ sym (get_or_past [] i 0 (omega arith)))
      (λ le. let above : old.number < n = omega (arith, le, differs) in
      get_or_past sample (n * page_bytes size + i) 0 (omega (arith, length-append (replicate at 0) old.page.now, front, long, page_inside size old.number n above))
      ∙ sym (get_or_past [] i 0 (omega arith)))
      (cases_lt n old.number)

  pub sample_reads : ReadsSo old numbers size sample
  sample_reads = record { page = sample_own; others = λ n one differs. sample_other n differs }

-- the page that was read, and zeros on the remaining pages
pub were_read : (old : Part) (numbers : List ℕ) (size : PageSize) (z : ℕ) (pages pag : List ℕ) → z ≡ page_bytes size → ReadsSo old numbers size pag
    → ((j i : ℕ) → j < length numbers → i < z → get_or numbers j 0 ≡ old.number → get_or pages (j * z + i) 0 ≡ get_or old.page.now i 0)
    → ((j i : ℕ) → j < length numbers → i < z → get_or numbers j 0 ≢ old.number → get_or pages (j * z + i) 0 ≡ 0) → ReadPages size numbers pages pag
were_read old numbers size z pages pag z_is so own others j i below lt = sym (ap (λ k. get_or pages (j * k + i) 0) z_is) ∙ ⊎_elim
    (λ is. own j i below (omega (arith, lt, z_is)) is ∙ sym (so.page i lt) ∙ ap (λ k. get_or pag (k * page_bytes size + i) 0) (sym is))
    (λ differs. others j i below (omega (arith, lt, z_is)) differs ∙ sym (so.others (get_or numbers j 0) (Contains-get_or numbers j 0 below) differs i lt ∙ get_or_past [] i 0 (omega arith)))
    (cases_eq (get_or numbers j 0) old.number)

-- A file of `whole` bytes has the first n of these pages. Each different page is as in the old file, or as in the database.
pub record IsRenewing (db : Database) (numbers : List ℕ) (index whole : ℕ) (old new : List ℕ) : Type 0 where
  pub long : length new ≡ whole
  pub each : (n : ℕ) → (n + 1) * page_bytes db.size ≤ whole → SamePage db.size n old new ⊎ (Contains numbers n × ReadsPage db.size new n (bytes_of_page db.size (pairs_at db n)))
  pub done : (j : ℕ) → j < index → (get_or numbers j 0 + 1) * page_bytes db.size ≤ whole → ReadsPage db.size new (get_or numbers j 0) (bytes_of_page db.size (pairs_at db (get_or numbers j 0)))

pub renewing_none : (db : Database) (numbers : List ℕ) (whole : ℕ) (old : List ℕ) → IsRenewing db numbers 0 whole old (resized whole old)
renewing_none db numbers whole old = record {
  long = length-resized whole old;
  each = λ n fits. inl (λ i lt. read_resized whole old (n * page_bytes db.size + i) (omega (arith, lt, fits, next_page db.size n)));
  done = λ j lt. absurd (omega (arith, lt));
}

pub renewed_all : (db : Database) (numbers : List ℕ) (index whole : ℕ) (old new : List ℕ) → length numbers ≤ index → IsRenewing db numbers index whole old new → HasPages db numbers whole old new
renewed_all db numbers index whole old new all renewing = record {
  long = renewing.long;
  named = λ n one fits.
      let is : get_or numbers one.0 0 ≡ n = get_or_default numbers one.0 0 n one.1 ∙ one.2 in
      subst (λ k. ReadsPage db.size new k (bytes_of_page db.size (pairs_at db k))) is
      (renewing.done one.0 (omega (arith, one.1, all)) (subst (λ k. (k + 1) * page_bytes db.size ≤ whole) (sym is) fits));
  others = λ n none fits. ⊎_elim (λ same. same) (λ both. absurd (none both.0)) (renewing.each n fits);
}

-- one more page
module _ (db : Database) (numbers : List ℕ) (index whole : ℕ) (old before : List ℕ) (n : ℕ) (page : List ℕ) (one : Contains numbers n) (is : get_or numbers index 0 ≡ n)
    (page_is : page ≡ bytes_of_page db.size (pairs_at db n)) (renewing : IsRenewing db numbers index whole old before) where
  stays : ((n + 1) * page_bytes db.size ≤ whole → ReadsPage db.size before n page) → IsRenewing db numbers (index + 1) whole old before
  stays reads = record {
    long = renewing.long;
    each = renewing.each;
    done = λ j lt fits. ⊎_elim
        (λ below. renewing.done j below fits)
        (λ le. let last : index ≡ j = omega (arith, lt, le) in
        let at_j : n ≡ get_or numbers j 0 = sym is ∙ ap (λ k. get_or numbers k 0) last in
        subst (λ k. ReadsPage db.size before k (bytes_of_page db.size (pairs_at db k))) at_j
        (subst (λ (l : List ℕ). ReadsPage db.size before n l) page_is (reads (subst (λ k. (k + 1) * page_bytes db.size ≤ whole) (sym at_j) fits))))
        (cases_lt j index);
  }

  module _ (long : length page ≡ page_bytes db.size) (fits : (n + 1) * page_bytes db.size ≤ whole) where
    inside : n * page_bytes db.size + page_bytes db.size ≤ length before
    inside = omega (arith, fits, renewing.long, next_page db.size n)

    abbrev after : List ℕ
    after = written (n * page_bytes db.size) page before

    reads_own : (k : ℕ) → k ≡ n → ReadsPage db.size after k (bytes_of_page db.size (pairs_at db k))
    reads_own k on = subst (λ m. ReadsPage db.size after m (bytes_of_page db.size (pairs_at db m))) (sym on)
        (subst (λ (l : List ℕ). ReadsPage db.size after n l) page_is (page_written db.size n n page before long inside))

    kept : (k : ℕ) → k ≢ n → (bytes : List ℕ) → ReadsPage db.size before k bytes → ReadsPage db.size after k bytes
    kept k other bytes reads i lt = page_kept db.size n k page before long inside other i lt ∙ reads i lt

    is_written : IsRenewing db numbers (index + 1) whole old after
    is_written = record {
      long = length-written (n * page_bytes db.size) page before (omega (arith, long, inside)) ∙ renewing.long;
      each = λ k room. ⊎_elim
          (λ on. inr (subst (λ m. Contains numbers m) (sym on) one, reads_own k on))
          (λ other. ⊎_elim
          (λ same. inl (λ i lt. page_kept db.size n k page before long inside other i lt ∙ same i lt))
          (λ both. inr (both.0, kept k other (bytes_of_page db.size (pairs_at db k)) both.1))
          (renewing.each k room))
          (cases_eq k n);
      done = λ j lt room. ⊎_elim
          (λ on. reads_own (get_or numbers j 0) on)
          (λ other. ⊎_elim
          (λ below. kept (get_or numbers j 0) other _ (renewing.done j below room))
          (λ le. let last : j ≡ index = omega (arith, lt, le) in absurd (other (ap (λ k. get_or numbers k 0) last ∙ is)))
          (cases_lt j index))
          (cases_eq (get_or numbers j 0) n);
    }

  -- a page that does not fit in the file
  pub renewing_past : whole < (n + 1) * page_bytes db.size → IsRenewing db numbers (index + 1) whole old before
  renewing_past out = stays (λ fits. absurd (omega (arith, fits, out)))

  pub renewing_put : (was : List ℕ) → ((i : ℕ) → i < page_bytes db.size → get_or was i 0 ≡ get_or old (n * page_bytes db.size + i) 0) → length page ≡ page_bytes db.size → (a : ℕ) (new : List ℕ) → a ≡ n * page_bytes db.size
      → Puts a was page before new → (n + 1) * page_bytes db.size ≤ whole → IsRenewing db numbers (index + 1) whole old new
  renewing_put was reads long a new a_is puts fits =
      let room : a + length page ≤ length before = omega (arith, a_is, inside long fits) in
      let each : (i : ℕ) → i < length page → (get_or before (a + i) 0 ≡ get_or was i 0) ⊎ (get_or before (a + i) 0 ≡ get_or page i 0) = λ i lt.
      let within : i < page_bytes db.size = omega (arith, lt, long) in
      ⊎_elim
      (λ same. inl (ap (λ k. get_or before (k + i) 0) a_is ∙ same i within ∙ sym (reads i within)))
      (λ both. inr (ap (λ k. get_or before (k + i) 0) a_is ∙ both.1 i within ∙ ap (λ (l : List ℕ). get_or l i 0) (sym page_is)))
      (renewing.each n fits) in
      subst (λ (l : List ℕ). IsRenewing db numbers (index + 1) whole old l) (sym (puts room each ∙ ap (λ k. written k page before) a_is)) (is_written long fits)

-- the position of a byte in the pages
in_page : (size : PageSize) (count i : ℕ) → i < count * page_bytes size → (i / page_bytes size < count) × ((i / page_bytes size * page_bytes size + i % page_bytes size ≡ i) × (i % page_bytes size < page_bytes size))
in_page Small count i below = (omega (arith, below), (omega arith, omega arith))
in_page Wide count i below = (omega (arith, below), (omega arith, omega arith))

pub whole_pages : (size : PageSize) (n : ℕ) → n % page_bytes size ≡ 0 → n ≡ n / page_bytes size * page_bytes size
whole_pages Small n whole = omega (arith, whole)
whole_pages Wide n whole = omega (arith, whole)

fewer_pages : (size : PageSize) (n m : ℕ) → n * page_bytes size ≤ m * page_bytes size → n ≤ m
fewer_pages Small n m le = omega (arith, le)
fewer_pages Wide n m le = omega (arith, le)

more_bytes : (size : PageSize) (n m : ℕ) → n ≤ m → n * page_bytes size ≤ m * page_bytes size
more_bytes Small n m le = omega (arith, le)
more_bytes Wide n m le = omega (arith, le)

some_bytes : (size : PageSize) (n : ℕ) → 0 < n → 0 < n * page_bytes size
some_bytes Small n some = omega (arith, some)
some_bytes Wide n some = omega (arith, some)

pages_of : (size : PageSize) (n m : ℕ) → m ≡ n * page_bytes size → m / page_bytes size ≡ n
pages_of Small n m is = omega (arith, is)
pages_of Wide n m is = omega (arith, is)

pub longer_whole : (size : PageSize) (len count whole : ℕ) → len % page_bytes size ≡ 0 → whole ≡ max len (count * page_bytes size) → whole % page_bytes size ≡ 0
longer_whole Small len count whole is whole_is = omega (arith, is, whole_is)
longer_whole Wide len count whole is whole_is = omega (arith, is, whole_is)

-- a file with the pages of a database is the file that is written for it
pub all_made : (db : Database) → IsDatabase db → (whole count : ℕ) (new : List ℕ) → length new ≡ whole → whole ≡ count * page_bytes db.size
    → ((n : ℕ) → (n + 1) * page_bytes db.size ≤ whole → ReadsPage db.size new n (bytes_of_page db.size (pairs_at db n))) → new ≡ first_pages db count
all_made db ok whole count new long whole_is own = ext_get_or 0 new (first_pages db count) (long ∙ whole_is ∙ sym (length-first_pages db ok count)) each
  where
    each : (i : ℕ) → i < length new → get_or new i 0 ≡ get_or (first_pages db count) i 0
    each i below =
        let n = i / page_bytes db.size in
        let r = i % page_bytes db.size in
        let place = in_page db.size count i (omega (arith, below, long, whole_is)) in
        let fits : (n + 1) * page_bytes db.size ≤ whole = omega (arith, whole_is, page_inside db.size n count place.0, next_page db.size n) in
        ap (λ k. get_or new k 0) (sym place.1.0)
        ∙ own n fits r place.1.1
        ∙ page_reads db ok n count r place.0 (omega (arith, place.1.1, long_page db ok n))
        ∙ ap (λ k. get_or (first_pages db count) k 0) place.1.0

-- a database that is known in part
module _ (old : Part) (numbers : List ℕ) (known db : Database) (pag : List ℕ) (part : IsPartOf old numbers known db pag) where
  -- the file with the known pages is the database's file
  pub pages_made : (whole count : ℕ) (new : List ℕ) → whole ≡ count * page_bytes known.size → HasPages known numbers whole pag new → new ≡ first_pages db count
  pages_made whole count new whole_is made =
      all_made db part.database whole count new made.long (whole_is ∙ ap (λ size. count * page_bytes size) (sym part.size))
      (subst (λ size. (n : ℕ) → (n + 1) * page_bytes size ≤ whole → ReadsPage size new n (bytes_of_page db.size (pairs_at db n))) (sym part.size) own)
    where
      own : (n : ℕ) → (n + 1) * page_bytes known.size ≤ whole → ReadsPage known.size new n (bytes_of_page db.size (pairs_at db n))
      own n fits = ⊎_elim
          (λ one. subst (λ (l : List ℕ). ReadsPage known.size new n l)
          (ap (λ pairs. bytes_of_page known.size pairs) (sym (part.named n one)) ∙ ap (λ size. bytes_of_page size (pairs_at db n)) (sym part.size))
          (made.named n one fits))
          (λ none. λ i lt. made.others n none fits i lt ∙ part.rest n none i lt ∙ ap (λ size. get_or (bytes_of_page size (pairs_at db n)) i 0) (sym part.size))
          (one_or_none numbers n)

  -- the number of its pages is the number that is written
  pub pages_counted : (n whole count : ℕ) → ((k : ℕ) → pairs_at known k ≢ [] → Contains numbers k) → IsPageCount known n → whole ≡ max old.len (n * page_bytes known.size) → whole ≡ count * page_bytes known.size → IsPageCount db count
  pages_counted n whole count covers counted whole_is count_is = record {
    past = λ k le. ⊎_elim
        (λ one. part.named k one ∙ counted.past k (omega (arith, le, fewer_pages known.size n count (omega (arith, whole_is, count_is)))))
        (λ none. part.past k none (omega (arith, whole_is, count_is, more_bytes known.size count k le)))
        (one_or_none numbers k);
    last = λ some. ⊎_elim
        (λ shorter. let same : count ≡ n = sym (pages_of known.size count whole count_is) ∙ pages_of known.size n whole (omega (arith, whole_is, shorter)) in
        let full : pairs_at known (count - 1) ≢ [] = subst (λ m. pairs_at known (m - 1) ≢ []) (sym same) (counted.last (omega (arith, same, some))) in
        λ none. full (sym (part.named (count - 1) (covers (count - 1) full)) ∙ none))
        (λ le. let long : old.len ≡ count * page_bytes known.size = omega (arith, whole_is, count_is, le) in
        subst (λ m. pairs_at db (m - 1) ≢ []) (pages_of known.size count old.len long)
        (part.last (omega (arith, long, some_bytes known.size count some))))
        (cases_lt old.len (n * page_bytes known.size));
  }

  -- so both files are the database's files
  pub part_files : (n whole : ℕ) → ((k : ℕ) → pairs_at known k ≢ [] → Contains numbers k) → IsPageCount known n → old.len % page_bytes known.size ≡ 0 → whole ≡ max old.len (n * page_bytes known.size)
      → (own : List ℕ) → AreDirectoryBytes known.splits own → (new : List ℕ) → HasPages known numbers whole pag new → (pages directory : List ℕ) → pages ≡ new → directory ≡ own → AreFilesFor db pages directory
  part_files n whole covers counted old_whole whole_is own spelled new made pages directory pages_are directory_is =
      let count = whole / page_bytes known.size in
      let count_is : whole ≡ count * page_bytes known.size = whole_pages known.size whole (longer_whole known.size old.len n whole old_whole whole_is) in
      are_files db part.database count (pages_counted n whole count covers counted whole_is count_is) pages directory own
      (subst (λ splits. AreDirectoryBytes splits own) (sym part.splits) spelled)
      (pages_are ∙ pages_made whole count new count_is made) directory_is

  -- if one of them is too long, so is a file of the database
  pub part_long : (n whole : ℕ) → ((k : ℕ) → pairs_at known k ≢ [] → Contains numbers k) → IsPageCount known n → old.len % page_bytes known.size ≡ 0 → whole ≡ max old.len (n * page_bytes known.size)
      → (own : List ℕ) → AreDirectoryBytes known.splits own → (2 ^ 32 ≤ whole) ⊎ (2 ^ 32 ≤ length own) → HasLongFile db
  part_long n whole covers counted old_whole whole_is own spelled long =
      let count = whole / page_bytes known.size in
      let count_is : whole ≡ count * page_bytes known.size = whole_pages known.size whole (longer_whole known.size old.len n whole old_whole whole_is) in
      let pages_are : length (first_pages db count) ≡ whole = length-first_pages db part.database count ∙ ap (λ size. count * page_bytes size) part.size ∙ sym count_is in
      record {
        pages = first_pages db count;
        directory = own;
        written = record {
          directory = subst (λ splits. AreDirectoryBytes splits own) (sym part.splits) spelled;
          pages = record { count = count; counted = pages_counted n whole count covers counted whole_is count_is; is = refl };
        };
        long = ⊎_elim (λ le. inl (omega (arith, le, pages_are))) (λ le. inr le) long;
      }

-- a file that is read on its marked pages becomes the file of the database
pub marked_made : (old : Marked) (db : Database) (pag : List ℕ) → IsDatabase db → IsMarkedIn old db pag → (whole count : ℕ) (new : List ℕ) → whole ≡ count * page_bytes db.size → HasPages db old.numbers.now whole pag new
    → new ≡ first_pages db count
marked_made old db pag ok marked whole count new whole_is made = all_made db ok whole count new made.long whole_is (λ n fits. ⊎_elim
    (λ one. made.named n one fits)
    (λ none. λ i lt. made.others n none fits i lt ∙ marked.rest n none i lt)
    (one_or_none old.numbers.now n))

-- the changes of the first pages of a list
pub record IsPutting (db : Database) (numbers : List ℕ) (index pages directory : ℕ) (both : List ℕ × List ℕ) (few : ℕ) (before : List ℕ) (many : ℕ) (after : List ℕ) : Type 0 where
  pub changes : AreChanges pages directory both many after
  pub file : IsRenewing db numbers index pages both.0 (replayed Pages many after (resized pages both.0))
  pub others : (g : DiskFile) → g ≢ Pages → (x : List ℕ) → replayed g many after x ≡ replayed g few before x

pub putting_none : (db : Database) (numbers : List ℕ) (pages directory : ℕ) (both : List ℕ × List ℕ) (few : ℕ) (before : List ℕ) → ((x : List ℕ) → replayed Pages few before x ≡ x)
    → AreChanges pages directory both few before → IsPutting db numbers 0 pages directory both few before few before
putting_none db numbers pages directory both few before untouched are = record {
  changes = are;
  file = subst (λ (l : List ℕ). IsRenewing db numbers 0 pages both.0 l) (sym (untouched (resized pages both.0))) (renewing_none db numbers pages both.0);
  others = λ g other x. refl;
}

pub putting_all : (db : Database) (numbers : List ℕ) (index pages directory : ℕ) (both : List ℕ × List ℕ) (few : ℕ) (before : List ℕ) (many : ℕ) (after : List ℕ) → length numbers ≤ index
    → IsPutting db numbers index pages directory both few before many after → HasPutPages db numbers pages directory both few before many after
putting_all db numbers index pages directory both few before many further all putting = record {
  changes = putting.changes;
  file = renewed_all db numbers index pages both.0 _ all putting.file;
  others = putting.others;
}

-- one more page of the list
module _ (db : Database) (ok : IsDatabase db) (numbers : List ℕ) (index pages directory : ℕ) (both : List ℕ × List ℕ) (few : ℕ) (before : List ℕ) (many : ℕ) (after : List ℕ) (n : ℕ) (is : get_or numbers index 0 ≡ n) (below : index < length numbers)
    (putting : IsPutting db numbers index pages directory both few before many after) where
  abbrev page : List ℕ
  page = bytes_of_page db.size (pairs_at db n)

  one : Contains numbers n
  one = subst (λ k. Contains numbers k) is (Contains-get_or numbers index 0 below)

  pub putting_past : pages < (n + 1) * page_bytes db.size → IsPutting db numbers (index + 1) pages directory both few before many after
  putting_past out = record {
    changes = putting.changes;
    file = renewing_past db numbers index pages both.0 _ n page one is refl putting.file out;
    others = putting.others;
  }

  pub putting_more : (was : List ℕ) (a more : ℕ) (further : List ℕ) → ((i : ℕ) → i < page_bytes db.size → get_or was i 0 ≡ get_or both.0 (n * page_bytes db.size + i) 0) → a ≡ n * page_bytes db.size → (n + 1) * page_bytes db.size ≤ pages
      → HasPut pages directory both Pages a was page many after more further → IsPutting db numbers (index + 1) pages directory both few before more further
  putting_more was a more further reads a_is fits put = record {
    changes = put.changes;
    file = renewing_put db numbers index pages both.0 _ n page one is refl putting.file was reads (long_page db ok n) a _ a_is (put.put (resized pages both.0)) fits;
    others = λ g other x. put.others g other x ∙ putting.others g other x;
  }

-- the changes that make both files those of the database, with these directory bytes
pub record IsDrafted (db : Database) (numbers own : List ℕ) (pages directory : ℕ) (both : List ℕ × List ℕ) (many : ℕ) (after : List ℕ) : Type 0 where
  pub changes : AreChanges pages directory both many after
  pub file : HasPages db numbers pages both.0 (replayed Pages many after (resized pages both.0))
  pub bits : replayed Directory many after (resized (length own) both.1) ≡ own

-- the directory is drafted first, then the pages
pub drafted : (db : Database) (numbers own : List ℕ) (pages directory : ℕ) (both : List ℕ × List ℕ) (none : List ℕ) (p d n : ℕ) (before : List ℕ) (q e m : ℕ) (after : List ℕ) → none ≡ [] → p ≡ pages → d ≡ directory → q ≡ p → e ≡ d
    → (ReadsAt 0 both.1 (length own) both.1 → AreChanges pages directory both 0 none → HasPut pages directory both Directory 0 both.1 own 0 none n before)
    → (((x : List ℕ) → replayed Pages n before x ≡ x) → AreChanges p d both n before → HasPutPages db numbers p d both n before m after)
    → IsDrafted db numbers own q e both m after
drafted db numbers own pages directory both none p d n before q e m after nothing p_is d_is q_is e_is first second =
    subst (λ k. IsDrafted db numbers own k e both m after) (sym (q_is ∙ p_is))
    (subst (λ k. IsDrafted db numbers own pages k both m after) (sym (e_is ∙ d_is)) is)
  where
    differ : Directory ≢ Pages
    differ is = cc

    back : Pages ≢ Directory
    back is = cc

    from_start : (i : ℕ) → i ≡ 0 + i
    from_start i = omega arith

    put : HasPut pages directory both Directory 0 both.1 own 0 none n before
    put = first (λ i lt. ap (λ k. get_or both.1 k 0) (from_start i)) (record { fits = λ k lt. absurd (omega (arith, lt)); ends = nothing })

    more : HasPutPages db numbers pages directory both n before m after
    more = subst (λ k. HasPutPages db numbers k directory both n before m after) p_is
        (subst (λ k. HasPutPages db numbers p k both n before m after) d_is
        (second (λ x. put.others Pages back x)
        (subst (λ k. AreChanges k d both n before) (sym p_is) (subst (λ k. AreChanges pages k both n before) (sym d_is) put.changes))))

    is : IsDrafted db numbers own pages directory both m after
    is = record {
      changes = more.changes;
      file = more.file;
      bits = more.others Directory differ (resized (length own) both.1) ∙ file_put pages directory both Directory both.1 own 0 none n before (λ x. refl) put;
    }
