-- The whole of a database after a change of the one page that was read.
use Rattle.std.proofs.Common.{◌≡◌, ◌≢◌, ℕ, ◌+◌, ◌*◌, ◌-◌, ◌/◌, ◌<◌, ◌≤◌, List, [], ◌∷◌, length, get_or, replicate, Bool, true, false, Option, Some, None, refl, sym, ap, ◌∙◌, subst, arith, eqb, Contains, nat_lt}
use Rattle.std.proofs.lemmas.List.{ext_get_or, get_or_past, get_or-replicate, length-replicate}
use Rattle.std.proofs.lemmas.Bool.{eqb-true, eq-eqb, ltb-true, ltb-false}
use Rattle.sdbm_addr.specs.declared.PageSize.{PageSize}
use Rattle.sdbm_addr.specs.declared.PageSize.TheVariants.{Small, Wide}
use Rattle.sdbm_addr.specs.Directory.{Splits}
use Rattle.sdbm_addr.specs.Layout.{Spells, bytes_of_page, free_bytes}
use Rattle.sdbm_addr.specs.Pairs.{Pair, page_bytes, IsPage}
use Rattle.sdbm_addr.specs.Database.{Database, IsDatabase, pairs_at}
use Rattle.sdbm_addr.specs.Files.{page_at, SpellsDatabase, ArePagBytes}
use Rattle.sdbm_dir.proofs.FileLemmas.{SpellsDirectory-unique}
use Rattle.sdbm_page.proofs.Spelled.{spelled_once}
use Rattle.sdbm_split.specs.Planned.{PageChange}
use Rattle.sdbm_files.specs.Installed.{marked}
use Rattle.sdbm_files.proofs.PagesInBytes.{page_reads}
use Rattle.sdbm_files.proofs.SomePages.{zeros_spell}
use Rattle.sdbm_files.proofs.WriteLemmas.{empty_page, length-first_pages, page_of_first}
use Rattle.sdbm_saves.specs.Saves.{AreFilesFor}
use Rattle.sdbm_saves.specs.Parts.{ReadsPage, IsReadSo, IsPartOf}
use Rattle.sdbm_saves.specs.declared.part.Part.{Part}
use Rattle.sdbm_saves.proofs.Counts.{past_end}
use Rattle.store_moves.specs.Leads.{MayChange, changed_by}
use Rattle.store_moves.proofs.Parts.{IsAlikeAt, IsChangedAlike, pairs_alike, pairs_beside}
use Rattle.store_parts.specs.Parts.{AreWhole, EndsWithPairs, IsOpenedPart}

-- ---- pages and numbers

whole_pages : (size : PageSize) (long count n : ℕ) → long ≡ count * page_bytes size → long ≤ n * page_bytes size → count ≤ n
whole_pages Small long count n is le = omega (arith, is, le)
whole_pages Wide long count n is le = omega (arith, is, le)

counted : (size : PageSize) (long count : ℕ) → long ≡ count * page_bytes size → long / page_bytes size ≡ count
counted Small long count is = omega (arith, is)
counted Wide long count is = omega (arith, is)

some_page : (size : PageSize) (long count : ℕ) → long ≡ count * page_bytes size → 0 < long → 0 < count
some_page Small long count is lt = omega (arith, is, lt)
some_page Wide long count is lt = omega (arith, is, lt)

-- pairs that cannot be non-empty are empty
bare : (pairs : List Pair) → (pairs ≢ [] → ⊥) → pairs ≡ []
bare [] not = refl
bare (e ∷ es) not = absurd (not (λ (is : e ∷ es ≡ []). cc))

-- two numbers are equal or different
data Same (n m : ℕ) : Type 0 where
  is_same : n ≡ m → Same n m
  is_other : n ≢ m → Same n m

same_or : (n m : ℕ) → Same n m
same_or n m = at (eqb n m) refl
  where
    at : (b : Bool) → eqb n m ≡ b → Same n m
    at true is = is_same (eqb-true n m is)
    at false is = is_other (λ (e : n ≡ m). let t : true ≡ false = sym (eq-eqb n m e) ∙ is in cc)

-- ---- what the whole file spells

-- if a page reads as the bytes that spell some pairs, it has those pairs
pub read_is : (db : Database) (dir pag : List ℕ) → SpellsDatabase db dir pag → (n : ℕ) (page : List ℕ) (pairs : List Pair) → Spells db.size page pairs → ReadsPage db.size pag n page → pairs_at db n ≡ pairs
read_is db dir pag s n page pairs spells reads = at (nat_lt n s.count) refl
  where
    at : (b : Bool) → nat_lt n s.count ≡ b → pairs_at db n ≡ pairs
    at true is =
        let there : Spells db.size (page_at db.size pag n) (pairs_at db n) = s.pages.pages n (ltb-true n s.count is) in
        let same : page_at db.size pag n ≡ page =
        ext_get_or 0 (page_at db.size pag n) page (there.long ∙ sym spells.long) (λ i below. page_reads db.size pag n i (omega (arith, below, there.long)) ∙ reads i (omega (arith, below, there.long))) in
        spelled_once db.size page (pairs_at db n) pairs (subst (λ (l : List ℕ). Spells db.size l (pairs_at db n)) same there) spells
    at false is =
        let past : s.count ≤ n = ltb-false n s.count is in
        let zeros : bytes_of_page db.size [] ≡ page =
        ext_get_or 0 (bytes_of_page db.size []) page ((zeros_spell db.size).long ∙ sym spells.long)
        (λ i below.
        let inside : i < page_bytes db.size = omega (arith, below, (zeros_spell db.size).long) in
        ap (λ (l : List ℕ). get_or l i 0) (empty_page db.size) ∙ get_or-replicate (page_bytes db.size) i 0 0 inside
        ∙ sym (get_or_past pag (n * page_bytes db.size + i) 0 (past_end db.size (length pag) s.count n i s.pages.long past)) ∙ reads i inside) in
        s.pages.past n past ∙ spelled_once db.size page [] pairs (subst (λ (l : List ℕ). Spells db.size l []) zeros (zeros_spell db.size)) spells

-- a page of zeros has no pairs
zeros_bare : (db : Database) (dir pag : List ℕ) → SpellsDatabase db dir pag → (n : ℕ) → ReadsPage db.size pag n [] → pairs_at db n ≡ []
zeros_bare db dir pag s n reads =
    read_is db dir pag s n (bytes_of_page db.size []) [] (zeros_spell db.size)
    (λ i below. reads i below ∙ sym (ap (λ (l : List ℕ). get_or l i 0) (empty_page db.size) ∙ get_or-replicate (page_bytes db.size) i 0 0 below))

module _ (db : Database) (ok : IsDatabase db) (pag : List ℕ) (written : ArePagBytes db pag) where
  long_pag : length pag ≡ written.count * page_bytes db.size
  long_pag = ap (λ (l : List ℕ). length l) written.is ∙ length-first_pages db ok written.count

  behind : (n : ℕ) → length pag ≤ n * page_bytes db.size → pairs_at db n ≡ []
  behind n le = written.counted.past n (whole_pages db.size (length pag) written.count n long_pag le)

  -- each page, including those past the end, reads as its own bytes
  pub own_reads : (n : ℕ) → ReadsPage db.size pag n (bytes_of_page db.size (pairs_at db n))
  own_reads n i below = at (nat_lt n written.count) refl
    where
      at : (b : Bool) → nat_lt n written.count ≡ b → get_or pag (n * page_bytes db.size + i) 0 ≡ get_or (bytes_of_page db.size (pairs_at db n)) i 0
      at true is =
          sym (page_reads db.size pag n i below) ∙ ap (λ (l : List ℕ). get_or (page_at db.size l n) i 0) written.is
          ∙ ap (λ (l : List ℕ). get_or l i 0) (page_of_first db ok n written.count (ltb-true n written.count is))
      at false is =
          let past : written.count ≤ n = ltb-false n written.count is in
          get_or_past pag (n * page_bytes db.size + i) 0 (past_end db.size (length pag) written.count n i long_pag past)
          ∙ sym (get_or-replicate (page_bytes db.size) i 0 0 below)
          ∙ ap (λ (l : List ℕ). get_or l i 0) (sym (ap (bytes_of_page db.size) (written.counted.past n past) ∙ empty_page db.size))

-- ---- a change of the page that was read

pub changed_kind : (number : ℕ) (db : Database) (change : Option PageChange) → (changed_by db number change).kind ≡ db.kind
changed_kind number db None = refl
changed_kind number db (Some change) = refl

pub changed_size : (number : ℕ) (db : Database) (change : Option PageChange) → (changed_by db number change).size ≡ db.size
changed_size number db None = refl
changed_size number db (Some change) = refl

changed_splits : (number : ℕ) (part db : Database) (change : Option PageChange) → part.splits ≡ db.splits → (changed_by part number change).splits ≡ (changed_by db number change).splits
changed_splits number part db None is = is
changed_splits number part db (Some change) is = ap (λ (d : Splits). marked d change.bits) is

changed_database : (number : ℕ) (db : Database) → IsDatabase db → (change : Option PageChange) → MayChange db number change → IsDatabase (changed_by db number change)
changed_database number db ok None may = ok
changed_database number db ok (Some change) may = may.database

-- the part that was opened, and its whole database
pub alike_of : (key : List ℕ) (part : Part) (numbers : List ℕ) (image db : Database) (pag : List ℕ) → IsOpenedPart key part db.kind db.size image → AreWhole part numbers db pag → IsAlikeAt part.number image db
alike_of key part numbers image db pag opened whole = record {
  kind = opened.known.kind_is;
  size = opened.known.size_is;
  splits = SpellsDirectory-unique part.directory.now image.splits db.splits opened.known.directory whole.spells.directory;
  here = sym (read_is db part.directory.now pag whole.spells part.number part.page.now (pairs_at image part.number) opened.known.page whole.read.reads.page);
}

module _ (key : List ℕ) (part : Part) (numbers : List ℕ) (image db after db' : Database) (pag : List ℕ) (opened : IsOpenedPart key part db.kind db.size image) (whole : AreWhole part numbers db pag) (files : AreFilesFor db pag part.directory.now)
    (changed : IsChangedAlike part.number image db after db') (named : Contains numbers part.number) (covers : (n : ℕ) → pairs_at after n ≢ [] → Contains numbers n) (ends : EndsWithPairs part after) where
  abbrev ok : IsDatabase db
  ok = whole.spells.database

  abbrev written : ArePagBytes db pag
  written = files.written.pages

  alike : IsAlikeAt part.number image db
  alike = alike_of key part numbers image db pag opened whole

  sizes : after.size ≡ db.size
  sizes = ap (λ (d : Database). d.size) changed.part_is ∙ changed_size part.number image changed.change ∙ opened.known.size_is

  size_kept : db'.size ≡ db.size
  size_kept = ap (λ (d : Database). d.size) changed.db_is ∙ changed_size part.number db changed.change

  after_is : (n : ℕ) → pairs_at image n ≡ pairs_at db n → pairs_at after n ≡ pairs_at db' n
  after_is n same = pairs_alike part.number image db after db' ok alike changed n same

  named_is : (n : ℕ) → Contains numbers n → pairs_at db' n ≡ pairs_at after n
  named_is n there = at (same_or n part.number)
    where
      at : Same n part.number → pairs_at db' n ≡ pairs_at after n
      at (is_same is) = sym (after_is n (ap (pairs_at image) is ∙ alike.here ∙ sym (ap (pairs_at db) is)))
      at (is_other apart) = sym (after_is n (opened.known.others n apart ∙ sym (zeros_bare db part.directory.now pag whole.spells n (whole.read.reads.others n there apart))))

  -- an empty page that was not read is unchanged
  kept : (n : ℕ) → (Contains numbers n → ⊥) → pairs_at db' n ≡ pairs_at db n
  kept n not = at (pairs_at db n) refl
    where
      elsewhere : n ≢ part.number
      elsewhere is = not (subst (λ (k : ℕ). Contains numbers k) (sym is) named)

      none : pairs_at after n ≡ []
      none = bare (pairs_at after n) (λ some. not (covers n some))

      at : (pairs : List Pair) → pairs_at db n ≡ pairs → pairs_at db' n ≡ pairs_at db n
      at [] is = sym (after_is n (opened.known.others n elsewhere ∙ sym is)) ∙ none ∙ sym is
      at (e ∷ es) is = pairs_beside part.number image db after db' ok alike changed n elsewhere e es is

  pages_of_part : part.len ≡ written.count * page_bytes db.size
  pages_of_part = sym whole.read.long ∙ long_pag db ok pag written

  last_has : 0 < part.len → pairs_at db' (written.count - 1) ≢ []
  last_has some = at (same_or (written.count - 1) part.number)
    where
      there : 0 < written.count
      there = some_page db.size part.len written.count pages_of_part some

      at : Same (written.count - 1) part.number → pairs_at db' (written.count - 1) ≢ []
      at (is_same is) none =
          ends (ap (λ (z : PageSize). part.len / page_bytes z) sizes ∙ counted db.size part.len written.count pages_of_part ∙ omega (arith, is, there))
          (sym (named_is part.number named) ∙ sym (ap (pairs_at db') is) ∙ none)
      at (is_other apart) none = beside (pairs_at db (written.count - 1)) refl
        where
          beside : (pairs : List Pair) → pairs_at db (written.count - 1) ≡ pairs → ⊥
          beside [] is = written.counted.last there is
          beside (e ∷ es) is =
              let stays = pairs_beside part.number image db after db' ok alike changed (written.count - 1) apart e es is in
              written.counted.last there (sym stays ∙ none)

  pub part_of : IsPartOf part numbers after db' pag
  part_of = record {
    database = subst IsDatabase (sym changed.db_is) (changed_database part.number db ok changed.change changed.may);
    size = size_kept ∙ sym sizes;
    splits = ap (λ (d : Database). d.splits) changed.db_is ∙ sym (changed_splits part.number image db changed.change alike.splits) ∙ sym (ap (λ (d : Database). d.splits) changed.part_is);
    read = subst (λ (z : PageSize). IsReadSo part numbers z pag) (sym sizes) whole.read;
    named = named_is;
    rest = λ n not. subst (λ (z : PageSize). ReadsPage z pag n (bytes_of_page z (pairs_at db' n))) (sym sizes)
        (subst (λ (pairs : List Pair). ReadsPage db.size pag n (bytes_of_page db.size pairs)) (sym (kept n not)) (own_reads db ok pag written n));
    past = λ n not le. kept n not ∙ behind db ok pag written n (subst (λ (z : PageSize). length pag ≤ n * page_bytes z) sizes (subst (λ (l : ℕ). l ≤ n * page_bytes after.size) (sym whole.read.long) le));
    last = λ some. subst (λ (k : ℕ). pairs_at db' (k - 1) ≢ []) (sym (ap (λ (z : PageSize). part.len / page_bytes z) sizes ∙ counted db.size part.len written.count pages_of_part)) (last_has some);
  }
