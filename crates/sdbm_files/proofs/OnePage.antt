-- A database restricted to one page.
use Rattle.std.proofs.Common.{◌≡◌, ◌≢◌, ℕ, List, [], ◌∷◌, Bool, true, false, cond, Option, Some, None, unwrap_or, refl, sym, ap, ◌∙◌, subst, eqb}
use Rattle.std.specs.Cmp.{nat_cmp_total, eq_by_cmp_equiv}
use Rattle.std.proofs.lemmas.Bool.{false_from_ne_true}
use Rattle.std.specs.FinMap as map
use Rattle.std.specs.Ordering.{nat_cmp, eq_by_cmp}
use Rattle.sdbm_addr.specs.declared.KeyBytes.{KeyBytes}
use Rattle.sdbm_addr.specs.declared.PageSize.{PageSize}
use Rattle.sdbm_addr.specs.Hash.{hash_of}
use Rattle.sdbm_addr.specs.Directory.{Splits, page_of}
use Rattle.sdbm_addr.specs.DirectoryFile.{SpellsDirectory}
use Rattle.sdbm_addr.specs.Layout.{Spells}
use Rattle.sdbm_addr.specs.Pairs.{Pair, Content, value_of, IsPage}
use Rattle.sdbm_addr.specs.Database.{IsDatabase, pairs_at, put_page}
use Rattle.sdbm_addr.proofs.DatabaseLemmas.{put_there, get-put_page, same_number}
use Rattle.sdbm_dir.specs.declared.DirFault.{DirFault}
use Rattle.sdbm_dir.proofs.FileLemmas.{SpellsDirectory-unique, no_directory}
use Rattle.sdbm_page.specs.Faults.{IsPageFault}
use Rattle.sdbm_page.specs.declared.PageFault.{PageFault}
use Rattle.sdbm_page.specs.declared.PageFault.TheVariants as page_faults
use Rattle.sdbm_page.proofs.Spelled.{spelled_once, no_page as refused_page}
use Rattle.sdbm_files.specs.declared.opening.OpenFault.{OpenFault}
use Rattle.sdbm_files.specs.declared.opening.OpenFault.TheVariants as faults
use Rattle.sdbm_files.specs.Kept.{pages_of, database_of, AreSized, IsKept}
use Rattle.sdbm_files.specs.Opened.{IsRead, LeadTo, IsFaultOfDir, SpellsNoPart, pairs_of_page}
use Rattle.sdbm_files.proofs.KeptLemmas.{get-pages_of}
use Rattle.sdbm_files.proofs.InstallLemmas.{pages_of-put}

-- putting no page leaves an empty map
pub no_page : (entries : List (ℕ × Content)) (n : ℕ) (page : Option Content) → entries ≡ [] → page ≡ None → pages_of entries ≡ put_page (pages_of []) n (pairs_of_page page)
no_page entries n page none is =
    ap pages_of none ∙ pages_of-put [] [] n None [] (λ q. at None (eqb n q)) refl ∙ ap (λ (o : Option Content). put_page (pages_of []) n (pairs_of_page o)) (sym is)
  where
    at : (o : Option Content) (b : Bool) → o ≡ cond b o o
    at o true = refl
    at o false = refl

put_back : (pairs : List Pair) → unwrap_or (put_there pairs) [] ≡ pairs
put_back [] = refl
put_back (e ∷ es) = refl

put_some : (put pairs : List Pair) → put_there put ≡ Some pairs → (pairs ≢ []) × (put ≡ pairs)
put_some [] pairs is = absurd (cc)
put_some (e ∷ es) pairs is = let same : e ∷ es ≡ pairs = cc in (λ none. let nil : e ∷ es ≡ [] = same ∙ none in cc, same)

-- the page with a number was read, its keys lead to it, and it is the only page of the map
module _ (kind : KeyBytes) (size : PageSize) (dir bytes : List ℕ) (d : Splits) (number : ℕ) (page : Option Content) (entries : List (ℕ × Content)) (spelled : SpellsDirectory dir d) (read : IsRead size bytes page) (lead : LeadTo kind d number (pairs_of_page page)) (put : pages_of entries ≡ put_page (pages_of []) number (pairs_of_page page)) where
  abbrev got : Bool → Option (List Pair)
  got b = cond b (put_there (pairs_of_page page)) None

  get_one : (q : ℕ) → map.get (pages_of entries) q ≡ got (eq_by_cmp nat_cmp q number)
  get_one q =
      ap (λ m. map.get m q) put ∙ get-put_page (pages_of []) number (pairs_of_page page) q
      ∙ ap (λ o. cond (eq_by_cmp nat_cmp q number) (put_there (pairs_of_page page)) o) (get-pages_of [] q)

  pairs_by : (q : ℕ) (b : Bool) → eq_by_cmp nat_cmp q number ≡ b → pairs_at (database_of kind size d entries) q ≡ unwrap_or (got b) []
  pairs_by q b t = ap (λ o. unwrap_or o []) (get_one q ∙ ap got t)

  pub pairs_there : pairs_at (database_of kind size d entries) number ≡ pairs_of_page page
  pairs_there = pairs_by number true ((eq_by_cmp_equiv nat_cmp_total).refl number) ∙ put_back (pairs_of_page page)

  pub pairs_elsewhere : (n : ℕ) → n ≢ number → pairs_at (database_of kind size d entries) n ≡ []
  pairs_elsewhere n other = pairs_by n false (false_from_ne_true _ (λ t. other (same_number n number t)))

  pub Spells-there : Spells size bytes (pairs_at (database_of kind size d entries) number)
  Spells-there = subst (Spells size bytes) (sym pairs_there) read.spelled

  pub IsDatabase-one : IsDatabase (database_of kind size d entries)
  IsDatabase-one = record {
    directory = spelled.directory;
    pages = λ n pairs is. page_is n pairs is (eq_by_cmp nat_cmp n number) refl;
    placed = λ n key found. placed_is n key found (eq_by_cmp nat_cmp n number) refl;
  }
    where
      page_is : (n : ℕ) (pairs : List Pair) → map.get (pages_of entries) n ≡ Some pairs → (b : Bool) → eq_by_cmp nat_cmp n number ≡ b → (pairs ≢ []) × IsPage size pairs
      page_is n pairs is true t =
          let some = put_some (pairs_of_page page) pairs (sym (get_one n ∙ ap got t) ∙ is) in
          (some.0, subst (IsPage size) some.1 read.spelled.page)
      page_is n pairs is false t = absurd (let none : None ≡ Some pairs = sym (get_one n ∙ ap got t) ∙ is in cc)

      placed_is : (n : ℕ) (key : List ℕ) → value_of (pairs_at (database_of kind size d entries) n) key ≢ None → (b : Bool) → eq_by_cmp nat_cmp n number ≡ b → page_of d (hash_of kind key) ≡ n
      placed_is n key found true t =
          let here = pairs_by n true t ∙ put_back (pairs_of_page page) in
          lead key (λ none. found (ap (λ (ps : List Pair). value_of ps key) here ∙ none)) ∙ sym (same_number n number t)
      placed_is n key found false t = absurd (found (ap (λ (ps : List Pair). value_of ps key) (pairs_by n false t)))

  pub IsKept-one : AreSized size entries → IsKept kind size d entries
  IsKept-one sized = record { sizes = sized; database = IsDatabase-one }

-- ---- bytes that are not part of a database

pub none_of_dir : (kind : KeyBytes) (size : PageSize) (dir bytes : List ℕ) (n : ℕ) (fault : OpenFault) (of : DirFault) → fault ≡ faults.Dir of → IsFaultOfDir dir fault → SpellsNoPart kind size dir n bytes
none_of_dir kind size dir bytes n fault of is f = λ db kinds sizes ok directory page.
    let told = subst (IsFaultOfDir dir) is f in
    no_directory dir of told.0 told.1 db.splits directory

pub none_of_page : (kind : KeyBytes) (size : PageSize) (dir bytes : List ℕ) (n : ℕ) (fault : PageFault) → IsPageFault size bytes fault × (fault ≢ page_faults.NoMemory)
    → SpellsNoPart kind size dir n bytes
none_of_page kind size dir bytes n fault f = λ db kinds sizes ok directory page. refused_page size bytes fault f.0 f.1 (pairs_at db n) page

pub none_of_keys : (kind : KeyBytes) (size : PageSize) (dir bytes : List ℕ) (d : Splits) (n : ℕ) (page : Option Content) → SpellsDirectory dir d → IsRead size bytes page
    → (LeadTo kind d n (pairs_of_page page) → ⊥) → SpellsNoPart kind size dir n bytes
none_of_keys kind size dir bytes d n page spelled read misled = λ db kinds sizes ok directory there.
    let same = SpellsDirectory-unique dir d db.splits spelled directory in
    let pairs = spelled_once size bytes (pairs_at db n) (pairs_of_page page) there read.spelled in
    let lead : LeadTo db.kind db.splits n (pairs_of_page page) = subst (LeadTo db.kind db.splits n) pairs (ok.placed n) in
    misled (subst (λ (k : KeyBytes). LeadTo k d n (pairs_of_page page)) kinds (subst (λ (e : Splits). LeadTo db.kind e n (pairs_of_page page)) (sym same) lead))
