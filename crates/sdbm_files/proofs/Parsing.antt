-- Laws of parsing pages one after another.
use Rattle.std.proofs.Common.{◌≡◌, ◌≢◌, ℕ, ◌+◌, ◌*◌, ◌%◌, ◌<◌, ◌≤◌, List, [], ◌++◌, length, length-append, true, false, cond, Option, Some, None, is_some, unwrap_or, inl, inr, refl, sym, ap, ◌∙◌, subst, arith, eqb}
use Rattle.std.proofs.lemmas.Bool.{cases_eq, cond-true, cond-false, eq-eqb}
use Rattle.std.specs.FinMap as map
use Rattle.std.specs.Option.{IfSome}
use Rattle.sdbm_addr.specs.declared.PageSize.{PageSize}
use Rattle.sdbm_addr.specs.declared.PageSize.TheVariants.{Small, Wide}
use Rattle.sdbm_addr.specs.Layout.{Spells, bytes_of_page}
use Rattle.sdbm_addr.specs.Pairs.{Pair, Content, page_bytes}
use Rattle.sdbm_addr.specs.Files.{page_at}
use Rattle.sdbm_page.specs.Faults.{IsPageFault}
use Rattle.sdbm_page.specs.declared.PageFault.{PageFault}
use Rattle.sdbm_page.specs.declared.PageFault.TheVariants.{NoMemory}
use Rattle.sdbm_files.specs.Kept.{pages_of, pairs_under, AreSized}
use Rattle.sdbm_files.specs.Opened.{IsRead, IsBadPage, pairs_of_page}
use Rattle.sdbm_files.specs.Reading.{EndsAt, AreParsed, AreKnown, AreTaken, HasPage, HasRaw, known_under}
use Rattle.sdbm_files.proofs.Keeping.{other_number}
use Rattle.sdbm_files.proofs.KeptLemmas.{get-pages_of, absent_always}
use Rattle.sdbm_files.proofs.PutLemmas.{AreKept, AreKept-put_page, pairs-put_page}
use Rattle.sdbm_files.proofs.InstallLemmas.{pages_of-put, AreSized-put, some_put}
use Rattle.sdbm_files.proofs.PagesInBytes.{pages_whole, all_pages, one_page, more_pages, page_end, page_before, page_behind}

-- an invalid page stays the lowest one when bytes are appended
pub bad_before : (size : PageSize) (pag bytes : List ℕ) (n : ℕ) (fault : PageFault) → IsBadPage size pag n fault → IsBadPage size (pag ++ bytes) n fault
bad_before size pag bytes n fault bad = record {
  inside = omega (arith, bad.inside, length-append pag bytes);
  below = λ k h.
      let spelled = bad.below k h in
      (spelled.0, subst (λ (l : List ℕ). Spells size l spelled.0) (sym (page_before size pag bytes k (page_end size (length pag) k (n + 1) bad.inside (omega (arith, h))))) spelled.1);
  is = subst (λ (l : List ℕ). IsPageFault size l fault) (sym (page_before size pag bytes n bad.inside)) bad.is;
  told = bad.told;
}

-- ---- the parsed pages

-- appended bytes do not change the parsed pages
parsed_before : (size : PageSize) (entries : List (ℕ × Content)) (count : ℕ) (bad next : Option (ℕ × PageFault)) (pag bytes : List ℕ) → EndsAt size (pag ++ bytes) count next
    → AreParsed size entries count bad pag → AreParsed size entries count next (pag ++ bytes)
parsed_before size entries count bad next pag bytes ends are = record {
  sizes = are.sizes;
  pages = are.pages;
  inside = omega (arith, are.inside, length-append pag bytes);
  each = λ n h. subst (λ (l : List ℕ). Spells size l (pairs_under entries n)) (sym (same n h)) (are.each n h);
  past = are.past;
  ends = ends;
}
  where
    same : (n : ℕ) → n < count → page_at size (pag ++ bytes) n ≡ page_at size pag n
    same n h = page_before size pag bytes n (page_end size (length pag) n count are.inside h)

-- one more page
module _ (size : PageSize) (old new : List (ℕ × Content)) (count : ℕ) (pairs : List Pair) (bytes : List ℕ) (long : length bytes ≡ page_bytes size) (spelled : Spells size bytes pairs) (there : (q : ℕ) → pairs_under new q ≡ cond (eqb q count) pairs (pairs_under old q)) where
  here : pairs_under new count ≡ pairs
  here = there count ∙ cond-true _ _ _ (eq-eqb count count refl)

  elsewhere : (q : ℕ) → q ≢ count → pairs_under new q ≡ pairs_under old q
  elsewhere q other = there q ∙ cond-false _ _ _ (other_number q count other)

  parsed_more : (pag : List ℕ) → AreSized size new → AreKept size (pages_of new) → length pag ≡ count * page_bytes size → AreParsed size old count None pag
      → AreParsed size new (count + 1) None (pag ++ bytes)
  parsed_more pag sized kept all are = record {
    sizes = sized;
    pages = kept;
    inside = omega (arith, one_page size (length pag) count all, length-append pag bytes, long);
    each = λ n h. elim (cases_eq n count) [
      | inl same ↦
          subst (λ (k : ℕ). Spells size (page_at size (pag ++ bytes) k) (pairs_under new k)) (sym same)
          (subst (λ (l : List ℕ). Spells size l (pairs_under new count)) (sym (page_behind size pag bytes count all long)) (subst (Spells size bytes) (sym here) spelled))
      | inr other ↦
          subst (λ (l : List ℕ). Spells size l (pairs_under new n)) (sym (before n (omega (arith, h, other))))
          (subst (Spells size (page_at size pag n)) (sym (elsewhere n other)) (are.each n (omega (arith, h, other))))
    ];
    past = λ n h. elsewhere n (λ same. absurd (omega (arith, h, same))) ∙ are.past n (omega (arith, h));
    ends = omega (arith, more_pages size (length pag) count are.ends, length-append pag bytes, long);
  }
    where
      before : (n : ℕ) → n < count → page_at size (pag ++ bytes) n ≡ page_at size pag n
      before n h = page_before size pag bytes n (page_end size (length pag) n count are.inside h)

-- a page that is invalid
parsed_bad : (size : PageSize) (entries : List (ℕ × Content)) (count : ℕ) (fault : PageFault) (pag bytes : List ℕ) → length bytes ≡ page_bytes size → IsPageFault size bytes fault → fault ≢ NoMemory
    → length pag ≡ count * page_bytes size → AreParsed size entries count None pag → AreParsed size entries count (Some (count, fault)) (pag ++ bytes)
parsed_bad size entries count fault pag bytes long is told all are = parsed_before size entries count None (Some (count, fault)) pag bytes ends are
  where
    same : (n : ℕ) → n < count → page_at size (pag ++ bytes) n ≡ page_at size pag n
    same n h = page_before size pag bytes n (page_end size (length pag) n count are.inside h)

    ends : IsBadPage size (pag ++ bytes) count fault
    ends = record {
      inside = omega (arith, one_page size (length pag) count all, length-append pag bytes, long);
      below = λ k h. (pairs_under entries k, subst (λ (l : List ℕ). Spells size l (pairs_under entries k)) (sym (same k h)) (are.each k h));
      is = subst (λ (l : List ℕ). IsPageFault size l fault) (sym (page_behind size pag bytes count all long)) is;
      told = told;
    }

-- before the first page
pub parsed_nothing : (size : PageSize) (entries : List (ℕ × Content)) (count : ℕ) (bad : Option (ℕ × PageFault)) (pag : List ℕ) → entries ≡ [] → count ≡ 0 → bad ≡ None → pag ≡ []
    → AreParsed size entries count bad pag
parsed_nothing size entries count bad pag no_entries no_pages sound none =
    subst (λ (es : List (ℕ × Content)). AreParsed size es count bad pag) (sym no_entries)
    (subst (λ (n : ℕ). AreParsed size [] n bad pag) (sym no_pages)
    (subst (λ (b : Option (ℕ × PageFault)). AreParsed size [] 0 b pag) (sym sound) (subst (AreParsed size [] 0 None) (sym none) start)))
  where
    some_bytes : (size : PageSize) → 0 < (0 + 1) * page_bytes size
    some_bytes Small = omega arith
    some_bytes Wide = omega arith

    start : AreParsed size [] 0 None []
    start = record {
      sizes = λ n content h. absurd (cc);
      pages = λ n pairs h. absurd (absent_always n pairs h);
      inside = omega arith;
      each = λ n h. absurd (omega arith);
      past = λ n h. ap (λ (o : Option (List Pair)). unwrap_or o []) (get-pages_of [] n);
      ends = some_bytes size;
    }

-- appended bytes that are not a whole page
pub parsed_rest : (size : PageSize) (entries : List (ℕ × Content)) (count : ℕ) (bad : Option (ℕ × PageFault)) (pag rest : List ℕ) → length pag % page_bytes size ≡ 0
    → length rest < page_bytes size → AreParsed size entries count bad pag → AreParsed size entries count bad (pag ++ rest)
parsed_rest size entries count bad pag rest whole short are = parsed_before size entries count bad bad pag rest (ends bad are.ends) are
  where
    ends : (bad : Option (ℕ × PageFault)) → EndsAt size pag count bad → EndsAt size (pag ++ rest) count bad
    ends None h =
        let all = all_pages size (length pag) count whole are.inside h in
        omega (arith, one_page size (length pag) count all, length-append pag rest, short)
    ends (Some b) h = bad_before size pag rest b.0 b.1 h

-- bytes after an invalid page
parsed_past : (size : PageSize) (entries : List (ℕ × Content)) (count : ℕ) (bad : Option (ℕ × PageFault)) (pag bytes : List ℕ) → is_some bad ≡ true
    → AreParsed size entries count bad pag → AreParsed size entries count bad (pag ++ bytes)
parsed_past size entries count bad pag bytes some are = parsed_before size entries count bad bad pag bytes (ends bad some are.ends) are
  where
    ends : (bad : Option (ℕ × PageFault)) → is_some bad ≡ true → EndsAt size pag count bad → EndsAt size (pag ++ bytes) count bad
    ends None t h = absurd (cc)
    ends (Some b) t h = bad_before size pag bytes b.0 b.1 h

-- if all pages are valid, all of them are parsed
same_count : (size : PageSize) (entries : List (ℕ × Content)) (count total : ℕ) (pag : List ℕ) → length pag ≡ total * page_bytes size → AreParsed size entries count None pag → count ≡ total
same_count size entries count total pag all are =
    counts size count total (sym (all_pages size (length pag) count (pages_whole size (length pag) total all) are.inside are.ends) ∙ all)
  where
    counts : (size : PageSize) (m n : ℕ) → m * page_bytes size ≡ n * page_bytes size → m ≡ n
    counts Small m n h = omega arith
    counts Wide m n h = omega arith

-- no page after the parsed ones has pairs
none_past : (size : PageSize) (entries : List (ℕ × Content)) (count total : ℕ) (bad : Option (ℕ × PageFault)) (pag : List ℕ) → length pag ≡ total * page_bytes size
    → AreParsed size entries count bad pag → pairs_under entries total ≡ []
none_past size entries count total bad pag all are = are.past total (counts size count total (subst (λ (k : ℕ). count * page_bytes size ≤ k) all are.inside))
  where
    counts : (size : PageSize) (m n : ℕ) → m * page_bytes size ≤ n * page_bytes size → m ≤ n
    counts Small m n h = omega arith
    counts Wide m n h = omega arith

-- ---- the known bytes

-- one more page
module _ (size : PageSize) (old new : List (ℕ × Content)) (raw more : ℕ → Option (List ℕ)) (total : ℕ) (kept : Option (List ℕ)) (pag bytes : List ℕ) (all : length pag ≡ total * page_bytes size) (long : length bytes ≡ page_bytes size) where
  known_more : ((q : ℕ) → q ≢ total → pairs_under new q ≡ pairs_under old q) → HasRaw raw more total kept → unwrap_or kept (bytes_of_page size (pairs_under new total)) ≡ bytes
      → AreKnown size old raw total pag → AreKnown size new more (total + 1) (pag ++ bytes)
  known_more elsewhere has is are = record {
    each = λ n h. elim (cases_eq n total) [
      | inl same ↦
          ap (known_under size new more) same ∙ ap (λ (o : Option (List ℕ)). unwrap_or o (bytes_of_page size (pairs_under new total))) here ∙ is
          ∙ sym (page_behind size pag bytes total all long) ∙ ap (page_at size (pag ++ bytes)) (sym same)
      | inr other ↦
          ap (λ (o : Option (List ℕ)). unwrap_or o (bytes_of_page size (pairs_under new n))) (there n other)
          ∙ ap (λ (ps : List Pair). unwrap_or (raw n) (bytes_of_page size ps)) (elsewhere n other)
          ∙ are.each n (omega (arith, h, other)) ∙ sym (page_before size pag bytes n (page_end size (length pag) n total (omega (arith, all)) (omega (arith, h, other))))
    ];
    past = λ n h. there n (λ same. absurd (omega (arith, h, same))) ∙ are.past n (omega (arith, h));
  }
    where
      none : raw total ≡ None
      none = are.past total (omega arith)

      here : more total ≡ kept
      here = has none total ∙ cond-true _ _ _ (eq-eqb total total refl)

      there : (q : ℕ) → q ≢ total → more q ≡ raw q
      there q other = has none q ∙ cond-false _ _ _ (other_number total q (λ same. other (sym same)))

-- appended bytes do not change known ones
pub known_before : (size : PageSize) (entries : List (ℕ × Content)) (raw : ℕ → Option (List ℕ)) (total : ℕ) (pag bytes : List ℕ) → total * page_bytes size ≤ length pag
    → AreKnown size entries raw total pag → AreKnown size entries raw total (pag ++ bytes)
known_before size entries raw total pag bytes inside are = record {
  each = λ n h. are.each n h ∙ sym (page_before size pag bytes n (page_end size (length pag) n total inside h));
  past = are.past;
}

-- the same bytes are stored
pub known_same : (size : PageSize) (entries : List (ℕ × Content)) (raw same : ℕ → Option (List ℕ)) (total : ℕ) (pag : List ℕ) → ((n : ℕ) → same n ≡ raw n)
    → AreKnown size entries raw total pag → AreKnown size entries same total pag
known_same size entries raw same total pag is are = record {
  each = λ n h. ap (λ (o : Option (List ℕ)). unwrap_or o (bytes_of_page size (pairs_under entries n))) (is n) ∙ are.each n h;
  past = λ n h. is n ∙ are.past n h;
}

-- before the first page
pub known_nothing : (size : PageSize) (entries : List (ℕ × Content)) (raw : ℕ → Option (List ℕ)) (total : ℕ) (pag : List ℕ) → ((n : ℕ) → raw n ≡ None) → total ≡ 0 → AreKnown size entries raw total pag
known_nothing size entries raw total pag none start = record { each = λ n h. absurd (omega (arith, h, start)); past = λ n h. none n }

-- ---- taking pages

-- a page is stored as read
module _ (size : PageSize) (old new : List (ℕ × Content)) (raw more : ℕ → Option (List ℕ)) (count total : ℕ) (page : Option Content) (kept : Option (List ℕ)) (bytes : List ℕ) (long : length bytes ≡ page_bytes size) (read : IsRead size bytes page) (put : HasPage old new total page) (has : HasRaw raw more total kept) (is : unwrap_or kept (bytes_of_page size (pairs_of_page page)) ≡ bytes) where
  pub taken_more : (pag : List ℕ) → length pag ≡ total * page_bytes size → AreTaken size old raw count None total pag → AreTaken size new more (total + 1) None (total + 1) (pag ++ bytes)
  taken_more pag all are = record {
    parsed = parsed_more size old new total (pairs_of_page page) bytes long read.spelled put_there pag (sized page put read.sized) (stays page put read.some read.spelled) all parsed;
    known = known_more size old new raw more total kept pag bytes all long (elsewhere size old new total (pairs_of_page page) bytes long read.spelled put_there) has
        (ap (λ (ps : List Pair). unwrap_or kept (bytes_of_page size ps)) (here size old new total (pairs_of_page page) bytes long read.spelled put_there) ∙ is) are.known;
  }
    where
      parsed : AreParsed size old total None pag
      parsed = subst (λ (k : ℕ). AreParsed size old k None pag) (same_count size old count total pag all are.parsed) are.parsed

      none : (q : ℕ) → pairs_under old q ≡ cond (eqb q total) [] (pairs_under old q)
      none q = elim (cases_eq q total) [
        | inl e ↦ parsed.past q (omega (arith, e)) ∙ sym (cond-true _ _ _ (eq-eqb q total e))
        | inr other ↦ sym (cond-false _ _ _ (other_number q total other))
      ]

      under : (o : Option Content) → HasPage old new total o → IfSome o (λ c. c.pairs ≢ []) → (q : ℕ) → pairs_under new q ≡ cond (eqb q total) (pairs_of_page o) (pairs_under old q)
      under None same some q = ap (λ (es : List (ℕ × Content)). pairs_under es q) same ∙ none q
      under (Some c) has some q =
          ap (λ pages. unwrap_or (map.get pages q) []) (pages_of-put old new total (Some c) c.pairs has (some_put c some)) ∙ pairs-put_page (pages_of old) total c.pairs q

      put_there : (q : ℕ) → pairs_under new q ≡ cond (eqb q total) (pairs_of_page page) (pairs_under old q)
      put_there = under page put read.some

      sized : (o : Option Content) → HasPage old new total o → IfSome o (λ c. c.size ≡ size) → AreSized size new
      sized None same s = subst (AreSized size) (sym same) parsed.sizes
      sized (Some c) has s = AreSized-put size old new total (Some c) has s parsed.sizes

      stays : (o : Option Content) → HasPage old new total o → IfSome o (λ c. c.pairs ≢ []) → Spells size bytes (pairs_of_page o) → AreKept size (pages_of new)
      stays None same some spelled = subst (λ (es : List (ℕ × Content)). AreKept size (pages_of es)) (sym same) parsed.pages
      stays (Some c) has some spelled =
          subst (AreKept size) (sym (pages_of-put old new total (Some c) c.pairs has (some_put c some))) (AreKept-put_page size (pages_of old) total c.pairs spelled.page parsed.pages)

-- a page that is invalid, or comes after an invalid one
module _ (size : PageSize) (entries : List (ℕ × Content)) (raw more : ℕ → Option (List ℕ)) (count total : ℕ) (kept : Option (List ℕ)) (bytes : List ℕ) (long : length bytes ≡ page_bytes size) (has : HasRaw raw more total kept) (is : unwrap_or kept (bytes_of_page size []) ≡ bytes) where
  known_unparsed : (bad : Option (ℕ × PageFault)) (pag : List ℕ) → length pag ≡ total * page_bytes size → AreTaken size entries raw count bad total pag → AreKnown size entries more (total + 1) (pag ++ bytes)
  known_unparsed bad pag all are =
      known_more size entries entries raw more total kept pag bytes all long (λ q other. refl) has
      (ap (λ (ps : List Pair). unwrap_or kept (bytes_of_page size ps)) (none_past size entries count total bad pag all are.parsed) ∙ is) are.known

  pub taken_bad : (fault : PageFault) (pag : List ℕ) → IsPageFault size bytes fault → fault ≢ NoMemory → length pag ≡ total * page_bytes size → AreTaken size entries raw count None total pag
      → AreTaken size entries more count (Some (total, fault)) (total + 1) (pag ++ bytes)
  taken_bad fault pag why told all are =
      let same = same_count size entries count total pag all are.parsed in
      record {
        parsed = subst (λ (k : ℕ). AreParsed size entries count (Some (k, fault)) (pag ++ bytes)) same
            (parsed_bad size entries count fault pag bytes long why told (all ∙ ap (λ (k : ℕ). k * page_bytes size) (sym same)) are.parsed);
        known = known_unparsed None pag all are;
      }

  pub taken_past : (bad : Option (ℕ × PageFault)) (pag : List ℕ) → is_some bad ≡ true → length pag ≡ total * page_bytes size → AreTaken size entries raw count bad total pag
      → AreTaken size entries more count bad (total + 1) (pag ++ bytes)
  taken_past bad pag some all are = record { parsed = parsed_past size entries count bad pag bytes some are.parsed; known = known_unparsed bad pag all are }

-- storing bytes in an equal map
pub put_behind : (raw same more : ℕ → Option (List ℕ)) (n : ℕ) (kept : Option (List ℕ)) → ((q : ℕ) → same q ≡ raw q) → HasRaw same more n kept → HasRaw raw more n kept
put_behind raw same more n kept is has none q = has (is n ∙ none) q ∙ ap (cond (eqb n q) kept) (is q)

-- after an error
pub taken_same : (size : PageSize) (old new : List (ℕ × Content)) (raw same : ℕ → Option (List ℕ)) (count : ℕ) (bad : Option (ℕ × PageFault)) (total : ℕ) (pag : List ℕ) → new ≡ old → ((n : ℕ) → same n ≡ raw n)
    → AreTaken size old raw count bad total pag → AreTaken size new same count bad total pag
taken_same size old new raw same count bad total pag is still are =
    subst (λ (es : List (ℕ × Content)). AreTaken size es same count bad total pag) (sym is)
    (record { parsed = are.parsed; known = known_same size old raw same total pag still are.known })

pub sound_is : (bad : Option (ℕ × PageFault)) → is_some bad ≡ false → bad ≡ None
sound_is None t = refl
sound_is (Some b) t = absurd (cc)
