-- The state after more bytes are read.
use Rattle.std.proofs.Common.{◌≡◌, ℕ, ◌+◌, ◌*◌, ◌/◌, ◌%◌, ◌<◌, List, ◌++◌, length, length-append, drop, Option, sym, ap, ◌∙◌, subst, arith}
use Rattle.std.proofs.lemmas.List.{drop_all, drop-append-le}
use Rattle.sdbm_addr.specs.declared.PageSize.{PageSize}
use Rattle.sdbm_addr.specs.Pairs.{Content, page_bytes}
use Rattle.sdbm_page.specs.declared.PageFault.{PageFault}
use Rattle.sdbm_files.specs.Reading.{AreKnown, AreTaken, IsReadAs, whole_pages}
use Rattle.sdbm_files.proofs.PagesInBytes.{pages_counted, count_more, count_kept, counted_inside, one_page}
use Rattle.sdbm_files.proofs.Parsing.{parsed_rest, known_before}

-- the bytes after the whole pages are the same
pub read_same : (size : PageSize) (len : ℕ) (entries : List (ℕ × Content)) (raw : ℕ → Option (List ℕ)) (count : ℕ) (bad : Option (ℕ × PageFault)) (rest same pag : List ℕ) → same ≡ rest
    → IsReadAs size len entries raw count bad rest pag → IsReadAs size len entries raw count bad same pag
read_same size len entries raw count bad rest same pag is = subst (λ (l : List ℕ). IsReadAs size len entries raw count bad l pag) (sym is)

-- reading bytes that are not a whole page, after whole pages
pub read_rest : (size : PageSize) (len next : ℕ) (entries : List (ℕ × Content)) (raw : ℕ → Option (List ℕ)) (count : ℕ) (bad : Option (ℕ × PageFault)) (rest more pag bytes : List ℕ)
    → length pag % page_bytes size ≡ 0 → length bytes < page_bytes size → next ≡ len + length bytes → more ≡ rest ++ bytes
    → IsReadAs size len entries raw count bad rest pag → IsReadAs size next entries raw count bad more (pag ++ bytes)
read_rest size len next entries raw count bad rest more pag bytes whole short next_is more_is old = record {
  long = omega (arith, length-append pag bytes, old.long, next_is);
  parsed = parsed_rest size entries count bad pag bytes whole short old.parsed;
  known = subst (λ (k : ℕ). AreKnown size entries raw k (pag ++ bytes)) (sym same) (known_before size entries raw (whole_pages size pag) pag bytes (counted_inside size (length pag)) old.known);
  rest = more_is ∙ ap (λ (l : List ℕ). l ++ bytes) old.rest ∙ sym (drop-append-le (whole_pages size pag * page_bytes size) pag bytes (counted_inside size (length pag)))
      ∙ ap (λ (k : ℕ). drop (k * page_bytes size) (pag ++ bytes)) (sym same);
}
  where
    same : whole_pages size (pag ++ bytes) ≡ whole_pages size pag
    same = ap (λ (k : ℕ). k / page_bytes size) (length-append pag bytes) ∙ count_kept size (length pag) (length bytes) whole short

-- the number of the next page
pub number_is : (size : PageSize) (len b : ℕ) (pag : List ℕ) → length pag ≡ len → b ≡ page_bytes size → len / b ≡ whole_pages size pag
number_is size len b pag long is = ap (λ (k : ℕ). k / b) (sym long) ∙ ap (λ (k : ℕ). length pag / k) is

-- a page was not taken
pub read_still : (size : PageSize) (len number : ℕ) (old new : List (ℕ × Content)) (raw more : ℕ → Option (List ℕ)) (count counted : ℕ) (bad found : Option (ℕ × PageFault)) (rest pag : List ℕ)
    → number ≡ whole_pages size pag → IsReadAs size len old raw count bad rest pag → (AreTaken size old raw count bad number pag → AreTaken size new more counted found number pag)
    → IsReadAs size len new more counted found rest pag
read_still size len number old new raw more count counted bad found rest pag is before taken =
    let t = taken (subst (λ (k : ℕ). AreTaken size old raw count bad k pag) (sym is) (record { parsed = before.parsed; known = before.known })) in
    record { long = before.long; parsed = t.parsed; known = subst (λ (k : ℕ). AreKnown size new more k pag) is t.known; rest = before.rest }

-- reading a page after whole pages
pub read_page : (size : PageSize) (len next number : ℕ) (old new : List (ℕ × Content)) (raw more : ℕ → Option (List ℕ)) (count counted : ℕ) (bad found : Option (ℕ × PageFault)) (rest pag bytes : List ℕ)
    → length pag % page_bytes size ≡ 0 → length bytes ≡ page_bytes size → next ≡ len + length bytes → number ≡ whole_pages size pag → IsReadAs size len old raw count bad rest pag
    → (length pag ≡ number * page_bytes size → AreTaken size old raw count bad number pag → AreTaken size new more counted found (number + 1) (pag ++ bytes))
    → IsReadAs size next new more counted found rest (pag ++ bytes)
read_page size len next number old new raw more count counted bad found rest pag bytes whole page next_is is before taken = record {
  long = omega (arith, length-append pag bytes, before.long, next_is);
  parsed = t.parsed;
  known = subst (λ (k : ℕ). AreKnown size new more k (pag ++ bytes)) (sym one_more) t.known;
  rest = before.rest ∙ drop_all (whole_pages size pag * page_bytes size) pag (omega (arith, all)) ∙ sym (drop_all (whole_pages size (pag ++ bytes) * page_bytes size) (pag ++ bytes) (omega (arith, all_more)));
}
  where
    all : length pag ≡ whole_pages size pag * page_bytes size
    all = pages_counted size (length pag) whole

    counted_all : length pag ≡ number * page_bytes size
    counted_all = all ∙ ap (λ (k : ℕ). k * page_bytes size) (sym is)

    t : AreTaken size new more counted found (number + 1) (pag ++ bytes)
    t = taken counted_all (subst (λ (k : ℕ). AreTaken size old raw count bad k pag) (sym is) (record { parsed = before.parsed; known = before.known }))

    one_more : whole_pages size (pag ++ bytes) ≡ number + 1
    one_more = ap (λ (k : ℕ). k / page_bytes size) (length-append pag bytes) ∙ count_more size (length pag) number (length bytes) counted_all page

    all_more : length (pag ++ bytes) ≡ whole_pages size (pag ++ bytes) * page_bytes size
    all_more = length-append pag bytes ∙ ap (λ (k : ℕ). length pag + k) page ∙ one_page size (length pag) number counted_all ∙ ap (λ (k : ℕ). k * page_bytes size) (sym one_more)
