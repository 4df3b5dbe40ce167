use Rattle.std.proofs.Common.{◌≡◌, ◌<◌, ◌≤◌, ◌+◌, ◌*◌, ◌-◌, ◌/◌, ℕ, List, length, take, drop, get_or, refl, sym, ◌∙◌, ap, subst, arith}
use Rattle.sdbm_addr.specs.declared.PageSize.{PageSize}
use Rattle.sdbm_addr.specs.declared.PageSize.TheVariants.{Small, Wide}
use Rattle.sdbm_addr.specs.Pairs.{page_bytes}
use Rattle.sdbm_files.proofs.WriteLemmas.{long_page}
use Rattle.sdbm_saves.specs.Drafts.{AreChanges, HasPut}
use Rattle.sdbm_saves.specs.Parts.{ReadPages}
use Rattle.sdbm_saves.specs.declared.disk.DiskFile.TheVariants.{Pages}
use Rattle.sdbm_saves.proofs.Drafts.{length_part, part_reads}
use Rattle.sdbm_saves.proofs.PageDrafts.{page_inside, next_page}
use Rattle.sdbm_saves.proofs.Parts.{IsPutting, putting_none, putting_past, putting_more, putting_all}
use Rattle.sdbm_saves.proofs.part.draft_parts.Given as given
use Rattle.sdbm_saves.proofs.part.draft_parts.Goals as goal
use Rattle.sdbm_saves.proofs.part.draft_parts.Goals.{then-at-size+in_ok-draft_bytes, else-at-size}

blocks_of_page : (size : PageSize) → (page_bytes size + 1023) / 1024 ≤ 8
blocks_of_page Small = omega arith
blocks_of_page Wide = omega arith

-- the blocks of a page
few_blocks : (size : PageSize) (n : ℕ) → n ≡ page_bytes size → (n + 1023) / 1024 ≤ 8
few_blocks size n is = subst (λ k. (k + 1023) / 1024 ≤ 8) (sym is) (blocks_of_page size)

pub loop-index-init : goal.loop-index-init
loop-index-init g c = let draft = c.args.draft.now in record {
  put = λ both reads untouched are. putting_none c.args.image.now c.args.numbers.now draft.pages draft.directory both draft.count draft.changes.items untouched are;
  few = omega arith;
  pages = refl;
  directory = refl;
}

-- the drafted page has the page size
long : (g : given.Over) (c : goal.After-draft_bytes-arg-then-at-size-1 g) → length c.page_bytes-page.result.now ≡ page_bytes c.args.image.now.size
long g c = ap (λ (l : List ℕ). length l) c.page_bytes-page.ensures ∙ long_page c.args.image.now c.requires.database (get_or c.args.numbers.now c.loop-index.index 0)

size_is : (g : given.Over) (c : goal.After-draft_bytes-arg-then-at-size-1 g) → c.bytes-size.result ≡ page_bytes c.args.image.now.size
size_is g c = c.bytes-size.ensures ∙ ap page_bytes c.page_size.ensures

pub draft_bytes-requires-clause-near : goal.draft_bytes-requires-clause-near
draft_bytes-requires-clause-near g c = omega (arith, long g c, size_is g c, c.if-at-size.true, c.loop-index.invariant.pages, c.requires.short)

pub draft_bytes-requires-clause-few : goal.draft_bytes-requires-clause-few
draft_bytes-requires-clause-few g c = omega (arith, few_blocks c.args.image.now.size _ (long g c), c.loop-index.invariant.few, c.loop-index-test.true, c.requires.few)

pub draft_bytes-requires-clause-fits : goal.draft_bytes-requires-clause-fits
draft_bytes-requires-clause-fits g c = omega (arith, long g c, size_is g c, c.if-at-size.true)

-- the position of a page in the bytes that were read
listed : (size : PageSize) (numbers pages pag : List ℕ) (index z : ℕ) → z ≡ page_bytes size → index < length numbers → length pages ≡ length numbers * page_bytes size → ReadPages size numbers pages pag
    → (i : ℕ) → i < page_bytes size → get_or (take (index * z + z - index * z) (drop (index * z) pages)) i 0 ≡ get_or pag (get_or numbers index 0 * page_bytes size + i) 0
listed size numbers pages pag index z z_is below long reads i lt =
    let at : index * z ≡ index * page_bytes size = ap (λ k. index * k) z_is in
    let one : index * z + z - index * z ≡ z = omega arith in
    let inside : index * z + (index * z + z - index * z) ≤ length pages = omega (arith, at, one, z_is, long, page_inside size index (length numbers) below) in
    part_reads (index * z) (index * z + z - index * z) pages inside i (omega (arith, lt, z_is, one, length_part (index * z) (index * z + z - index * z) pages inside))
    ∙ ap (λ k. get_or pages (k + i) 0) at
    ∙ reads index i below lt

pub loop-index-preserved : goal.loop-index-preserved
loop-index-preserved g c =
    let db = c.args.image.now in
    let draft = c.args.draft.now in
    let numbers = c.args.numbers.now in
    let index = c.loop-index.index in
    let n = get_or numbers index 0 in
    let z = c.bytes-size.result in
    let kept = c.loop-index.invariant in
    let z_is : z ≡ page_bytes db.size = c.bytes-size.ensures ∙ ap page_bytes c.page_size.ensures in
    let at : n * z ≡ n * page_bytes db.size = ap (λ k. n * k) z_is in
    elim c.if-at-size.branch [
      | then-at-size+in_ok-draft_bytes w ↦
          let page = w.page_bytes-page.result.now in
          let page_is = w.page_bytes-page.ensures in
          let page_long : length page ≡ page_bytes db.size = ap (λ (l : List ℕ). length l) page_is ∙ long_page db c.requires.database n in
          let here = w.in_ok-draft_bytes.ensures in
          let was = take (index * z + z - index * z) (drop (index * z) c.args.pages.now) in
          let more = w.draft_bytes.new.draft in
          record {
            put = λ both reads untouched are.
                let first = kept.put both reads untouched are in
                let stood = listed db.size numbers c.args.pages.now both.0 index z z_is c.loop-index-test.true c.requires.long reads in
                let second = here.put both
                (λ i lt. stood i (omega (arith, lt, page_long)) ∙ ap (λ k. get_or both.0 (k + i) 0) (sym at))
                (subst (λ p. AreChanges p c.loop-index.draft.directory both c.loop-index.draft.count c.loop-index.draft.changes.items) (sym kept.pages)
                (subst (λ d. AreChanges draft.pages d both c.loop-index.draft.count c.loop-index.draft.changes.items) (sym kept.directory) first.changes)) in
                let whole = subst (λ p. HasPut p draft.directory both Pages (n * z) was page c.loop-index.draft.count c.loop-index.draft.changes.items more.count more.changes.items) kept.pages
                (subst (λ d. HasPut c.loop-index.draft.pages d both Pages (n * z) was page c.loop-index.draft.count c.loop-index.draft.changes.items more.count more.changes.items) kept.directory second) in
                subst (λ d. IsPutting db numbers (index + 1) draft.pages draft.directory both draft.count draft.changes.items d.count d.changes.items) (sym w.draft-is)
                (putting_more db c.requires.database numbers index draft.pages draft.directory both draft.count draft.changes.items c.loop-index.draft.count c.loop-index.draft.changes.items n refl c.loop-index-test.true first
                was (n * z) more.count more.changes.items stood at (omega (arith, w.if-at-size.true, kept.pages, z_is, at, next_page db.size n))
                (subst (λ (l : List ℕ). HasPut draft.pages draft.directory both Pages (n * z) was l c.loop-index.draft.count c.loop-index.draft.changes.items more.count more.changes.items) page_is whole));
            few = omega (arith, ap (λ d. d.count) w.draft-is, here.few, few_blocks db.size (length page) page_long, kept.few);
            pages = ap (λ d. d.pages) w.draft-is ∙ here.pages ∙ kept.pages;
            directory = ap (λ d. d.directory) w.draft-is ∙ here.directory ∙ kept.directory;
          }
      | else-at-size w ↦
          record {
            put = λ both reads untouched are.
                subst (λ d. IsPutting db numbers (index + 1) draft.pages draft.directory both draft.count draft.changes.items d.count d.changes.items) (sym w.draft-is)
                (putting_past db c.requires.database numbers index draft.pages draft.directory both draft.count draft.changes.items c.loop-index.draft.count c.loop-index.draft.changes.items n refl c.loop-index-test.true
                (kept.put both reads untouched are) (omega (arith, w.if-at-size.false, kept.pages, z_is, at, next_page db.size n)));
            few = omega (arith, ap (λ d. d.count) w.draft-is, kept.few);
            pages = ap (λ d. d.pages) w.draft-is ∙ kept.pages;
            directory = ap (λ d. d.directory) w.draft-is ∙ kept.directory;
          }
    ]

pub returns-clause-put : goal.returns-clause-put
returns-clause-put g c = λ both reads untouched are.
    let draft = c.args.draft.now in
    putting_all c.args.image.now c.args.numbers.now c.loop-index.index draft.pages draft.directory both draft.count draft.changes.items _ _ (omega (arith, c.loop-index-test.false))
    (c.loop-index.invariant.put both reads untouched are)
