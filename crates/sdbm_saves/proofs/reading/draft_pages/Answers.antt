use Rattle.std.proofs.Common.{◌≡◌, ◌<◌, ◌≤◌, ◌^◌, ℕ, ◌+◌, ◌*◌, ◌-◌, ◌/◌, ◌%◌, List, ◌++◌, length, take, drop, get_or, refl, sym, ◌∙◌, ap, subst, arith}
use Rattle.std.proofs.Math.Seq.{take-add}
use Rattle.std.proofs.lemmas.List.{length-take, length-take-le, take_all}
use Rattle.sdbm_addr.specs.declared.PageSize.{PageSize}
use Rattle.sdbm_addr.specs.declared.PageSize.TheVariants.{Small, Wide}
use Rattle.sdbm_addr.specs.Pairs.{page_bytes}
use Rattle.sdbm_addr.specs.Files.{first_pages}
use Rattle.sdbm_files.proofs.WriteLemmas.{length-first_pages}
use Rattle.sdbm_saves.specs.declared.disk.DiskFile.TheVariants.{Pages}
use Rattle.sdbm_saves.specs.OldPages.{bytes_in}
use Rattle.sdbm_saves.specs.Drafts.{AreChanges, HasPut}
use Rattle.sdbm_saves.proofs.Drafts.{block_read}
use Rattle.sdbm_saves.proofs.PageDrafts.{in_page, blocks_are, block_reads_so, part_inside, part_long, part_reads_so}
use Rattle.sdbm_saves.proofs.Puts.{put_none, put_more}
use Rattle.sdbm_saves.proofs.reading.draft_pages.Given as given
use Rattle.sdbm_saves.proofs.reading.draft_pages.Goals as goal

-- the number of blocks in a page
size_is : (size own : PageSize) (b : ℕ) → b ≡ page_bytes own → own ≡ size → b / 1024 ≡ in_page size
size_is size own b is same = ap (λ (k : ℕ). k / 1024) (is ∙ ap page_bytes same)

few_in : (size : PageSize) (index count : ℕ) → index ≤ count * in_page size → count * page_bytes size < 2 ^ 32 → index ≤ 2 ^ 22
few_in Small index count le short = omega (arith, le, short)
few_in Wide index count le short = omega (arith, le, short)

-- a block ends within the pages
ends_in : (size : PageSize) (index count : ℕ) → index < count * in_page size → index * 1024 + 1024 ≤ count * page_bytes size
ends_in Small index count below = omega (arith, below)
ends_in Wide index count below = omega (arith, below)

pub loop-index-init : goal.loop-index-init
loop-index-init g c = let draft = c.args.draft.now in record {
  put = λ both is are. put_none draft.pages draft.directory both Pages 0 (bytes_in c.args.old) _ draft.count draft.changes.items (omega (arith, length-take (0 * 1024) (first_pages c.args.image.now c.args.count))) are;
  few = omega arith;
  pages = refl;
  directory = refl;
}

pub slice_bounds-block-end : goal.slice_bounds-block-end
slice_bounds-block-end g c =
    let db = c.args.image.now in
    part_inside db c.requires.database c.loop-index.index (c.bytes-in_page.result / 1024) (size_is db.size c.page_size.result c.bytes-in_page.result c.bytes-in_page.ensures c.page_size.ensures)
    c.page_bytes-page.result.now c.page_bytes-page.ensures

module _ (g : given.Over) (c : goal.After-block g) where
  abbrev index : ℕ
  index = c.loop-index.index

  abbrev per : ℕ
  per = c.bytes-in_page.result / 1024

  abbrev block : List ℕ
  block = take (index % per * 1024 + 1024 - index % per * 1024) (drop (index % per * 1024) c.page_bytes-page.result.now)

  per_is : per ≡ in_page c.args.image.now.size
  per_is = size_is c.args.image.now.size c.page_size.result c.bytes-in_page.result c.bytes-in_page.ensures c.page_size.ensures

  long : length block ≡ 1024
  long = part_long c.args.image.now c.requires.database index per per_is c.page_bytes-page.result.now c.page_bytes-page.ensures

  below : index < c.args.count * in_page c.args.image.now.size
  below = subst (λ (k : ℕ). index < c.args.count * k) per_is c.loop-index-test.true

  ends : index * 1024 + 1024 ≤ c.args.draft.now.pages
  ends = omega (arith, ends_in c.args.image.now.size index c.args.count below, c.requires.long)

  few : index ≤ 2 ^ 22
  few = few_in c.args.image.now.size index c.args.count (omega (arith, below)) (omega (arith, c.requires.long, c.requires.short))

pub draft_block-requires-clause-near : goal.draft_block-requires-clause-near
draft_block-requires-clause-near g c = omega (arith, long g c, ends g c, c.requires.short)

pub draft_block-requires-clause-few : goal.draft_block-requires-clause-few
draft_block-requires-clause-few g c = omega (arith, few g c, c.loop-index.invariant.few, c.requires.few)

pub draft_block-requires-clause-fits : goal.draft_block-requires-clause-fits
draft_block-requires-clause-fits g c = omega (arith, long g c, ends g c, c.loop-index.invariant.pages)

pub loop-index-preserved : goal.loop-index-preserved
loop-index-preserved g c =
    let db = c.args.image.now in
    let draft = c.args.draft.now in
    let old = (bytes_in c.args.old) in
    let new = first_pages db c.args.count in
    let index = c.loop-index.index in
    let at = index * 1024 in
    let per = c.bytes-in_page.result / 1024 in
    let page = c.page_bytes-page.result.now in
    let block = take (index % per * 1024 + 1024 - index % per * 1024) (drop (index % per * 1024) page) in
    let per_is = size_is db.size c.page_size.result c.bytes-in_page.result c.bytes-in_page.ensures c.page_size.ensures in
    let below : index < c.args.count * in_page db.size = subst (λ (k : ℕ). index < c.args.count * k) per_is c.loop-index-test.true in
    let long : length block ≡ 1024 = part_long db c.requires.database index per per_is page c.page_bytes-page.ensures in
    let new_long : length new ≡ c.args.count * page_bytes db.size = length-first_pages db c.requires.database c.args.count in
    let inside : at + 1024 ≤ length new = omega (arith, ends_in db.size index c.args.count below, new_long) in
    let front = take at new in
    let front_long : length front ≡ at = length-take-le at new (omega (arith, inside)) in
    let known = c.block.result.now in
    let kept = c.loop-index.invariant in
    let here = c.in_ok-draft_block.ensures in
    let more = c.draft_block.new.draft in
    let block_is : take 1024 (drop at new) ≡ block = block_read at 1024 new inside block long
    (block_reads_so db c.requires.database index c.args.count draft.pages below c.requires.long block long (part_reads_so db c.requires.database index per per_is page c.page_bytes-page.ensures)) in
    let next : at + 1024 ≡ (index + 1) * 1024 = omega arith in
    let whole : front ++ block ≡ take ((index + 1) * 1024) new = ap (λ (l : List ℕ). front ++ l) (sym block_is) ∙ sym (take-add at 1024 new) ∙ ap (λ n. take n new) next in
    record {
      put = λ both is are.
          let first = kept.put both is are in
          let second = here.put both
          (λ i lt. c.block.ensures.reads i (omega (arith, lt, long)) ∙ ap (λ (l : List ℕ). get_or l (at + i) 0) (sym is))
          (subst (λ p. AreChanges p c.loop-index.draft.directory both c.loop-index.draft.count c.loop-index.draft.changes.items) (sym kept.pages)
          (subst (λ d. AreChanges draft.pages d both c.loop-index.draft.count c.loop-index.draft.changes.items) (sym kept.directory) first.changes)) in
          let start : at ≡ 0 + length front = omega (arith, front_long) in
          subst (λ (l : List ℕ). HasPut draft.pages draft.directory both Pages 0 old l draft.count draft.changes.items more.count more.changes.items) whole
          (put_more draft.pages draft.directory both Pages 0 old front known block _ _ _ _ _ _
          (λ i lt. c.block.ensures.reads i (omega (arith, lt, long)) ∙ ap (λ n. get_or old (n + i) 0) (sym front_long)) first
          (subst (λ n. HasPut draft.pages draft.directory both Pages n known block c.loop-index.draft.count c.loop-index.draft.changes.items more.count more.changes.items) start
          (subst (λ p. HasPut p draft.directory both Pages at known block c.loop-index.draft.count c.loop-index.draft.changes.items more.count more.changes.items) kept.pages
          (subst (λ d. HasPut c.loop-index.draft.pages d both Pages at known block c.loop-index.draft.count c.loop-index.draft.changes.items more.count more.changes.items) kept.directory second))));
      few = omega (arith, here.few, kept.few);
      pages = here.pages ∙ kept.pages;
      directory = here.directory ∙ kept.directory;
    }

pub returns-clause-put : goal.returns-clause-put
returns-clause-put g c = λ both is are.
    let db = c.args.image.now in
    let draft = c.args.draft.now in
    let new = first_pages db c.args.count in
    let per_is = size_is db.size c.page_size.result c.bytes-in_page.result c.bytes-in_page.ensures c.page_size.ensures in
    let end : c.loop-index.index ≡ c.args.count * (c.bytes-in_page.result / 1024) = omega (arith, c.loop-index.auto.index-end, c.loop-index-test.false) in
    let all : c.loop-index.index * 1024 ≡ length new =
    ap (λ (k : ℕ). k * 1024) end ∙ ap (λ (k : ℕ). c.args.count * k * 1024) per_is ∙ blocks_are db.size c.args.count ∙ sym (length-first_pages db c.requires.database c.args.count) in
    subst (λ (l : List ℕ). HasPut draft.pages draft.directory both Pages 0 (bytes_in c.args.old) l draft.count draft.changes.items c.loop-index.draft.count c.loop-index.draft.changes.items) (take_all (c.loop-index.index * 1024) new (omega (arith, all)))
    (c.loop-index.invariant.put both is are)

pub returns-clause-few : goal.returns-clause-few
returns-clause-few g c =
    let db = c.args.image.now in
    let per_is = size_is db.size c.page_size.result c.bytes-in_page.result c.bytes-in_page.ensures c.page_size.ensures in
    let most : c.loop-index.index ≤ c.args.count * in_page db.size = subst (λ (k : ℕ). c.loop-index.index ≤ c.args.count * k) per_is c.loop-index.auto.index-end in
    omega (arith, few_in db.size c.loop-index.index c.args.count most (omega (arith, c.requires.long, c.requires.short)), c.loop-index.invariant.few)
