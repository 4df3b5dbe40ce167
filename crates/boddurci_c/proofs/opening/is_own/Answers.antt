use Rattle.std.proofs.Common.{◌≡◌, ℕ, ◌+◌, ◌-◌, ◌*◌, ◌/◌, ◌<◌, ◌≤◌, List, length, drop, get_or, inl, inr, sym, ap, ◌∙◌, subst, arith}
use Rattle.std.proofs.lemmas.Bool.{cases_lt}
use Rattle.std.proofs.lemmas.List.{get_or-take, get_or-drop}
use Rattle.sdbm_addr.specs.declared.PageSize.{PageSize}
use Rattle.sdbm_addr.specs.declared.PageSize.TheVariants.{Small, Wide}
use Rattle.sdbm_addr.specs.Pairs.{page_bytes}
use Rattle.sdbm_files.proofs.WriteLemmas.{long_page}
use Rattle.sdbm_saves.proofs.PageDrafts.{in_page}
use Rattle.boddurci_c.proofs.opening.is_own.Goals as goal

-- the number of blocks of a page
blocks_are : (size own : PageSize) (bytes : ℕ) → bytes ≡ page_bytes own → own ≡ size → bytes / 1024 ≡ in_page size
blocks_are size own bytes is same = ap (λ (k : ℕ). k / 1024) (is ∙ ap page_bytes same)

-- a block ends within its page
ends_in : (size : PageSize) (index : ℕ) → index < in_page size → (index + 1) * 1024 ≤ page_bytes size
ends_in Small index below = omega (arith, below)
ends_in Wide index below = omega (arith, below)

-- the offset in the file of a byte of a block
place : (size : PageSize) (number index i : ℕ) → index * 1024 ≤ i → (number * in_page size + index) * 1024 + (i - index * 1024) ≡ number * page_bytes size + i
place Small number index i past = omega (arith, past)
place Wide number index i past = omega (arith, past)

pub slice_bounds-is_same-end : goal.slice_bounds-is_same-end
slice_bounds-is_same-end c =
    let db = c.args.image.now in
    let below : c.loop-index.index < in_page db.size = subst (λ (k : ℕ). c.loop-index.index < k) (blocks_are db.size c.page_size.result c.bytes-blocks.result c.bytes-blocks.ensures c.page_size.ensures) c.loop-index-test.true in
    omega (arith, ends_in db.size c.loop-index.index below, ap length c.page_bytes-own.ensures, long_page db c.requires c.args.number)

pub loop-index-preserved : goal.loop-index-preserved
loop-index-preserved c = λ i low.
    let db = c.args.image.now in
    let pag = c.args.pag.now.bytes in
    let own = c.page_bytes-own.result.now in
    let at = c.loop-index.index * 1024 in
    let per = blocks_are db.size c.page_size.result c.bytes-blocks.result c.bytes-blocks.ensures c.page_size.ensures in
    elim (cases_lt i at) [
      | inl before ↦ c.loop-index.invariant i before
      | inr past ↦
          let inside : i - at < 1024 = omega (arith, low, past) in
          let there : at + (i - at) ≡ i = omega (arith, past) in
          sym (c.block-block.ensures.reads (i - at) inside ∙ ap (λ (b : ℕ). get_or pag ((c.args.number * b + c.loop-index.index) * 1024 + (i - at)) 0) per
          ∙ ap (λ (k : ℕ). get_or pag k 0) (place db.size c.args.number c.loop-index.index i past))
          ∙ ap (λ (l : List ℕ). get_or l (i - at) 0) (c.is_same.ensures c.if-not-is_same.false)
          ∙ get_or-take ((c.loop-index.index + 1) * 1024 - at) (drop at own) (i - at) 0 (omega (arith, low, past))
          ∙ get_or-drop at own (i - at) 0
          ∙ ap (λ (k : ℕ). get_or own k 0) there
    ]
