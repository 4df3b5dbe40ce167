use Rattle.std.proofs.Common.{◌≡◌, ◌+◌, ◌*◌, ◌<◌, ◌∙◌, ℕ, get_or, ap, sym, subst, arith, below_more, rules}
use Rattle.std.proofs.lemmas.List.{get_or_read}
use Rattle.sdbm_addr.specs.Pairs.{page_bytes}
use Rattle.sdbm_saves.proofs.PageDrafts.{next_page}
use Rattle.sdbm_saves.proofs.PartRead.{below_page}
use Rattle.store_saves.proofs.noted.read_pages.Goals as goal

pub loop-number-preserved : goal.loop-number-preserved
loop-number-preserved c =
    let was = c.loop-number.invariant in
    let size = c.args.size in
    let old = c.loop-number.bytes.items in
    let new = c.push_page.new.bytes.items in
    let pag = c.args.pag.now in
    let numbers = c.args.numbers.now in
    let index = c.loop-number.number-index in
    let pushed = c.in_ok-push_page.ensures in
    record {
      long = pushed.long ∙ (ap (λ (n : ℕ). n + page_bytes size) was.long ∙ next_page size index);
      reads = below_more (λ (j : ℕ). (i : ℕ) → i < page_bytes size → get_or new (j * page_bytes size + i) 0 ≡ get_or pag (get_or numbers j 0 * page_bytes size + i) 0) index
          (λ j low i below. pushed.before (j * page_bytes size + i) (subst (λ (n : ℕ). j * page_bytes size + i < n) (sym was.long) (below_page size j index i low below)) ∙ was.reads j low i below)
          (λ i below. ap (λ (n : ℕ). get_or new (n + i) 0) (sym was.long) ∙ (pushed.page i below
          ∙ ap (λ (n : ℕ). get_or pag (n * page_bytes size + i) 0) (sym (get_or_read numbers index _ c.loop-number-test.true (search rules) 0))));
    }
