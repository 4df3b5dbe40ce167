use Rattle.std.proofs.Common.{◌≡◌, ◌≤◌, ◌+◌, ◌/◌, ◌%◌, min, ℕ, List, ◌++◌, length, sym, ap, ◌∙◌, subst, arith}
use Rattle.sdbm_addr.specs.Pairs.{page_bytes}
use Rattle.sdbm_addr.specs.Files.{page_at}
use Rattle.sdbm_files.specs.Reading.{PagRead}
use Rattle.sdbm_files.proofs.PagesInBytes.{no_pages, pages_next, all_taken}
use Rattle.sdbm_files.proofs.reading.ReadPages.to_vec.Goals as goal

pub loop-number-init : goal.loop-number-init
loop-number-init g c = c.in_ok-copy.ensures.items ∙ sym (no_pages c.args.self.now.size c.args.self.now.bytes)

pub loop-number-preserved : goal.loop-number-preserved
loop-number-preserved g c =
    let pag = c.args.self.now.bytes in
    c.in_ok-extend_from_slice.ensures.items ∙ ap (λ (l : List ℕ). c.loop-number.copy.items ++ l) c.page.ensures
    ∙ ap (λ (l : List ℕ). l ++ page_at c.args.self.now.size pag c.loop-number.number) c.loop-number.invariant ∙ pages_next c.args.self.now.size pag c.loop-number.number

pub returns : goal.returns
returns g c =
    let a = c.args.self.now in
    let b = c.bytes.result in
    let b_is : b ≡ page_bytes a.size = c.bytes.ensures ∙ ap (λ (r : PagRead). page_bytes r.size) c.self.view_is in
    let long : c.self.inside.len ≡ length a.bytes = sym c.self.invariant.long ∙ ap (λ (r : PagRead). length r.bytes) c.self.view_is in
    let past : c.self.inside.len / b + min 1 (c.self.inside.len % b) ≤ c.loop-number.number = omega (arith, c.div_ceil-number-end.ensures, c.loop-number-test.false) in
    c.loop-number.invariant ∙ all_taken a.size a.bytes c.loop-number.number b b_is (subst (λ (k : ℕ). k / b + min 1 (k % b) ≤ c.loop-number.number) long past)
