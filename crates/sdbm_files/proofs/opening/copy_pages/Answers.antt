use Rattle.std.proofs.Common.{◌≡◌, ◌<◌, ◌^◌, ◌∷◌, [], length, sym, ap, subst, ◌∙◌, List, ℕ, arith}
use Rattle.std.specs.List.{All}
use Rattle.sdbm_addr.specs.Pairs.{Content}
use Rattle.sdbm_files.specs.Kept.{pages_of}
use Rattle.sdbm_files.specs.Installed.{put_all}
use Rattle.sdbm_files.proofs.InstallLemmas.{sized_more}
use Rattle.sdbm_files.proofs.WideningLemmas.{IsFoundIn, found_parts, full_all, put_all-start, put_all-step, put_all-pages_of, AreSized-none}
use Rattle.sdbm_files.proofs.opening.copy_pages.Goals as goal

pub loop-number-init : goal.loop-number-init
loop-number-init g c =
    let entries : List (ℕ × Content) = c.args.pages.now.entries in
    let rest : c.into_iter-number-iterator.result ≡ entries = c.into_iter-number-iterator.ensures.into_iter_gives ∙ c.iter-number-items.ensures.rest in
    let long : length c.into_iter-number-iterator.result ≡ length entries = ap length rest in
    let room = c.in_ok-copy.ensures.spare in (
      tt,
      tt,
      put_all-start _ _ entries c.in_ok-copy.ensures.empty rest,
      omega arith,
      λ size sized. AreSized-none size _ c.in_ok-copy.ensures.empty,
      subst (All (IsFoundIn entries)) (sym rest) c.iter-number-items.ensures.found,
    )

pub overflow_cast-number : goal.overflow_cast-number
overflow_cast-number g c =
    let found = (found_parts c.args.pages.now.entries c.loop-number.number-iterator c.in-Some.number.now c.in-Some.page.now c.next.new.self (c.in-Some.ensures).steps c.loop-number.invariant.5).0 in
    let low : c.in-Some.number.now < 2 ^ 32 = (c.requires c.in-Some.number.now c.in-Some.page.now found).0 in
    omega arith

pub loop-number-preserved : goal.loop-number-preserved
loop-number-preserved g c =
    let entries : List (ℕ × Content) = c.args.pages.now.entries in
    let left : List (ℕ × Content) = c.loop-number.number-iterator in
    let rest : List (ℕ × Content) = c.next.new.self in
    let steps : left ≡ (c.in-Some.number.now, c.in-Some.page.now) ∷ rest = (c.in-Some.ensures).steps in
    let long : length left ≡ length ((c.in-Some.number.now, c.in-Some.page.now) ∷ rest) = ap length steps in
    let parts = found_parts entries left c.in-Some.number.now c.in-Some.page.now rest steps c.loop-number.invariant.5 in
    let room = c.loop-number.invariant.3 in
    let spare = c.put_page.ensures.spare in (
      tt,
      tt,
      put_all-step c.loop-number.copy.entries c.put_page.new.pages.entries left rest c.in-Some.number.now c.in-Some.page.now _ entries steps
          (ap (λ (m : Content). m.pairs) c.in_ok-shared.ensures) c.put_page.ensures.pages c.loop-number.invariant.2,
      omega arith,
      λ size sized.
          sized_more size _ c.loop-number.copy.entries c.put_page.new.pages.entries (ap (λ (m : Content). m.size) c.in_ok-shared.ensures ∙ sized c.in-Some.number.now c.in-Some.page.now parts.0) c.put_page.ensures.sizes (c.loop-number.invariant.4 size sized),
      parts.1,
    )

pub returns-clause-pages : goal.returns-clause-pages
returns-clause-pages g c =
    let none : c.loop-number.number-iterator ≡ [] = (c.in-None.ensures).steps.0 in
    sym (ap (put_all (pages_of c.loop-number.copy.entries)) none) ∙ c.loop-number.invariant.2
    ∙ put_all-pages_of c.args.pages.now.entries c.iter-number-items.ensures.unique (full_all c.args.pages.now.entries (λ n content found. (c.requires n content found).1) c.iter-number-items.ensures.found)

pub returns-clause-sizes : goal.returns-clause-sizes
returns-clause-sizes g c = c.loop-number.invariant.4
