use Rattle.std.proofs.Common.{ℕ, List, ◌↔◌, IsTrue, IfOk, arith, subst, ◌∙◌}
use Rattle.sdbm_addr.specs.declared.PageSize.TheVariants.{Wide}
use Rattle.sdbm_addr.specs.Files.{page_at}
use Rattle.sdbm_sizes.specs.Sizes.{IsFirstWritten, IsWritten, LooksSmall}
use Rattle.sdbm_sizes.proofs.Parts.{first_says, first_denies}
use Rattle.sdbm_sizes.proofs.pages_look_small.Given as given
use Rattle.sdbm_sizes.proofs.pages_look_small.Goals as goal

first : (g : given.Over) (c : goal.After-drop-page g) → IsFirstWritten c.args.pag.now.bytes c.loop-number.number
first g c = record {
  low = omega (arith, c.loop-number-test.true, c.pages_in-number-end.ensures.low);
  inside = omega (arith, c.loop-number-test.true, c.pages_in-number-end.ensures.inside, c.len.ensures);
  written = subst IsWritten (c.as_slice.ensures.value ∙ c.in_ok-page.ensures) (c.is_written.ensures.0 c.if-is_written.true);
  below = c.loop-number.invariant;
}

says : (g : given.Over) (c : goal.After-drop-page g)
    → IfOk c.page_looks_small.result (λ small. IsTrue small ↔ LooksSmall c.args.kind c.args.dir.now c.loop-number.number (page_at Wide c.args.pag.now.bytes c.loop-number.number))
says g c =
    subst (λ (page : List ℕ). IfOk c.page_looks_small.result (λ small. IsTrue small ↔ LooksSmall c.args.kind c.args.dir.now c.loop-number.number page))
    (c.as_slice-then-is_written.ensures.value ∙ c.in_ok-page.ensures) c.page_looks_small.ensures

pub returns-then-is_written-clause-is : goal.returns-then-is_written-clause-is
returns-then-is_written-clause-is g c = first_says c.args.kind c.args.dir.now c.args.pag.now.bytes c.loop-number.number (first g c) c.page_looks_small.result (says g c)

pub returns-then-is_written-clause-none : goal.returns-then-is_written-clause-none
returns-then-is_written-clause-none g c = first_denies c.args.kind c.args.dir.now c.args.pag.now.bytes c.loop-number.number (first g c) c.page_looks_small.result (says g c)
