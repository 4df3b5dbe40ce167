use Rattle.std.proofs.Common.{◌≡◌, ◌∙◌, List, ℕ, None, IfSome, subst, rules}
use Rattle.sdbm_addr.specs.declared.PageSize.{PageSize}
use Rattle.sdbm_saves.specs.Redo.{IsPlan, Knows}
use Rattle.sdbm_saves.specs.Parts.{IsReadSo}
use Rattle.dbm_records.proofs.Whole.{looked, changed_so, size_after}
use Rattle.dbm_records.proofs.page_result.answer_on_page.Goals as goal

pub returns-in_default-database-clause-same : goal.returns-in_default-database-clause-same
returns-in_default-database-clause-same c =
    let none : c.in-Ok.report.database ≡ None = search rules in
    looked c.args.notation.now c.args.asked c.requires.keyed c.args.part c.args.kind c.args.size c.in_ok-image.image c.key.result.now c.key.ensures c.in_ok-image.ensures c.in-Ok.report c.in-Ok.ensures none c.new.result

pub returns-clause-same : goal.returns-clause-same
returns-clause-same c =
    changed_so c.args.notation.now c.args.asked c.requires.keyed c.args.part c.args.kind c.args.size c.in_ok-image.image c.key.result.now c.key.ensures c.in_ok-image.ensures c.in-Ok.report c.in-Ok.ensures c.in-Some.after c.in-Some.is c.in_ok-numbers.numbers c.in_ok-numbers.plan c.in_ok-numbers.ensures

pub returns-clause-plan : goal.returns-clause-plan
returns-clause-plan c =
    let part = c.args.part in
    let numbers : List ℕ = c.in_ok-numbers.numbers.items in
    let size : c.in-Some.after.size ≡ c.args.size =
    size_after c.args.notation.now c.args.asked c.in_ok-image.image c.in-Ok.report c.in-Ok.ensures c.in-Some.after c.in-Some.is ∙ c.in_ok-image.ensures.known.size_is in
    subst (λ (z : PageSize). IfSome c.in_ok-numbers.plan (λ p. IsPlan p.items × ((pag : List ℕ) → IsReadSo part numbers z pag → Knows p.items (pag, part.directory.now)))) size c.in_ok-numbers.ensures.knows
