use Rattle.std.proofs.Common.{◌<◌, ◌^◌, ℕ, List, length, sym, ◌∙◌, ap, subst, arith}
use Rattle.sdbm_saves.specs.Drafts.{plan_bytes}
use Rattle.sdbm_saves.specs.Saves.{ChangesNothing}
use Rattle.sdbm_saves.proofs.PageDrafts.{changes_nothing}
use Rattle.sdbm_saves.proofs.reading.plan_nothing.Goals as goal

pub returns-clause-plan : goal.returns-clause-plan
returns-clause-plan g c =
    let both : List ℕ × List ℕ = (c.args.old.pages.now.bytes, c.args.old.directory.now) in
    let long = c.len-pages.ensures in
    let pages_small : length both.0 < 2 ^ 32 = omega (arith, long, c.if-pages-ge-LIMIT.false) in
    let directory_small : length both.1 < 2 ^ 32 = omega (arith, c.if-directory-ge-LIMIT.false) in
    let items = c.in_ok-assemble.ensures ∙ ap (λ (n : ℕ). plan_bytes n (length both.1) n (length both.1) 0 c.new.result.items) long ∙ ap (λ (l : List ℕ). plan_bytes (length both.0) (length both.1) (length both.0) (length both.1) 0 l) c.new.ensures.items in
    subst (λ (l : List ℕ). ChangesNothing l both.0 both.1) (sym items) (changes_nothing both pages_small directory_small)
