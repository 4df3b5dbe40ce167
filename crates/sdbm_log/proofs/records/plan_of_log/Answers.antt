use Rattle.std.proofs.Common.{rules, ◌≡◌, ◌≤◌, inl, ℕ, List, refl, sym, ◌∙◌, ap, subst}
use Rattle.sdbm_saves.specs.Redo.{IsPlan, Knows}
use Rattle.sdbm_saves.proofs.Knowing.{never}
use Rattle.sdbm_log.specs.Log.{records_of, number_in, ArePlans, after_records, MayFollow, log_plan, number_of, plan_of}
use Rattle.sdbm_log.specs.Saving.{image_in}
use Rattle.sdbm_log.proofs.Logs.{known_some, found_some, found_none}
use Rattle.sdbm_log.proofs.records.plan_of_log.Goals as goal

pub returns-then-not-branch-clause-foreign : goal.returns-then-not-branch-clause-foreign
returns-then-not-branch-clause-foreign c = λ is can.
    let image = image_in c.args.files in
    let some : 1 ≤ number_of image = search rules in
    let whole : c.in_ok-plan.plan.items ≡ plan_of image = search rules in
    let both = known_some image some can in
    let is_plan : c.as_slice-2.result.now ≡ plan_of image = c.as_slice-2.ensures.value ∙ whole in
    never (sym c.if-not-branch.true ∙ c.in_ok-knows.ensures.1
    (subst (λ (l : List ℕ). Knows l (c.contents.result.pages.now, c.contents.result.directory.now)) (sym is_plan)
    (subst (λ (p : List ℕ × List ℕ). Knows (plan_of image) p) (λ i. (sym c.contents.ensures.pages i, sym c.contents.ensures.directory i)) both.1)))

pub returns-clause-some : goal.returns-clause-some
returns-clause-some c =
    let image = image_in c.args.files in
    let log : c.records_of-log.result.now ≡ records_of image.redo = c.records_of-log.ensures in
    let is_plan : c.as_slice.result.now ≡ c.in_ok-plan.plan.items = c.as_slice.ensures.value in
    let known_plan : c.as_slice-2.result.now ≡ c.in_ok-plan.plan.items = c.as_slice-2.ensures.value in
    let found = found_some image c.wholes-count.result c.in_ok-plan.plan.items c.requires (search rules) (c.wholes-count.ensures ∙ ap number_in log)
    (subst (λ (l : List ℕ). ArePlans c.wholes-count.result l) log (c.if-not-are_plans.ensures.0 refl))
    (c.in_ok-plan.ensures ∙ ap (λ (l : List ℕ). log_plan c.wholes-count.result l) log)
    (subst (λ (l : List ℕ). IsPlan l) is_plan (c.if-not-is_plan.ensures.0 refl))
    (subst (λ (p : List ℕ × List ℕ). Knows c.in_ok-plan.plan.items p) (λ i. (c.contents.ensures.pages i, c.contents.ensures.directory i))
    (subst (λ (l : List ℕ). Knows l (c.contents.result.pages.now, c.contents.result.directory.now)) known_plan (c.in_ok-knows.ensures.0 c.if-not-branch.false)))
    (subst (λ (l : List ℕ). MayFollow image.redo l) (c.after_records-rest.ensures ∙ ap (λ (l : List ℕ). after_records c.wholes-count.result l) log) (c.if-not-may_follow.ensures.0 refl)) in
    (inl (c.requires, (found.0, found.1.0)), found.1.1)

pub returns-then-count-eq0-clause-none : goal.returns-then-count-eq0-clause-none
returns-then-count-eq0-clause-none c = λ is_none.
    let image = image_in c.args.files in
    let log : c.records_of-log.result.now ≡ records_of image.redo = c.records_of-log.ensures in
    let found = found_none image c.wholes-count.result c.requires c.if-count-eq0.true (c.wholes-count.ensures ∙ ap number_in log)
    (subst (λ (l : List ℕ). MayFollow image.redo l) (c.after_records-rest.ensures ∙ ap (λ (l : List ℕ). after_records c.wholes-count.result l) log) (c.if-not-may_follow.ensures.0 refl)) in
    (inl (c.requires, found.0), found.1)
