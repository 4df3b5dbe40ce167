use Rattle.std.proofs.Common.{◌≡◌, ◌⊎◌, ◌∙◌, ℕ, List, true, false, set, sym, subst}
use Rattle.std.specs.List.{Contains}
use Rattle.store_marks.specs.Marks.{AreMarked}
use Rattle.store_marks.proofs.Marking.{marked_same, marked_more, unmarked, has_last, only_more}
use Rattle.store_marks.proofs.marks.Marks.add.Goals as goal

pub invariant_of-self-2 : goal.invariant_of-self-2
invariant_of-self-2 c =
    let kept : AreMarked c.grow.new.marked.items c.self.inside.numbers.items = marked_same c.self.inside.marked.items c.grow.new.marked.items c.self.inside.numbers.items (λ n. c.in_ok-grow.ensures.same n) c.self.invariant in
    subst (λ (l : List ℕ). AreMarked (set c.grow.new.marked.items c.args.number true) l) (sym c.in_ok-push.ensures.items)
    (marked_more c.grow.new.marked.items c.self.inside.numbers.items c.args.number kept (c.in_ok-grow.ensures.same c.args.number ∙ unmarked c.self.inside.marked.items c.self.inside.numbers.items c.args.number c.self.invariant (λ there. let wrong : false ≡ true = c.if-has.ensures.1 (subst (λ (l : List ℕ). Contains l c.args.number) c.self.view_is there) in cc)) c.in_ok-grow.ensures.ok)

pub returns-clause-ok : goal.returns-clause-ok
returns-clause-ok c = subst (λ (l : List ℕ). Contains l c.args.number) (sym c.in_ok-push.ensures.items) (has_last c.self.inside.marked.items c.self.inside.numbers.items c.args.number)

pub returns-clause-only : goal.returns-clause-only
returns-clause-only c = λ n there.
    subst (λ (l : List ℕ). Contains l n ⊎ (n ≡ c.args.number)) c.self.view_is (only_more c.self.inside.numbers.items c.args.number n (subst (λ (l : List ℕ). Contains l n) c.in_ok-push.ensures.items there))
