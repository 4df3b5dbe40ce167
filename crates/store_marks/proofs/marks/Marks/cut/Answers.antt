use Rattle.std.proofs.Common.{◌≡◌, ◌∷◌, ◌++◌, [], ◌∙◌, ℕ, List, take, sym, ap, subst, arith}
use Rattle.std.proofs.lemmas.List.{take-append-le}
use Rattle.store_marks.specs.Marks.{AreMarked}
use Rattle.store_marks.proofs.Marking.{marked_less}
use Rattle.store_marks.proofs.marks.Marks.cut.Goals as goal

pub loop-self-preserved-in-Some : goal.loop-self-preserved-in-Some
loop-self-preserved-in-Some c =
    let left = c.pop.new.self.items in
    let was : c.loop-self.self-inside.numbers.items ≡ left ++ c.in-Some.number ∷ [] = c.in-Some.ensures.items in
    record {
      marked = marked_less c.loop-self.self-inside.marked.items left c.in-Some.number (subst (λ (l : List ℕ). AreMarked c.loop-self.self-inside.marked.items l) was c.loop-self.invariant.marked);
      first = sym (ap (take c.args.len) was ∙ take-append-le c.args.len left (c.in-Some.number ∷ []) (omega (arith, c.in-Some.ensures.len, c.loop-self-test.true))) ∙ c.loop-self.invariant.first;
    }
