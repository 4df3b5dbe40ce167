use Rattle.std.proofs.Common.{◌≡◌, ◌∷◌, ℕ, List, Contains, sym, subst, rules}
use Rattle.store_parts.proofs.Pages.{behind_first}
use Rattle.store_parts.proofs.part.numbers_of.Goals as goal

pub returns-then-has_pairs-clause-first : goal.returns-then-has_pairs-clause-first
returns-then-has_pairs-clause-first c = c.in_ok-numbers.ensures.covers c.args.number (c.has_pairs.ensures.yes c.if-has_pairs.true)

pub returns-clause-covers : goal.returns-clause-covers
returns-clause-covers c = λ n there.
    let is : c.insert.new.self.items ≡ c.args.number ∷ c.in_ok-numbers.numbers.items = search rules in
    subst (λ (l : List ℕ). Contains l n) (sym is) (behind_first c.args.number c.in_ok-numbers.numbers.items n (c.in_ok-numbers.ensures.covers n there))
