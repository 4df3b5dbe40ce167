use Rattle.std.proofs.Common.{◌≡◌, ◌∙◌, sym, subst, None}
use Rattle.prog_registry.specs.Verdicts.{Recent, verdict_on, Recalls}
use Rattle.prog_registry.specs.Kept.{plain}
use Rattle.prog_registry.proofs.Cached.{looked, kept_promoted, found_judged}
use Rattle.prog_registry.proofs.verdicts.Verdicts.recall.Goals as goal

pub returns-in_err-fault-clause-none : goal.returns-in_err-fault-clause-none
returns-in_err-fault-clause-none g c = rw c.from_residual.ensures (subst (λ (s : Recent). verdict_on s.verdicts c.args.image.now ≡ None) c.self.view_is
    (sym (looked c.args.image.now c.self.inside.cache.entries) ∙ (sym c.peek.ensures ∙ (sym c.copied.ensures ∙ c.in_err-fault.was))))

pub invariant_of-self : goal.invariant_of-self
invariant_of-self g c = (kept_promoted c.self.inside.cache c.promote.new.self c.args.image.now c.self.invariant c.promote.ensures.entries).0

pub returns-clause-some : goal.returns-clause-some
returns-clause-some g c = subst
    (λ (s : Recent). Recalls s c.args.image.now c.in_ok-fault.fault (record { verdicts = plain c.promote.new.self.entries; recalls = c.saturating_add-self-inside.result }))
    c.self.view_is
    (record {
      was = sym (looked c.args.image.now c.self.inside.cache.entries) ∙ (sym c.peek.ensures ∙ (sym c.copied.ensures ∙ c.in_ok-fault.was));
      first = (kept_promoted c.self.inside.cache c.promote.new.self c.args.image.now c.self.invariant c.promote.ensures.entries).1;
      counted = c.saturating_add-self-inside.ensures;
    })

pub returns-clause-judged : goal.returns-clause-judged
returns-clause-judged g c = found_judged (plain c.self.inside.cache.entries) c.args.image.now c.in_ok-fault.fault c.self.invariant.are
    (sym (looked c.args.image.now c.self.inside.cache.entries) ∙ (sym c.peek.ensures ∙ (sym c.copied.ensures ∙ c.in_ok-fault.was)))
