use Rattle.std.proofs.Common.{◌≡◌, ◌∙◌, sym, ap, subst, List, None}
use Rattle.prog_registry.specs.Verdicts.{Verdict, Recent, verdict_on, with_verdict}
use Rattle.prog_registry.specs.Kept.{plain}
use Rattle.prog_registry.proofs.Outcomes.{on_ok}
use Rattle.prog_registry.proofs.Cached.{kept_put}
use Rattle.prog_registry.proofs.verdicts.Verdicts.keep.Goals as goal

pub invariant_of-self-2 : goal.invariant_of-self-2
invariant_of-self-2 g c = (kept_put c.self.inside.cache c.put.new.self c.in_ok-key.key c.args.image.now c.args.fault c.self.invariant c.in_ok-key.ensures.items
    (subst (λ (s : Recent). verdict_on s.verdicts c.args.image.now ≡ None) (sym c.self.view_is) c.requires.new) c.requires.judged
    (on_ok c.put.result _ c.put.ensures.entries (sym c.is_err.ensures.value ∙ c.if-is_err.false))).0

pub returns-clause-ok : goal.returns-clause-ok
returns-clause-ok g c =
    let put = kept_put c.self.inside.cache c.put.new.self c.in_ok-key.key c.args.image.now c.args.fault c.self.invariant c.in_ok-key.ensures.items
    (subst (λ (s : Recent). verdict_on s.verdicts c.args.image.now ≡ None) (sym c.self.view_is) c.requires.new) c.requires.judged
    (on_ok c.put.result _ c.put.ensures.entries (sym c.is_err.ensures.value ∙ c.if-is_err.false)) in
    subst (λ (s : Recent). record { verdicts = plain c.put.new.self.entries; recalls = c.self.inside.recalls } ≡ with_verdict s c.args.image.now c.args.fault) c.self.view_is
    (ap (λ (vs : List Verdict). let r : Recent = record { verdicts = vs; recalls = c.self.inside.recalls } in r) put.1)
