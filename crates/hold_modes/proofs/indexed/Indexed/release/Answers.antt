use Rattle.std.proofs.Common.{◌≡◌, ap, sym, ◌∙◌, refl, subst}
use Rattle.hold_modes.specs.Uses.{uses_at, fewer, kept, Puts}
use Rattle.hold_modes.proofs.HeldLemmas.{obeys_rule-without}
use Rattle.hold_modes.proofs.UsesLemmas.{index-without, is-used, is-there, without-none}
use Rattle.hold_modes.proofs.indexed.Indexed.release.Goals as goal

pub invariant_of-self : goal.invariant_of-self
invariant_of-self g c =
    let hs = c.self.inside.taken in
    let same : c.remove.new.self ≡ hs = c.remove.ensures.rest ∙ without-none c.args.ticket hs (sym c.remove.ensures.value ∙ c.in_err-page.was) in
    rw same c.self.invariant

pub returns-in_err-page-clause-rule : goal.returns-in_err-page-clause-rule
returns-in_err-page-clause-rule g c =
    let hs = c.self.inside.taken in
    let same : c.remove.new.self ≡ hs = c.remove.ensures.rest ∙ without-none c.args.ticket hs (sym c.remove.ensures.value ∙ c.in_err-page.was) in
    rw same c.self.invariant.0

pub without-others-requires : goal.without-others-requires
without-others-requires g c =
    let hs = c.self.inside.taken in
    let held = sym c.remove.ensures.value ∙ c.in_ok-page.was in
    rw c.at.ensures (is-used c.self.inside.pages.uses hs c.self.invariant.1 c.args.ticket c.in_ok-page.page c.in_ok-page.mode held)

pub change-requires : goal.change-requires
change-requires g c =
    let hs = c.self.inside.taken in
    let held = sym c.remove.ensures.value ∙ c.in_ok-page.was in
    rw (is-there c.self.inside.pages.uses hs c.self.invariant.1 c.args.ticket c.in_ok-page.page c.in_ok-page.mode held) refl

pub invariant_of-self-2 : goal.invariant_of-self-2
invariant_of-self-2 g c =
    let hs = c.self.inside.taken in
    let held = sym c.remove.ensures.value ∙ c.in_ok-page.was in
    let put : c.without-others.result ≡ fewer c.in_ok-page.mode (uses_at c.self.inside.pages.uses c.in_ok-page.page) = c.without-others.ensures ∙ ap (fewer c.in_ok-page.mode) c.at.ensures in
    let puts = subst (λ u. Puts c.self.inside.pages.uses c.change.new.self.uses c.in_ok-page.page (kept u)) put c.change.ensures in
    let index = index-without c.self.inside.pages.uses hs c.self.invariant.1 c.args.ticket c.in_ok-page.page c.in_ok-page.mode held c.change.new.self.uses puts in
    rw c.remove.ensures.rest (obeys_rule-without c.args.ticket hs c.self.invariant.0, index)

pub returns-clause-rule : goal.returns-clause-rule
returns-clause-rule g c =
    let hs = c.self.inside.taken in
    let held = sym c.remove.ensures.value ∙ c.in_ok-page.was in
    rw c.remove.ensures.rest (obeys_rule-without c.args.ticket hs c.self.invariant.0)
