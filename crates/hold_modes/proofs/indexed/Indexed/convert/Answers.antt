use Rattle.std.proofs.Common.{◌≡◌, false, true, ap, sym, ◌∙◌, refl, subst, not}
use Rattle.hold_modes.specs.declared.modes.Hold.TheVariants.{Update, Exclusive}
use Rattle.hold_modes.specs.Held.{is_shared, without}
use Rattle.hold_modes.specs.Uses.{uses_of, uses_at, is_free, fewer, more, kept, Puts}
use Rattle.hold_modes.proofs.HeldLemmas.{obeys_rule-made}
use Rattle.hold_modes.proofs.UsesLemmas.{index-made, others-are, is-used, is-there, shared-is, updating-is}
use Rattle.hold_modes.proofs.indexed.Indexed.convert.Goals as goal

pub without-others-requires : goal.without-others-requires
without-others-requires g c =
    let hs = c.self.inside.taken in
    let held = updating-is c.args.ticket hs c.in-Some.page c.in-Some.field-0-1 (sym c.get.ensures ∙ c.in-Some.is) (rw c.self.view_is c.requires) in
    rw c.at.ensures (is-used c.self.inside.pages.uses hs c.self.invariant.1 c.args.ticket c.in-Some.page Update held)

pub returns-then-not-is_none-clause-busy : goal.returns-then-not-is_none-clause-busy
returns-then-not-is_none-clause-busy g c =
    let hs = c.self.inside.taken in
    let held = updating-is c.args.ticket hs c.in-Some.page c.in-Some.field-0-1 (sym c.get.ensures ∙ c.in-Some.is) (rw c.self.view_is c.requires) in
    let others : c.without-others.result ≡ uses_of c.in-Some.page (without c.args.ticket hs) = c.without-others.ensures ∙ (ap (fewer Update) c.at.ensures ∙ others-are c.self.inside.pages.uses hs c.self.invariant.1 c.args.ticket c.in-Some.page Update held) in
    let shared : is_shared c.args.ticket hs ≡ not c.is_none.result = shared-is c.args.ticket hs c.in-Some.page Update held c.self.invariant.0 ∙ ap not (sym (c.is_none.ensures ∙ ap is_free others)) in
    (λ _. rw (← c.self.view_is) (shared ∙ ap not c.if-not-is_none.true), λ _. refl)

pub change-requires : goal.change-requires
change-requires g c =
    let hs = c.self.inside.taken in
    let held = updating-is c.args.ticket hs c.in-Some.page c.in-Some.field-0-1 (sym c.get.ensures ∙ c.in-Some.is) (rw c.self.view_is c.requires) in
    rw (is-there c.self.inside.pages.uses hs c.self.invariant.1 c.args.ticket c.in-Some.page Update held) refl

pub invariant_of-self : goal.invariant_of-self
invariant_of-self g c =
    let hs = c.self.inside.taken in
    let held = updating-is c.args.ticket hs c.in-Some.page c.in-Some.field-0-1 (sym c.get.ensures ∙ c.in-Some.is) (rw c.self.view_is c.requires) in
    let others : c.without-others.result ≡ uses_of c.in-Some.page (without c.args.ticket hs) = c.without-others.ensures ∙ (ap (fewer Update) c.at.ensures ∙ others-are c.self.inside.pages.uses hs c.self.invariant.1 c.args.ticket c.in-Some.page Update held) in
    let shared : is_shared c.args.ticket hs ≡ not c.is_none.result = shared-is c.args.ticket hs c.in-Some.page Update held c.self.invariant.0 ∙ ap not (sym (c.is_none.ensures ∙ ap is_free others)) in
    let put : c.with.result ≡ more Exclusive (fewer Update (uses_at c.self.inside.pages.uses c.in-Some.page)) = c.with.ensures ∙ ap (more Exclusive) (c.without-others.ensures ∙ ap (fewer Update) c.at.ensures) in
    let puts = subst (λ u. Puts c.self.inside.pages.uses c.change.new.self.uses c.in-Some.page (kept u)) put c.change.ensures in
    let index = index-made c.self.inside.pages.uses hs c.self.invariant.1 c.args.ticket c.in-Some.page Update held c.change.new.self.uses puts in
    let rule = obeys_rule-made c.args.ticket hs c.self.invariant.0 (shared ∙ ap not c.if-not-is_none.false) in
    rw c.make_exclusive.ensures (rule, index)

pub returns-clause-busy : goal.returns-clause-busy
returns-clause-busy g c =
    let hs = c.self.inside.taken in
    let held = updating-is c.args.ticket hs c.in-Some.page c.in-Some.field-0-1 (sym c.get.ensures ∙ c.in-Some.is) (rw c.self.view_is c.requires) in
    let others : c.without-others.result ≡ uses_of c.in-Some.page (without c.args.ticket hs) = c.without-others.ensures ∙ (ap (fewer Update) c.at.ensures ∙ others-are c.self.inside.pages.uses hs c.self.invariant.1 c.args.ticket c.in-Some.page Update held) in
    let shared : is_shared c.args.ticket hs ≡ not c.is_none.result = shared-is c.args.ticket hs c.in-Some.page Update held c.self.invariant.0 ∙ ap not (sym (c.is_none.ensures ∙ ap is_free others)) in
    let no : is_shared c.args.ticket c.args.self.now ≡ false = rw (← c.self.view_is) (shared ∙ ap not c.if-not-is_none.false) in
    (λ z. absurd cc, λ y. absurd (let z : true ≡ false = sym y ∙ no in cc))

pub returns-clause-rule : goal.returns-clause-rule
returns-clause-rule g c =
    let hs = c.self.inside.taken in
    let held = updating-is c.args.ticket hs c.in-Some.page c.in-Some.field-0-1 (sym c.get.ensures ∙ c.in-Some.is) (rw c.self.view_is c.requires) in
    let others : c.without-others.result ≡ uses_of c.in-Some.page (without c.args.ticket hs) = c.without-others.ensures ∙ (ap (fewer Update) c.at.ensures ∙ others-are c.self.inside.pages.uses hs c.self.invariant.1 c.args.ticket c.in-Some.page Update held) in
    let shared : is_shared c.args.ticket hs ≡ not c.is_none.result = shared-is c.args.ticket hs c.in-Some.page Update held c.self.invariant.0 ∙ ap not (sym (c.is_none.ensures ∙ ap is_free others)) in
    rw c.make_exclusive.ensures (obeys_rule-made c.args.ticket hs c.self.invariant.0 (shared ∙ ap not c.if-not-is_none.false))
