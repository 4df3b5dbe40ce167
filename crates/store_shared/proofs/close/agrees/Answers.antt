use Rattle.std.proofs.Common.{◌≡◌, ◌∙◌, sym, ap, subst, true, false, true≢false}
use Rattle.std.specs.Prelude.{◌==◌, Some}
use Rattle.std.proofs.lemmas.Bool.{eq-eqb, ne_eqb}
use Rattle.store_shared.specs.Closed.{calls_of}
use Rattle.store_shared.proofs.CloseLemmas.{calls_apart, calls_next, calls_skip, calls_whole}
use Rattle.store_shared.proofs.close.agrees.Goals as goal

pub returns-then-not-is_at : goal.returns-then-not-is_at
returns-then-not-is_at g c =
    let number = c.number-number.result in
    let made = c.entries-made.result.now in
    let its_own = subst (λ e. (e.session == number) ≡ true) c.entry-item.is (eq-eqb c.entry-item.result.session number (sym c.session.ensures ∙ c.if-session-number.false)) in
    let other = calls_apart number c.args.entries.now made c.loop-entry.entry-index c.loop-entry.at c.entry-item.result c.loop-entry-test.true c.loop-entry.invariant.within c.loop-entry.invariant.same its_own
    (λ here. true≢false (sym (c.is_at.ensures.1 (here ∙ ap Some (sym c.entry-item.is))) ∙ c.if-not-is_at.true)) in (
      λ yes. absurd (true≢false (sym yes)),
      λ same. absurd (other (ap (λ n. calls_of n c.args.entries.now) c.number-number.ensures ∙ (same ∙ sym c.entries-made.ensures))),
    )

pub loop-entry-preserved : goal.loop-entry-preserved
loop-entry-preserved g c =
    let number = c.number-number.result in
    let its_own = subst (λ e. (e.session == number) ≡ true) c.entry-item.is (eq-eqb c.entry-item.result.session number (sym c.session.ensures ∙ c.if-session-number.false)) in
    let next = calls_next number c.args.entries.now c.entries-made.result.now c.loop-entry.entry-index c.loop-entry.at c.entry-item.result c.loop-entry-test.true c.loop-entry.invariant.same its_own
    (c.is_at.ensures.0 c.if-not-is_at.false ∙ ap Some c.entry-item.is) in
    record { same = next.0; within = next.1 }

pub loop-entry-preserved-then-session-number : goal.loop-entry-preserved-then-session-number
loop-entry-preserved-then-session-number g c =
    let number = c.number-number.result in
    let not_its_own = subst (λ e. (e.session == number) ≡ false) c.entry-item.is (ne_eqb c.entry-item.result.session number (λ e. c.if-session-number.true (c.session.ensures ∙ e))) in
    record {
      same = calls_skip number c.args.entries.now c.loop-entry.entry-index c.entry-item.result c.loop-entry-test.true not_its_own ∙ c.loop-entry.invariant.same;
      within = c.loop-entry.invariant.within;
    }

pub returns : goal.returns
returns g c =
    let made = c.entries-made.result.now in
    let whole = calls_whole c.number-number.result c.args.entries.now made c.loop-entry.entry-index c.loop-entry.at c.loop-entry-test.false c.loop-entry.invariant.within c.loop-entry.invariant.same in
    let by_number = ap (λ n. calls_of n c.args.entries.now) c.number-number.ensures in
    (λ yes. sym by_number ∙ (whole.0 yes ∙ c.entries-made.ensures), λ same. whole.1 (by_number ∙ (same ∙ sym c.entries-made.ensures)))
