use Rattle.std.proofs.Common.{◌≡◌, ◌∙◌, ap, sym, subst, true}
use Rattle.std.proofs.lemmas.List.{take_all}
use Rattle.std.proofs.lemmas.List.Elements.{All-more}
use Rattle.store_shared.specs.Closed.{is_among, Covers}
use Rattle.store_shared.proofs.close.first_missing.Goals as goal

pub loop-entry-preserved : goal.loop-entry-preserved
loop-entry-preserved g c =
    All-more (λ e. is_among e.session c.args.handed.now ≡ true) c.args.entries.now c.loop-entry.entry-index c.entry-item.result c.loop-entry-test.true c.loop-entry.invariant
    (subst (λ e. is_among e.session c.args.handed.now ≡ true) c.entry-item.is (ap (λ n. is_among n c.args.handed.now) (sym c.session.ensures) ∙ (sym c.is_among.ensures ∙ c.if-not-is_among.false)))

pub returns-clause-none : goal.returns-clause-none
returns-clause-none g c = subst (λ es. Covers es c.args.handed.now) (take_all c.loop-entry.entry-index c.args.entries.now c.loop-entry-test.false) c.loop-entry.invariant
