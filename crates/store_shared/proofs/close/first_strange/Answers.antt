use Rattle.std.proofs.Common.{◌≡◌, ◌∙◌, sym, subst, ◌<◌, false}
use Rattle.std.specs.Prelude.{take}
use Rattle.store_shared.specs.Closed.{is_among}
use Rattle.store_shared.proofs.CloseLemmas.{AreOwn-none, AreOwn-more}
use Rattle.store_shared.proofs.close.first_strange.Goals as goal

pub loop-at-init : goal.loop-at-init
loop-at-init g c = AreOwn-none c.args.made

pub loop-at-preserved : goal.loop-at-preserved
loop-at-preserved g c =
    let before = take c.loop-at.at c.args.handed.now in
    AreOwn-more c.args.made c.args.handed.now c.loop-at.at c.index-handed-at.result c.loop-at-test.true c.loop-at.invariant
    (subst (λ calls. calls.number < c.args.made) c.index-handed-at.is (subst (λ n. n < c.args.made) c.number-number.ensures c.if-number-made.false))
    (subst (λ calls. is_among calls.number before ≡ false) c.index-handed-at.is (subst (λ n. is_among n before ≡ false) c.number-number.ensures (sym c.is_among.ensures ∙ c.if-is_among.false)))
