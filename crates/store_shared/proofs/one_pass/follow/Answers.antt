use Rattle.std.proofs.Common.{◌≡◌, ◌<◌, ◌∙◌, refl, sym, ap, subst, true, length, slice_index_or, Some}
use Rattle.std.specs.Prelude.{take, replicate}
use Rattle.std.proofs.lemmas.List.{take_all, length-set, length-replicate, get_or_default}
use Rattle.std.proofs.lemmas.Option.{slice_get-get_or}
use Rattle.std.proofs.lemmas.List.Elements.{All-more, All-nil}
use Rattle.std.specs.List.{slice_get}
use Rattle.store_shared.specs.Closed.{is_among, Covers, AreFollowed, IsNext}
use Rattle.store_shared.proofs.OnePass.{followed_none, followed_more, among}
use Rattle.store_shared.proofs.one_pass.follow.Goals as goal

pub loop-entry-init : goal.loop-entry-init
loop-entry-init g c =
    let zeros : c.in-Ok.counts.items ≡ replicate (length c.args.handed.now) 0 = c.in-Ok.ensures.items_if_clones_equal (λ y same. same) in
    record {
      followed = subst (AreFollowed (take 0 c.args.entries.now) c.args.handed.now) (sym zeros) (followed_none c.args.entries.now c.args.handed.now _ refl);
      covered = All-nil (λ e. is_among e.session c.args.handed.now ≡ true);
      long = ap length zeros ∙ length-replicate (length c.args.handed.now) 0;
    }

pub loop-entry-preserved : goal.loop-entry-preserved
loop-entry-preserved g c =
    let at = c.in_ok-at.field-0.now in
    let there : slice_get c.args.handed.now at ≡ Some c.index-handed-at.result = slice_get-get_or c.args.handed.now at c.index-handed-at.result c.if-at-handed.false ∙ ap Some (sym c.index-handed-at.is) in
    let next : IsNext c.index-handed-at.result (slice_index_or c.loop-entry.counts.items at 0) (slice_index_or c.args.entries.now c.loop-entry.entry-index c.entry-item.result) c.in-Some.next =
    subst (λ n. IsNext c.index-handed-at.result n (slice_index_or c.args.entries.now c.loop-entry.entry-index c.entry-item.result) c.in-Some.next) (c.index.ensures ∙ get_or_default c.loop-entry.counts.items at _ 0 (subst (λ n. at < n) (sym c.loop-entry.invariant.long) c.if-at-handed.false))
    (subst (λ e. IsNext c.index-handed-at.result c.index.result.now e c.in-Some.next) c.entry-item.is c.in-Some.ensures) in
    record {
      followed = followed_more c.args.entries.now c.args.handed.now c.loop-entry.counts.items c.loop-entry.entry-index at c.in-Some.next c.entry-item.result c.index-handed-at.result c.requires c.loop-entry-test.true c.loop-entry.invariant.long there next c.loop-entry.invariant.followed;
      covered = All-more (λ e. is_among e.session c.args.handed.now ≡ true) c.args.entries.now c.loop-entry.entry-index c.entry-item.result c.loop-entry-test.true c.loop-entry.invariant.covered
          (subst (λ e. is_among e.session c.args.handed.now ≡ true) c.entry-item.is (among c.args.handed.now at c.index-handed-at.result c.entry-item.result.session there c.in-Some.ensures.session_is));
      long = length-set c.loop-entry.counts.items at c.in-Some.next ∙ c.loop-entry.invariant.long;
    }

pub returns-clause-followed : goal.returns-clause-followed
returns-clause-followed g c = subst (λ es. AreFollowed es c.args.handed.now c.loop-entry.counts.items) (take_all c.loop-entry.entry-index c.args.entries.now c.loop-entry-test.false) c.loop-entry.invariant.followed

pub returns-clause-covers : goal.returns-clause-covers
returns-clause-covers g c = subst (λ es. Covers es c.args.handed.now) (take_all c.loop-entry.entry-index c.args.entries.now c.loop-entry-test.false) c.loop-entry.invariant.covered
