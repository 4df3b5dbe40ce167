use Rattle.std.proofs.Common.{◌≡◌, ◌⊎◌, ℕ, List, Option, get_or, inl, inr, ap, sym, subst, arith, below_more}
use Rattle.std.proofs.lemmas.List.{get_or_read}
use Rattle.std.specs.List.{Contains}
use Rattle.std.specs.Option.{option_map}
use Rattle.sdbm_addr.specs.Pairs.{Content}
use Rattle.sdbm_addr.specs.Database.{pairs_at}
use Rattle.sdbm_split.specs.declared.Plan.{Plan}
use Rattle.store_moves.specs.Works.{change_of}
use Rattle.store_marks.specs.Marks.{CoversChange, CoversTwins}
use Rattle.store_marks.proofs.Marked.{more_still, still}
use Rattle.store_marks.proofs.changes.mark_change.Goals as goal

pub loop-twin-preserved : goal.loop-twin-preserved
loop-twin-preserved g c =
    let new = c.add-in-loop-twin.new.self in
    let was = c.loop-twin.invariant in
    let more = c.in_ok-add-2.ensures.more in
    let items = c.as_slice-twin-items.result.now in
    let i = c.loop-twin.twin-index in
    record {
      more = more_still c.args.marks.now c.loop-twin.marks new was.more more;
      own = still c.loop-twin.marks new more c.args.number was.own;
      each = below_more (λ (k : ℕ). (d : ℕ × Content) → Contains new (get_or items k d).0 ⊎ ((get_or items k d).1.pairs ≡ pairs_at c.args.image.now (get_or items k d).0)) i
          (λ k low d. elim (was.each k low d) [ inl there ↦ inl (still c.loop-twin.marks new more (get_or items k d).0 there) | inr same ↦ inr same ])
          (λ d. inl (subst (λ (m : ℕ). Contains new m) (ap (λ (e : ℕ × Content). e.0) (get_or_read items i c.twin-item.result c.loop-twin-test.true c.twin-item.is d)) c.in_ok-add-2.ensures.ok));
    }

pub returns-clause-covers : goal.returns-clause-covers
returns-clause-covers g c =
    subst (λ (change : Option (Plan g.row.A.Denot)). CoversChange c.args.image.now c.args.number (option_map change_of change) c.loop-twin.marks) (sym c.in-Some.is)
    (c.loop-twin.invariant.own, subst (λ (twins : List (ℕ × Content)). CoversTwins c.args.image.now twins c.loop-twin.marks) c.as_slice-twin-items.ensures.value (λ k d low. c.loop-twin.invariant.each k (omega (arith, low, c.loop-twin-test.false)) d))
