use Rattle.std.proofs.Common.{◌≡◌, below_more, refl, rules, arith, sym, subst, length, length-append, [], ◌∷◌}
use Rattle.bpf_verify.specs.Flats.{StandsFor}
use Rattle.bpf_verify.specs.Kinds.{AddsRow}
use Rattle.bpf_verify.specs.States.{state_at}
use Rattle.bpf_verify.specs.Visits.{Adds}
use Rattle.bpf_verify.proofs.Flattening.{one_more, all_stand, stands_still}
use Rattle.bpf_verify.proofs.Growing.{still, all_units}
use Rattle.bpf_verify.proofs.Rows.{one_row, row_counted}
use Rattle.bpf_verify.proofs.Stopping.{stopped}
use Rattle.bpf_verify.proofs.visits.pass_over.Goals as goal

pub loop-at-init : goal.loop-at-init
loop-at-init g c = record {
  units = c.units-units.ensures.value;
  are = c.in-Ok-begin.ensures.are;
  starts = c.in-Ok-begin.ensures.starts;
  keeps = c.in-Ok-begin.ensures.keeps c.args.all;
  each = λ p h. absurd (omega arith);
  long = search rules;
  room = search rules;
  stand = λ u h. let none : length c.reserve.new.self.items ≡ 0 = search rules in absurd (omega arith);
  counted = rw c.in-Ok-new.ensures.rows refl;
  rows_room = c.in-Ok-new.ensures.room;
  few = c.in-Ok-new.ensures.pool;
  rows = rw c.in-Ok-new.ensures.rows (λ u h. absurd (omega arith));
}

pub loop-at-preserved : goal.loop-at-preserved
loop-at-preserved g c =
    let i = c.loop-at.invariant in
    let k = c.in-Ok-visit.ensures.kinds in
    let k' = subst (λ n. AddsRow c.loop-at.kinds.pool.items c.visit.new.kinds.pool.items c.loop-at.kinds.rows.items c.visit.new.kinds.rows.items (state_at c.loop-at.pass.noted.states n)) (sym i.counted) k in
    let w : Adds c.args.code.now c.loop-at.pass.noted.states c.visit.new.pass.noted.states c.loop-at.at = c.in-Ok-visit.ensures.adds in
    record {
      units = i.units;
      are = w.are;
      starts = λ b a e k. w.grows.more _ (i.starts b a e k);
      keeps = c.visit.ensures.keeps;
      each = below_more _ _ (λ p l. still _ _ _ c.loop-at.at p w.grows (omega arith) (i.each p l)) c.in-Ok-visit.ensures.consistent;
      long = rw c.push_reserved.ensures.items (search rules);
      room = rw c.push_reserved.ensures.capacity i.room;
      stand = rw c.push_reserved.ensures.items (λ u h.
          one_more _ _ c.loop-at.flats.items c.in-Ok-visit.flat
          (λ v b. stands_still _ _ _ v _ (w.grows.same v (omega (arith, i.long))) (i.stand v b))
          (subst (λ n. StandsFor c.args.code.now c.visit.new.pass.noted.states n c.in-Ok-visit.flat) (sym i.long) c.in-Ok-visit.ensures.flat)
          u (omega (arith, length-append c.loop-at.flats.items (c.in-Ok-visit.flat ∷ []))));
      counted = rw (row_counted k) (omega (arith, i.counted));
      rows_room = rw c.in-Ok-visit.ensures.room i.rows_room;
      few = omega (arith, k.few, i.few);
      rows = one_row _ _ _ _ _ _ i.rows k' (λ u h. w.grows.same u (omega (arith, i.counted))) (row_counted k);
    }

pub returns-clause-verified : goal.returns-clause-verified
returns-clause-verified g c =
    let i = c.loop-at.invariant in
    record {
      long = i.are.long;
      begin = i.are.begin;
      starts = i.starts;
      each = all_units _ _ (λ p h. i.each p (omega (arith, i.units, i.are.long)));
    }

pub returns-clause-flats : goal.returns-clause-flats
returns-clause-flats g c = let i = c.loop-at.invariant in all_stand _ _ _ (search rules) i.stand

pub returns-clause-kinds : goal.returns-clause-kinds
returns-clause-kinds g c = let i = c.loop-at.invariant in rw c.shrink.ensures.pool (rw c.shrink.ensures.rows (record { long = omega (arith, i.counted, i.units, i.are.long); each = i.rows }))

pub returns-in-Err-clause-stopped : goal.returns-in-Err-clause-stopped
returns-in-Err-clause-stopped g c =
    let i = c.loop-at.invariant in
    λ all. rw (c.visit.ensures.keeps.whole all) (stopped _ c.loop-at.pass.noted.states c.visit.new.pass.noted.states c.loop-at.at c.in-Err.fault i.are i.starts i.each c.in-Err.ensures.stays)
