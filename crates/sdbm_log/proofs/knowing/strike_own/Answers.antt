use Rattle.std.proofs.Common.{rules, ◌≡◌, inl, inr, ⊎_elim, ◌<◌, arith, below_more}
use Rattle.sdbm_saves.specs.Redo.{file_of, size_of}
use Rattle.sdbm_log.proofs.knowing.strike_own.Goals as goal

pub loop-index-preserved : goal.loop-index-preserved
loop-index-preserved c =
    let touches : file_of c.args.change.now ≡ c.args.file = search rules in
    let covered : c.loop-index.index < size_of c.args.change.now = omega (arith, c.loop-index-test.true, c.number-size.ensures.value) in
    record {
      kept = λ at is. c.loop-index.invariant.kept at (c.strike_place.ensures.only at is).0;
      so_far = λ at is. below_more _ _ (c.loop-index.invariant.so_far at (c.strike_place.ensures.only at is).0) (c.strike_place.ensures.only at is).1;
      rest = λ at was. ⊎_elim
          (λ now. ⊎_elim
          (λ still. inl still)
          (λ own. inr (record { touches = touches; index = c.loop-index.index; covered = covered; place = own.0; is = own.1 }))
          (c.strike_place.ensures.rest at now))
          (λ offers. inr offers)
          (c.loop-index.invariant.rest at was);
    }

pub returns-clause-only : goal.returns-clause-only
returns-clause-only c = λ at is. (
  c.loop-index.invariant.kept at is,
  λ offers. c.loop-index.invariant.so_far at is offers.index (omega (arith, c.loop-index-test.false, c.number-size.ensures.value, offers.covered)) offers.place offers.is,
)
