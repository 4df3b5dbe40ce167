use Rattle.std.proofs.Common.{◌≡◌, ◌+◌, ◌∙◌, Option, Some, length, refl, sym, ap, rules}
use Rattle.sdbm_addr.specs.Pairs.{Pair}
use Rattle.dbm_dump.specs.Loading.{IsLoadStepFault}
use Rattle.dbm_dump.specs.Reading.{pair_list}
use Rattle.dbm_dump.proofs.MorePairs.{as_err, step_store_fault, stores_one}
use Rattle.dbm_dump.proofs.loading.take_line.Goals as goal

pub returns-in_err-image-in-Some-pair-clause-fault : goal.returns-in_err-image-in-Some-pair-clause-fault
returns-in_err-image-in-Some-pair-clause-fault c =
    let pair : c.in-Some.field-0.pair ≡ Some (c.in-Some-pair.key, c.in-Some-pair.value) = search rules in
    as_err (IsLoadStepFault c.args.mode c.args.loading c.args.line.now c.args.number) _ c.from_residual-in_err-image-in-Some-pair.ensures.1
    (step_store_fault c.args.mode c.args.loading c.args.line.now c.args.number c.in-Some.field-0 (c.in-Some-pair.key, c.in-Some-pair.value) _ (sym c.in_ok-stage.ensures ∙ c.in-Some.is) pair
    c.in_err-image-in-Some-pair.ensures.fault)

pub returns-in_ok-image-in-Some-pair-clause-ok : goal.returns-in_ok-image-in-Some-pair-clause-ok
returns-in_ok-image-in-Some-pair-clause-ok c =
    let pair : c.in-Some.field-0.pair ≡ Some (c.in-Some-pair.key, c.in-Some-pair.value) = search rules in
    record {
      next = c.in-Some.field-0;
      steps = sym c.in_ok-stage.ensures ∙ c.in-Some.is;
      stage_is = refl;
      stores = stores_one c.args.mode c.args.loading.image c.in_ok-image-in-Some-pair.image c.in-Some.field-0.pair (c.in-Some-pair.key, c.in-Some-pair.value) pair c.in_ok-image-in-Some-pair.ensures.ok;
      count_is = ap (λ (o : Option Pair). c.args.loading.count + length (pair_list o)) (sym pair);
      kind = c.in_ok-image-in-Some-pair.ensures.kept.0;
      size = c.in_ok-image-in-Some-pair.ensures.kept.1;
    }
