use Rattle.std.proofs.Common.{◌∙◌, sym, subst}
use Rattle.std.proofs.lemmas.Bool.{true≢false}
use Rattle.std.specs.List.{All}
use Rattle.store_shared.specs.Closed.{Agrees, Covers, IsFirstApart}
use Rattle.store_shared.proofs.CloseLemmas.{strange_fault, apart_fault}
use Rattle.store_shared.proofs.close.close_fault.Goals as goal

pub returns-clause-none : goal.returns-clause-none
returns-clause-none g c =
    let e = c.as_slice-entries.ensures.value ∙ c.trail.ensures.entries in
    record {
      distinct = c.in_default.ensures.none.distinct;
      covers = subst (λ es. Covers es c.args.handed.now) e c.in_default-first_apart.ensures.covers;
      agree = subst (λ es. All (Agrees es) c.args.handed.now) e c.in_default-first_apart.ensures.agree;
      started = c.has_started_so.ensures.0 c.if-not-has_started_so.false;
    }

pub returns-in-Some-clause-some : goal.returns-in-Some-clause-some
returns-in-Some-clause-some g c = strange_fault c.args.desk.now c.args.made _ c.args.handed.now c.in-Some.fault c.in-Some.ensures.some

pub returns-in-Some-first_apart-clause-some : goal.returns-in-Some-first_apart-clause-some
returns-in-Some-first_apart-clause-some g c =
    let e = c.as_slice-entries.ensures.value ∙ c.trail.ensures.entries in
    apart_fault c.args.desk.now c.args.made _ c.args.handed.now c.in-Some-first_apart.fault c.in_default.ensures.none (subst (λ es. IsFirstApart es c.args.handed.now c.in-Some-first_apart.fault) e c.in-Some-first_apart.ensures.some)

pub returns-then-not-has_started_so-clause-some : goal.returns-then-not-has_started_so-clause-some
returns-then-not-has_started_so-clause-some g c =
    let e = c.as_slice-entries.ensures.value ∙ c.trail.ensures.entries in (
      c.in_default.ensures.none,
      (
        subst (λ es. Covers es c.args.handed.now) e c.in_default-first_apart.ensures.covers,
        (
          subst (λ es. All (Agrees es) c.args.handed.now) e c.in_default-first_apart.ensures.agree,
          λ started. true≢false (sym (c.has_started_so.ensures.1 started) ∙ c.if-not-has_started_so.true),
        ),
      ),
    )
