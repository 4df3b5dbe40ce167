use Rattle.std.proofs.Common.{rules, ◌≡◌, ◌-◌, ◌≤◌, List, ℕ, length, sym, ◌∙◌, subst}
use Rattle.sdbm_log.specs.Log.{records_of, end_in}
use Rattle.sdbm_log.proofs.Weights.{after_short, end_of}
use Rattle.sdbm_log.proofs.records.records_end.Goals as goal

pub overflow_sub-result : goal.overflow_sub-result
overflow_sub-result c =
    let log = c.records_of-log.result.now in
    subst (λ (l : List ℕ). length l ≤ length log) (sym c.after_records-rest.ensures) (after_short c.wholes.result log)

pub returns-clause-log : goal.returns-clause-log
returns-clause-log c = λ end place.
    let is : length c.records_of-log.result.now - length c.after_records-rest.result.now ≡ end_in (records_of c.args.redo.now) = search rules in
    is ∙ end_of end (records_of c.args.redo.now) place
