use Rattle.std.proofs.Common.{sym, ◌∙◌}
use Rattle.dbm_reports.specs.Causes.{IsCaused, opening_causes}
use Rattle.dbm_reports.proofs.Faults.{as_err, shut_fault}
use Rattle.dbm_reports.proofs.databases.open.Goals as goal

pub returns-in_err-image-clause-fault : goal.returns-in_err-image-clause-fault
returns-in_err-image-clause-fault c =
    as_err (IsCaused (opening_causes c.args.form c.args.given.now)) _ c.from_residual.ensures.1
    (shut_fault c.args.form c.args.given.now _ _ _ _ c.key_bytes_of-kind.ensures c.page_size_of-size.ensures c.as_slice.ensures.value c.in_err-image.ensures.fault)

pub returns-clause-ok : goal.returns-clause-ok
returns-clause-ok c =
    let dir = c.as_slice.ensures.value in
    record {
      spells = rw (sym dir) c.in_ok-image.ensures.database;
      kind = c.in_ok-image.ensures.kind ∙ c.key_bytes_of-kind.ensures;
      size = c.in_ok-image.ensures.size ∙ c.page_size_of-size.ensures;
      only = λ other kind size spells. c.in_ok-image.ensures.only other (kind ∙ sym c.key_bytes_of-kind.ensures) (size ∙ sym c.page_size_of-size.ensures) (rw dir spells);
    }
