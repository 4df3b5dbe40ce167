use Rattle.std.proofs.Common.{codes, List, ℕ, None, ap, subst, ◌∙◌}
use Rattle.std.specs.declared.alloc.Global.{Global}
use Rattle.store_cmd.specs.declared.Command.{Command}
use Rattle.dbm_script.proofs.Runs.{known_read}
use Rattle.dbm_reports.specs.Causes.{IsCaused}
use Rattle.dbm_reports.specs.Reports.{ChangesFiles}
use Rattle.dbm_reports.proofs.Faults.{as_err}
use Rattle.dbm_records.specs.Store.{input_store_causes, with_store_value, words_by}
use Rattle.dbm_records.proofs.Values.{asked_by, input_fault, means}
use Rattle.dbm_records.proofs.store.store_input.Goals as goal

pub returns-in_err-read_input-clause-fault : goal.returns-in_err-read_input-clause-fault
returns-in_err-read_input-clause-fault g c =
    let known = g.R.Read.remaining c.args.reader.now in
    let n = c.args.notation.now in
    let asks = asked_by n _ _ _ _ _ _ c.in_ok-image.command c.store_name-name.ensures (c.as_slice.ensures.value ∙ c.in_ok-key.ensures) c.as_slice-2.ensures c.in_ok-image.ensures.ok.1 in
    as_err (IsCaused (input_store_causes c.args.notation.now c.args.store.now c.args.given.now known)) _ c.from_residual-in_err-read_input.ensures.1
    (input_fault c.args.notation.now c.args.store.now c.args.given.now known _ (means n (words_by n c.args.store.now (codes ".")) c.in_ok-image.command asks, (c.in_ok-image.image, c.in_ok-image.ensures.ok.0)) c.in_err-read_input.ensures.fault)

pub returns-clause-ok : goal.returns-clause-ok
returns-clause-ok g c =
    let n = c.args.notation.now in
    let command = c.in_ok-image.command in
    let read : List ℕ = c.in_ok-read_input.field-0.items in
    record {
      before = c.in_ok-image.image;
      opened = c.in_ok-image.ensures.ok.0;
      command = command;
      is = asked_by n _ _ _ _ _ _ command c.store_name-name.ensures (c.as_slice.ensures.value ∙ c.in_ok-key.ensures) c.as_slice-2.ensures c.in_ok-image.ensures.ok.1;
      holds = known_read (g.R.Read.remaining c.args.reader.now) read (λ value. ChangesFiles n c.in_ok-image.image (with_store_value value command) None c.in_ok-change.field-0) c.in_ok-read_input.ensures.ok
          (subst (λ (asked : Command Global). ChangesFiles n c.in_ok-image.image asked None c.in_ok-change.field-0) (c.with_value-command.ensures ∙ ap (λ (value : List ℕ). with_store_value value command) c.new-value.ensures) c.in_ok-change.ensures);
    }
