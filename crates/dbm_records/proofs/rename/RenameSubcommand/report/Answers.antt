use Rattle.std.proofs.Common.{◌≡◌, Some, not, ◌∙◌}
use Rattle.dbm_script.specs.Commands.{command_of_words}
use Rattle.dbm_reports.specs.Words.{word_asked}
use Rattle.dbm_records.specs.Commands.{store_words}
use Rattle.dbm_records.proofs.NewKeys.{gives_database, stores}
use Rattle.dbm_records.proofs.Values.{asked_by}
use Rattle.dbm_records.proofs.rename.RenameSubcommand.report.Goals as goal

pub rename-requires : goal.rename-requires
rename-requires g c =
    let n = c.args.notation.now in
    let self = c.args.self.now in
    let key = word_asked self.raw_key n self.key.now in
    let new = word_asked self.raw_key n self.new_key.now in
    let is : command_of_words n (store_words key new (not self.replace)) ≡ Some c.in_ok-image.command =
    asked_by n _ _ key _ new _ c.in_ok-image.command c.store_name-name.ensures (c.as_slice.ensures.value ∙ c.in_ok-key.ensures) (c.as_slice-2.ensures.value ∙ c.in_ok-new.ensures) c.in_ok-image.ensures.ok.1 in
    stores n key new (not self.replace) c.in_ok-image.command is

pub returns-clause-ok : goal.returns-clause-ok
returns-clause-ok g c = record {
  before = c.in_ok-image.image;
  opened = c.in_ok-image.ensures.ok.0;
  command = c.in_ok-image.command;
  is = asked_by c.args.notation.now _ _ _ _ _ _ c.in_ok-image.command c.store_name-name.ensures (c.as_slice.ensures.value ∙ c.in_ok-key.ensures) (c.as_slice-2.ensures.value ∙ c.in_ok-new.ensures) c.in_ok-image.ensures.ok.1;
  holds = c.in_ok-rename.ensures;
}

pub returns-clause-database : goal.returns-clause-database
returns-clause-database g c = gives_database c.args.notation.now c.in_ok-image.image c.in_ok-image.command _ c.in_ok-rename.ensures
