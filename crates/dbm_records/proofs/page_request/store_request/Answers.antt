use Rattle.std.proofs.Common.{◌≡◌, ◌∙◌, Bool, sym, subst, rules}
use Rattle.dbm_records.specs.Store.{store_by}
use Rattle.dbm_records.proofs.Values.{asked_by}
use Rattle.dbm_records.proofs.page_request.store_request.Goals as goal

pub returns : goal.returns
returns c = λ file. record {
  keyed = c.has_key.ensures (search rules);
  same = λ given db report file_is opened told input.
      subst (λ (b : Bool). (store_by b c.args.notation.now c.args.store.now given input).reports report) (sym (sym c.takes_input.ensures ∙ c.if-takes_input.false))
      (record {
        before = db;
        opened = opened;
        command = c.in_ok-command.command;
        is = asked_by c.args.notation.now _ _ _ _ _ _ c.in_ok-command.command c.store_name-name.ensures (c.as_slice.ensures.value ∙ c.in_ok-key.ensures) (c.as_slice-2.ensures.value ∙ c.in_ok-value.ensures) c.in_ok-command.ensures.ok;
        holds = told;
      });
}
