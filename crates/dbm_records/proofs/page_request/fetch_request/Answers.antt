use Rattle.std.proofs.Common.{◌≡◌, ◌∷◌, [], ◌∙◌, List, ℕ, codes, sym, ap, rules}
use Rattle.dbm_script.specs.Commands.{command_of_words}
use Rattle.dbm_records.proofs.page_request.fetch_request.Goals as goal

pub returns : goal.returns
returns c = λ file. record {
  keyed = c.has_key.ensures (search rules);
  same = λ given db report file_is opened told. record {
    before = db;
    opened = opened;
    command = c.in_ok-command.command;
    is = ap (λ (key : List ℕ). command_of_words c.args.notation.now (codes "fetch" ∷ (key ∷ []))) (sym (c.as_slice.ensures.value ∙ c.in_ok-key.ensures)) ∙ c.in_ok-command.ensures.ok;
    holds = told;
  };
}
