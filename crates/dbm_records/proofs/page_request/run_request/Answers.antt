use Rattle.std.proofs.Common.{◌≡◌, ◌∙◌, List, ℕ, sym, subst}
use Rattle.dbm_reports.specs.Reports.{IsFileImage}
use Rattle.dbm_records.specs.Run.{texts_by}
use Rattle.dbm_records.specs.Running.{AreRunWords}
use Rattle.dbm_records.proofs.page_request.run_request.Goals as goal

pub returns : goal.returns
returns c = record {
  keyed = tt;
  same = λ given db report file_is opened told. record {
    before = db;
    opened = opened;
    words = c.in_ok-words.words;
    expect = c.in_ok-words.expect;
    are = subst (λ (key : List ℕ). AreRunWords c.args.notation.now (texts_by key c.args.run.now) c.in_ok-words.words c.in_ok-words.expect) (c.as_slice.ensures.value ∙ c.in_ok-key.ensures) c.in_ok-words.ensures.ok;
    image = c.in_ok-program.program.items;
    image_is = subst (λ (file : List ℕ). IsFileImage c.args.run.now.image file c.in_ok-program.program.items) (sym file_is) c.in_ok-program.ensures.ok;
    runs = told;
  };
}
