use Rattle.std.proofs.Common.{◌≡◌, IfErr, IfOk, false, rules, true}
use Rattle.dbm_reports.specs.Causes.{IsCaused}
use Rattle.dbm_records.specs.Store.{takes_input}
use Rattle.dbm_records.proofs.Values.{known_by}
use Rattle.dbm_records.proofs.store.StoreSubcommand.report.Goals as goal

pub returns-then-takes_input-clause-ok : goal.returns-then-takes_input-clause-ok
returns-then-takes_input-clause-ok g c =
    let is : takes_input c.args.self.now ≡ true = search rules in
    known_by true c.args.notation.now c.args.self.now c.args.given.now (g.R.Read.remaining c.args.reader.now) (λ known. IfOk c.store_input.result known.reports) is c.store_input.ensures.ok

pub returns-then-takes_input-clause-fault : goal.returns-then-takes_input-clause-fault
returns-then-takes_input-clause-fault g c =
    let is : takes_input c.args.self.now ≡ true = search rules in
    known_by true c.args.notation.now c.args.self.now c.args.given.now (g.R.Read.remaining c.args.reader.now) (λ known. IfErr c.store_input.result (IsCaused known.causes)) is c.store_input.ensures.fault

pub returns-clause-ok : goal.returns-clause-ok
returns-clause-ok g c =
    let is : takes_input c.args.self.now ≡ false = search rules in
    known_by false c.args.notation.now c.args.self.now c.args.given.now (g.R.Read.remaining c.args.reader.now) (λ known. IfOk c.store_word.result known.reports) is c.store_word.ensures.ok

pub returns-clause-fault : goal.returns-clause-fault
returns-clause-fault g c =
    let is : takes_input c.args.self.now ≡ false = search rules in
    known_by false c.args.notation.now c.args.self.now c.args.given.now (g.R.Read.remaining c.args.reader.now) (λ known. IfErr c.store_word.result (IsCaused known.causes)) is c.store_word.ensures.fault
