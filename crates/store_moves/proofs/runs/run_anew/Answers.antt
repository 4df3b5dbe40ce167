use Rattle.std.proofs.Common.{false, ◌∙◌}
use Rattle.bpf_helpers.specs.Runs.{Outcome, record_limit}
use Rattle.sdbm_files.proofs.SinkLemmas.{on_err}
use Rattle.store_moves.specs.Works.{pairs_lent}
use Rattle.store_moves.proofs.RunLemmas.{take_zeros, record_limit-le, Ends-told, saves_is, saves_not, anew_unsaved, anew_saved, anew_wants}
use Rattle.store_moves.proofs.runs.run_anew.Goals as goal

pub returns-then-ended-ne-SAVED-clause-ran : goal.returns-then-ended-ne-SAVED-clause-ran
returns-then-ended-ne-SAVED-clause-ran g c =
    let o : Outcome = record { code = c.run-ended.result.code; word = c.run-ended.result.word; bytes = c.run-ended.new.bytes; steps = c.run-ended.result.steps } in
    let ends = Ends-told c.args.input.now false _ _ c.env_of-env.result o (take_zeros c.args.len record_limit (record_limit-le c.args.site.size c.args.input.now.key.now c.args.len c.requires.small)) c.env_of-env.ensures c.run-ended.ensures.meaning in
    anew_unsaved g.row.A.Denot c.args.site (pairs_lent c.args.page) c.args.input.now c.args.len o ends c.run-ended.ensures.bound
    c.unchanged.result (saves_not o.code c.if-ended-ne-SAVED.true) (c.unchanged.ensures.reply ∙ c.ran.ensures) c.unchanged.ensures.change

pub returns-in_err-stored-clause-err : goal.returns-in_err-stored-clause-err
returns-in_err-stored-clause-err g c =
    let o : Outcome = record { code = c.run-ended.result.code; word = c.run-ended.result.word; bytes = c.run-ended.new.bytes; steps = c.run-ended.result.steps } in
    let ends = Ends-told c.args.input.now false _ _ c.env_of-env.result o (take_zeros c.args.len record_limit (record_limit-le c.args.site.size c.args.input.now.key.now c.args.len c.requires.small)) c.env_of-env.ensures c.run-ended.ensures.meaning in
    on_err _ c.from_residual.result (anew_wants g.row.A.Denot c.args.site (pairs_lent c.args.page) c.args.input.now c.args.len o ends c.run-ended.ensures.bound
    (saves_is o.code c.if-ended-ne-SAVED.false) c.requires.absent c.in_err-stored.ensures.err)

pub returns-clause-ran : goal.returns-clause-ran
returns-clause-ran g c =
    let o : Outcome = record { code = c.run-ended.result.code; word = c.run-ended.result.word; bytes = c.run-ended.new.bytes; steps = c.run-ended.result.steps } in
    let ends = Ends-told c.args.input.now false _ _ c.env_of-env.result o (take_zeros c.args.len record_limit (record_limit-le c.args.site.size c.args.input.now.key.now c.args.len c.requires.small)) c.env_of-env.ensures c.run-ended.ensures.meaning in
    anew_saved g.row.A.Denot c.args.site (pairs_lent c.args.page) c.args.input.now c.args.len o ends c.run-ended.ensures.bound
    c.as_ran.result c.in_ok-stored.stored c.ran-2.result (saves_is o.code c.if-ended-ne-SAVED.false) c.requires.absent c.ran-2.ensures c.in_ok-stored.ensures.worked c.as_ran.ensures
