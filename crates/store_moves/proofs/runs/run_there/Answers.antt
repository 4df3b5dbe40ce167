use Rattle.std.proofs.Common.{true, refl, ◌∙◌, subst}
use Rattle.sdbm_addr.specs.Pairs.{Content}
use Rattle.bpf_helpers.specs.Runs.{Outcome}
use Rattle.store_moves.specs.Worked.{IsRunAt}
use Rattle.store_moves.proofs.RunLemmas.{Ends-told, saves_is, saves_not, removes_is, removes_not, run_saved, run_removed, run_left}
use Rattle.store_moves.proofs.runs.run_there.Goals as goal

pub returns-then-ended-eq-SAVED : goal.returns-then-ended-eq-SAVED
returns-then-ended-eq-SAVED g c =
    let o : Outcome = record { code = c.run-ended.result.code; word = c.run-ended.result.word; bytes = c.run-ended.new.bytes; steps = c.run-ended.result.steps } in
    let ends = Ends-told c.args.input.now true _ _ c.env_of-env.result o c.record_mut.ensures.value c.env_of-env.ensures c.run-ended.ensures.meaning in
    subst (λ (p : Content). IsRunAt p c.args.i c.args.input.now c.changed.result) c.in_ok-made.ensures
    (run_saved g.row.A.Denot c.in_ok-made.made c.args.i c.args.input.now o ends c.run-ended.ensures.bound c.changed.result c.in_ok-leaf.leaf _ (saves_is _ c.if-ended-eq-SAVED.true) c.in_ok-leaf.ensures
    (c.changed.ensures.reply ∙ c.ran.ensures) c.changed.ensures.change)

pub returns-then-ended-eq-REMOVED : goal.returns-then-ended-eq-REMOVED
returns-then-ended-eq-REMOVED g c =
    let o : Outcome = record { code = c.run-ended.result.code; word = c.run-ended.result.word; bytes = c.run-ended.new.bytes; steps = c.run-ended.result.steps } in
    let ends = Ends-told c.args.input.now true _ _ c.env_of-env.result o c.record_mut.ensures.value c.env_of-env.ensures c.run-ended.ensures.meaning in
    subst (λ (p : Content). IsRunAt p c.args.i c.args.input.now c.changed-then-ended-eq-REMOVED.result) c.in_ok-made.ensures
    (run_removed g.row.A.Denot c.in_ok-made.made c.args.i c.args.input.now o ends c.run-ended.ensures.bound c.changed-then-ended-eq-REMOVED.result _ c.in_ok-leaf-2.leaf _ (saves_not _ c.if-ended-eq-SAVED.false)
    (removes_is _ c.if-ended-eq-REMOVED.true) refl (c.in_ok-leaf-2.ensures ∙ c.remove.ensures) (c.changed-then-ended-eq-REMOVED.ensures.reply ∙ c.ran-then-ended-eq-REMOVED.ensures) c.changed-then-ended-eq-REMOVED.ensures.change)

pub returns : goal.returns
returns g c =
    let o : Outcome = record { code = c.run-ended.result.code; word = c.run-ended.result.word; bytes = c.run-ended.new.bytes; steps = c.run-ended.result.steps } in
    let ends = Ends-told c.args.input.now true _ _ c.env_of-env.result o c.record_mut.ensures.value c.env_of-env.ensures c.run-ended.ensures.meaning in
    subst (λ (p : Content). IsRunAt p c.args.i c.args.input.now c.unchanged.result) c.in_ok-made.ensures
    (run_left g.row.A.Denot c.in_ok-made.made c.args.i c.args.input.now o ends c.run-ended.ensures.bound c.unchanged.result (saves_not _ c.if-ended-eq-SAVED.false) (removes_not _ c.if-ended-eq-REMOVED.false)
    (c.unchanged.ensures.reply ∙ c.ran-2.ensures) c.unchanged.ensures.change)
