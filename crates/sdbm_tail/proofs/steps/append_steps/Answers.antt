use Rattle.std.proofs.Common.{rules, ◌≡◌, ◌+◌, ◌++◌, ◌∙◌, ℕ, suc, List, length, ap, subst, sym, arith}
use Rattle.sdbm_saves.specs.Acts.{Act}
use Rattle.sdbm_log.specs.Doing.{Does}
use Rattle.sdbm_log.specs.Log.{record_of}
use Rattle.sdbm_log.specs.Saving.{CanTake}
use Rattle.sdbm_log.specs.Steps.{acts_of, with_head}
use Rattle.sdbm_tail.specs.Tail.{append_acts, HasTail, HoldsSome}
use Rattle.sdbm_tail.proofs.Tails.{append_does}
use Rattle.sdbm_tail.proofs.steps.append_steps.Goals as goal

pub returns-clause-calls : goal.returns-clause-calls
returns-clause-calls g c =
    let plan : List ℕ = c.args.plan.now in
    let bytes : List ℕ = with_head (record_of plan) in
    let long : length (record_of plan) ≡ 8 + length plan = omega arith in
    let buffer : c.push_record.new.bytes.items ≡ bytes = c.in_ok-push_record.ensures ∙ ap (λ (l : List ℕ). l ++ record_of plan) c.in_ok-bytes.ensures.items in
    ap (λ (l : List ℕ). acts_of l c.push_append.new.steps.items) buffer
    ∙ c.in_ok-push_append.ensures (record_of plan) long
    ∙ ap (λ l. acts_of bytes l ++ append_acts c.args.log.end (record_of plan)) c.new-steps.ensures.items

pub returns-clause-appends : goal.returns-clause-appends
returns-clause-appends g c = λ made synced unsynced seen n tail knows next.
    let plan : List ℕ = c.args.plan.now in
    let log = c.args.log in
    let takes : CanTake log plan = search rules in
    let sum : log.end + length (record_of plan) ≡ log.end + (8 + length plan) = omega arith in
    subst (λ (l : List Act). Does l seen (g.C.Crashes.may_leave n) (HoldsSome made (suc unsynced)) (HasTail made synced (suc unsynced) (log.end + (8 + length plan)) log.room (log.count + c.number.result))) (sym (returns-clause-calls g c))
    (subst (λ k. Does (append_acts log.end (record_of plan)) seen (g.C.Crashes.may_leave n) (HoldsSome made (suc unsynced)) (HasTail made synced (suc unsynced) k log.room (log.count + c.number.result))) sum
    (subst (λ k. Does (append_acts log.end (record_of plan)) seen (g.C.Crashes.may_leave n) (HoldsSome made (suc unsynced)) (HasTail made synced (suc unsynced) (log.end + length (record_of plan)) log.room (log.count + k))) (sym c.number.ensures.value)
    (append_does plan c.requires.plan (omega (arith, c.requires.short)) takes.growing made synced unsynced log.end log.room log.count seen (g.C.Crashes.may_leave n) tail knows next (omega (arith, takes.room)) takes.few)))
