use Rattle.std.proofs.Common.{◌&&◌, Bool, cond, true, false, is_some, Option, ap, sym, ◌∙◌, subst, refl}
use Rattle.std.specs.List.{list_any}
use Rattle.sdbm_addr.specs.Database.{pairs_at}
use Rattle.sdbm_split.specs.Planned.{PageChange}
use Rattle.hold_modes.specs.declared.modes.Hold.TheVariants.{Exclusive}
use Rattle.hold_modes.specs.Held.{bars}
use Rattle.desk_core.specs.declared.AskFault.{AskFault}
use Rattle.desk_core.specs.declared.AskFault.TheVariants.{Busy, NoMemory}
use Rattle.store_moves.specs.Worked.{is_change}
use Rattle.store_moves.specs.Works.{change_of}
use Rattle.desk_core.specs.Calls.{IsStepFault}
use Rattle.desk_core.proofs.Ties.{keyed_may, may_first, some_mapped}
use Rattle.store_moves.proofs.WorkLemmas.{works_change}
use Rattle.desk_core.proofs.Doing.{step_refused, memory_refused}
use Rattle.desk_core.proofs.Desk.step_by_plan.Goals as goal

pub returns-in_default-clause-refused : goal.returns-in_default-clause-refused
returns-in_default-clause-refused g c =
    let s = c.args.self.now in
    let place = c.args.wanted.place in
    let keyed = keyed_may c.args.command c.args.wanted.mode (may_first c.args.command c.args.wanted.mode c.requires.mode) in
    let change = works_change place s.database.kind s.database.size (pairs_at s.database place.page) c.args.session c.args.command c.in_default.ensures.err in
    let fault = c.refusal.ensures ∙ ap (λ (b : Bool). cond (b && list_any (bars place.page Exclusive) s.holds) Busy NoMemory) c.is_change.ensures in
    subst (λ (fault : AskFault). IsStepFault s c.args.session c.args.command fault) (sym fault)
    (memory_refused s c.args.session c.args.command place c.work_there.ensures.sound c.requires.may keyed c.requires.place change (is_change c.args.command && list_any (bars place.page Exclusive) s.holds) refl)

pub returns-then-is_in_the_way-clause-refused : goal.returns-then-is_in_the_way-clause-refused
returns-then-is_in_the_way-clause-refused g c =
    let keyed = keyed_may c.args.command c.args.wanted.mode (may_first c.args.command c.args.wanted.mode c.requires.mode) in
    let changes = c.is_some.ensures ∙ sym (some_mapped change_of c.in-Ok.worked.change) ∙ ap (λ (x : Option PageChange). is_some x) c.in-Ok.ensures.worked.change in
    step_refused c.args.self.now c.args.session c.args.command c.args.wanted.place c.work_there.ensures.sound c.requires.may keyed c.requires.place c.is_some.result changes true (sym c.is_in_the_way.ensures ∙ c.if-is_in_the_way.true)

pub returns-in-Err-clause-refused : goal.returns-in-Err-clause-refused
returns-in-Err-clause-refused g c =
    let keyed = keyed_may c.args.command c.args.wanted.mode (may_first c.args.command c.args.wanted.mode c.requires.mode) in
    let changes = c.is_some.ensures ∙ sym (some_mapped change_of c.in-Ok.worked.change) ∙ ap (λ (x : Option PageChange). is_some x) c.in-Ok.ensures.worked.change in
    step_refused c.args.self.now c.args.session c.args.command c.args.wanted.place c.work_there.ensures.sound c.requires.may keyed c.requires.place c.is_some.result changes false (sym c.is_in_the_way.ensures ∙ c.if-is_in_the_way.false)
