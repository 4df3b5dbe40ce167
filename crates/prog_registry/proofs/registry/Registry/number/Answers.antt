use Rattle.std.proofs.Common.{refl, ◌∙◌, ap, subst, inl, IfOk, IfErr}
use Rattle.prog_registry.specs.Verdicts.{Recent}
use Rattle.prog_registry.specs.Registry.{Registered, GivesNumber, RefusesImage, RecallsIn}
use Rattle.prog_registry.specs.Programs.{IsNew}
use Rattle.prog_registry.proofs.registry.Registry.number.Goals as goal

pub returns-in-Some-clause-ok : goal.returns-in-Some-clause-ok
returns-in-Some-clause-ok g c = inl (rw (← c.self.view_is) c.in-Some.ensures.some, refl)

pub returns-in-Some-clause-programs : goal.returns-in-Some-clause-programs
returns-in-Some-clause-programs g c = rw (← c.self.view_is) c.find.ensures.programs

pub returns-in-Some-recall-clause-programs : goal.returns-in-Some-recall-clause-programs
returns-in-Some-recall-clause-programs g c = rw (← c.self.view_is) c.find.ensures.programs

pub returns-in_err-program-clause-programs : goal.returns-in_err-program-clause-programs
returns-in_err-program-clause-programs g c = rw (← c.self.view_is) c.find.ensures.programs

pub returns-clause-programs : goal.returns-clause-programs
returns-clause-programs g c = rw (← c.self.view_is) c.find.ensures.programs

pub returns-in-Some-recall-clause-err : goal.returns-in-Some-recall-clause-err
returns-in-Some-recall-clause-err g c = (
  subst (λ (s : Registered). IsNew s.programs c.args.image.now) c.self.view_is c.in_default.ensures.none,
  (
    c.in-Some-recall.ensures.judged,
    inl (subst (λ (s : Registered). RecallsIn s c.args.image.now c.in-Some-recall.fault (record { programs = c.self.inside.programs; recent = c.recall.new.self })) c.self.view_is
        (record { programs = refl; recent = c.in-Some-recall.ensures.some })),
  ),
)

pub judge_new-requires : goal.judge_new-requires
judge_new-requires g c = record {
  is_new = c.in_default.ensures.none;
  unjudged = rw c.in_default-recall.ensures.same c.in_default-recall.ensures.none;
}

pub enlist-requires-clause-unheard : goal.enlist-requires-clause-unheard
enlist-requires-clause-unheard g c = rw c.in_ok-program.ensures.same record {
  is_new = c.in_default.ensures.none;
  unjudged = rw c.in_default-recall.ensures.same c.in_default-recall.ensures.none;
}

pub returns-clause-ok : goal.returns-clause-ok
returns-clause-ok g c = subst (λ (s : Registered). IfOk c.enlist.result (λ id. GivesNumber s c.args.image.now id.0 c.enlist.new.self))
    (c.in_ok-program.ensures.same ∙ ap (λ (v : Recent). let r : Registered = record { programs = c.self.inside.programs; recent = v } in r) c.in_default-recall.ensures.same ∙ c.self.view_is)
    c.enlist.ensures.ok

pub returns-clause-err : goal.returns-clause-err
returns-clause-err g c = subst (λ (s : Registered). IfErr c.enlist.result (λ fault. RefusesImage s c.args.image.now fault c.enlist.new.self))
    (c.in_ok-program.ensures.same ∙ ap (λ (v : Recent). let r : Registered = record { programs = c.self.inside.programs; recent = v } in r) c.in_default-recall.ensures.same ∙ c.self.view_is)
    c.enlist.ensures.err
