use Rattle.std.proofs.Common.{inl, inr, refl}
use Rattle.store_marks.specs.Marks.{AreAmong}
use Rattle.boddurci_c.proofs.Fitting.{is_plan, no_plan}
use Rattle.boddurci_c.proofs.Beside.{read_marked}
use Rattle.boddurci_c.proofs.plans.plan_of.Goals as goal

pub returns-in-Ok-Some-clause-ok : goal.returns-in-Ok-Some-clause-ok
returns-in-Ok-Some-clause-ok c = λ pag read.
    let among : AreAmong c.args.db.now.marks c.args.old.numbers.now = c.in-Ok-true.ensures.0 c.in-Ok-true.field-0-test in
    let made = rw c.in-Ok-Some.field-0-is at c.in-Ok-Some.ensures.plan in
    is_plan c.args.db.now.image c.in-Ok-Some.plan.items c.args.old.directory.now pag (made pag (read_marked c.args.db.now c.args.old among pag read))

pub returns-in-Ok-None-clause-ok : goal.returns-in-Ok-None-clause-ok
returns-in-Ok-None-clause-ok c = λ pag read.
    let among : AreAmong c.args.db.now.marks c.args.old.numbers.now = c.in-Ok-true.ensures.0 c.in-Ok-true.field-0-test in
    let none = rw c.in-Ok-None.field-0-is at c.in-Ok-None.ensures.none in
    no_plan c.args.db.now.image c.new.result.items c.args.old.directory.now pag c.new.ensures.items (none refl pag (read_marked c.args.db.now c.args.old among pag read))

pub returns-in-Err-TooLong-clause-err : goal.returns-in-Err-TooLong-clause-err
returns-in-Err-TooLong-clause-err c =
    let among : AreAmong c.args.db.now.marks c.args.old.numbers.now = c.in-Ok-true.ensures.0 c.in-Ok-true.field-0-test in
    inr (inl (
      refl,
      elim (c.in-Err-TooLong.ensures.too_long c.in-Err-TooLong.field-0-is) [ inl many ↦ inl many | inr long ↦ inr (λ pag read. long pag (read_marked c.args.db.now c.args.old among pag read)) ],
    ))
