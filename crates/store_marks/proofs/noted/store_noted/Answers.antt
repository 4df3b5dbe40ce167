use Rattle.std.proofs.Common.{subst}
use Rattle.store_marks.specs.Marks.{DifferOn}
use Rattle.store_marks.specs.Noted.{Notes}
use Rattle.store_marks.specs.declared.noted.Changes.{Changes}
use Rattle.store_marks.proofs.Marked.{differ_unless}
use Rattle.store_marks.proofs.noted.store_noted.Goals as goal

pub returns-in-Any-clause-done : goal.returns-in-Any-clause-done
returns-in-Any-clause-done g c = λ is. c.act_store.ensures.done is 0

pub returns-in-Pages-clause-notes : goal.returns-in-Pages-clause-notes
returns-in-Pages-clause-notes g c = λ base noted.
    let e = c.store_there.ensures in
    differ_unless c.store_there.result base c.args.image.now c.store_there.new.image _ c.store_there.new.marks e.differ e.none e.kept
    (subst (λ (x : Changes). Notes x base c.args.image.now) c.in-Pages.is noted)
