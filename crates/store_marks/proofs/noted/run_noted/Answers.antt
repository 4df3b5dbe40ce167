use Rattle.std.proofs.Common.{subst}
use Rattle.store_marks.specs.Marks.{DifferOn}
use Rattle.store_marks.specs.Noted.{Notes}
use Rattle.store_marks.specs.declared.noted.Changes.{Changes}
use Rattle.store_marks.proofs.Marked.{differ_if_some}
use Rattle.store_marks.proofs.noted.run_noted.Goals as goal

pub returns-in-Pages-clause-notes : goal.returns-in-Pages-clause-notes
returns-in-Pages-clause-notes g c = λ base noted.
    let e = c.run_marked.ensures in
    differ_if_some c.run_marked.result base c.args.image.now c.run_marked.new.image _ c.run_marked.new.marks e.differ e.none e.kept
    (subst (λ (x : Changes). Notes x base c.args.image.now) c.in-Pages.is noted)
