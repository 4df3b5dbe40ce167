use Rattle.std.proofs.Common.{subst}
use Rattle.store_marks.specs.Marks.{DifferOn}
use Rattle.store_marks.specs.Noted.{Notes}
use Rattle.store_marks.specs.declared.noted.Changes.{Changes}
use Rattle.store_marks.proofs.Marked.{differ_either}
use Rattle.store_marks.proofs.noted.act_noted.Goals as goal

pub returns-in-Pages-clause-notes : goal.returns-in-Pages-clause-notes
returns-in-Pages-clause-notes g c = λ base noted.
    let e = c.act_marked.ensures in
    differ_either c.act_marked.result base c.args.image.now c.act_marked.new.image _ c.act_marked.new.marks e.differ e.err e.kept
    (subst (λ (x : Changes). Notes x base c.args.image.now) c.in-Pages.is noted)
