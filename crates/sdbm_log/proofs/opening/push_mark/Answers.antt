use Rattle.std.proofs.Common.{◌++◌, ◌∙◌, ap, sym, List}
use Rattle.sdbm_saves.specs.Acts.{Act}
use Rattle.sdbm_log.specs.Steps.{acts_of}
use Rattle.sdbm_log.proofs.Opens.{marked_close}
use Rattle.sdbm_log.proofs.Results.{ok_by}
use Rattle.sdbm_log.proofs.opening.push_mark.Goals as goal

pub returns : goal.returns
returns c = ok_by c.push_close.result _ _
    (λ is bytes. is bytes ∙ ap (λ (l : List Act). acts_of bytes c.args.steps.now.items ++ l) (sym (marked_close c.args.redo.now (sym c.byte_at.ensures ∙ c.if-byte_at-ne1.false))))
    c.push_close.ensures
