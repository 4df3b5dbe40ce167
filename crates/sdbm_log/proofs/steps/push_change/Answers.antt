use Rattle.std.proofs.Common.{◌∷◌, [], ◌++◌, ℕ, List, ◌∙◌, ap, take, drop, ◌+◌}
use Rattle.sdbm_saves.specs.Acts.{Act, write}
use Rattle.sdbm_saves.specs.Redo.{file_of, offset_of}
use Rattle.sdbm_log.specs.Steps.{acts_of}
use Rattle.sdbm_log.proofs.Stepping.{acts_append, change_in}
use Rattle.sdbm_log.proofs.steps.push_change.Goals as goal

pub returns-in-Ok : goal.returns-in-Ok
returns-in-Ok c = λ bytes is.
    let change = c.args.change.now in
    ap (λ l. acts_of bytes l) c.in-Ok.ensures.items
    ∙ acts_append bytes c.args.steps.now.items _
    ∙ ap (λ (l : List Act). acts_of bytes c.args.steps.now.items ++ l) (
    (λ i. write (c.file_of.ensures i) (c.number.ensures.value i) (take (c.number-2.ensures.value i) (drop (c.args.from + 9) bytes)) ∷ [])
    ∙ ap (λ (l : List ℕ). write (file_of change) (offset_of change) l ∷ []) (change_in bytes change c.args.from is))
