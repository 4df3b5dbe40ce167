use Rattle.std.proofs.Common.{◌≡◌, ◌<◌, ◌≤◌, ◌+◌, ◌-◌, ⊎_elim, length, take, drop, get_or, sym, ◌∙◌, ap, arith}
use Rattle.std.proofs.lemmas.List.{get_or-take, get_or-drop}
use Rattle.std.proofs.lemmas.Bool.{cases_lt}
use Rattle.sdbm_saves.proofs.Drafts.{length_part}
use Rattle.sdbm_saves.proofs.spans.with_part.Goals as goal

pub returns-then-reads_as : goal.returns-then-reads_as
returns-then-reads_as c =
    let block = c.args.block.now in
    let known = c.args.known.now in
    let at = c.args.at in
    let stop = c.min-stop.result in
    let part = take (stop - at) (drop at block) in
    let outside = c.requires.outside in
    let inside : at + (stop - at) ≤ length block = omega (arith, c.min-stop.ensures, c.requires.inside) in
    record {
      before = outside.before;
      after = λ i le lt inside_block. ⊎_elim
          (λ earlier. outside.after i le earlier inside_block)
          (λ later.
          let on : at + (i - at) ≡ i = omega (arith, later) in
          let below : i - at < stop - at = omega (arith, later, lt, inside_block, c.min-stop.ensures, c.requires.inside) in
          sym (get_or-take (stop - at) (drop at block) (i - at) 0 below ∙ get_or-drop at block (i - at) 0 ∙ ap (λ k. get_or block k 0) on)
          ∙ c.reads_as.ensures.0 c.if-reads_as.true (i - at) (omega (arith, below, length_part at (stop - at) block inside))
          ∙ ap (λ k. get_or known k 0) on)
          (cases_lt i at);
      inside = outside.inside;
    }
