use Rattle.std.proofs.Common.{◌∙◌, ap, sym, ◌++◌, take, rules}
use Rattle.std.proofs.Math.Seq.{take-add}
use Rattle.std.proofs.lemmas.List.{take_rest}
use Rattle.byte_text.proofs.Written.{Appends-Appends}
use Rattle.byte_text.proofs.writing.write_all.Goals as goal

pub loop-done-preserved : goal.loop-done-preserved
loop-done-preserved g c = record {
  within = search rules;
  written = let a = c.in-Ok.ensures.bytes in Appends-Appends _ _ _ _ _ _ c.loop-done.invariant.written a
      (take-add c.loop-done.done c.in-Ok.count c.args.text.now ∙ ap (λ xs. take c.loop-done.done c.args.text.now ++ take c.in-Ok.count xs) (sym (take_rest c.args.text.now c.loop-done.done)));
}
