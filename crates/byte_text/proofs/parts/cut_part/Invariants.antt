use Rattle.std.proofs.Common.{◌≡◌, false, take, drop}
use Rattle.byte_text.specs.Text.{onto, parts_of}
use Rattle.byte_text.proofs.parts.cut_part.Given as goal

abbrev pub invariant-loop-at : goal.invariant-loop-at
invariant-loop-at l = parts_of false l.text ≡ onto (take l.at l.text) (parts_of l.escape (drop l.at l.text))
