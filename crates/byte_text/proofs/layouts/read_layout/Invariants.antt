use Rattle.std.proofs.Common.{◌≡◌, ◌++◌, List, length, option_map}
use Rattle.byte_text.specs.Text.{parts_left}
use Rattle.byte_text.specs.Layouts.{kinds_of, layout_of}
use Rattle.byte_text.specs.declared.layouts.Kind.{Kind}
use Rattle.byte_text.proofs.layouts.read_layout.Given as goal

abbrev pub invariant-loop-rest : goal.invariant-loop-rest
invariant-loop-rest g l = layout_of l.text ≡ option_map (λ (others : List Kind). l.kinds.items ++ others) (kinds_of (parts_left l.rest))

abbrev pub decreases-loop-rest : goal.decreases-loop-rest
decreases-loop-rest g l = length (parts_left l.rest)
