use Rattle.std.proofs.Common.{◌≡◌, drop}
use Rattle.byte_text.specs.Layouts.{fits}
use Rattle.byte_text.proofs.layouts.takes.Given as goal

abbrev pub invariant-loop-kind : goal.invariant-loop-kind
invariant-loop-kind l = fits l.kinds l.len ≡ fits (drop l.kind-index l.kinds) l.left
