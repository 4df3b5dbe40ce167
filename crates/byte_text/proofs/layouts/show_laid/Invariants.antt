use Rattle.std.proofs.Common.{◌≡◌, ◌++◌, true, false, drop, length}
use Rattle.byte_text.specs.Layouts.{fits, laid}
use Rattle.byte_text.proofs.layouts.show_laid.Given as goal

abbrev pub invariant-loop-kind : goal.invariant-loop-kind
invariant-loop-kind g l = record {
  fit : fits (drop l.kind-index l.kinds) (length l.left) ≡ true;
  shown : l.text.items ++ laid l.behind (drop l.kind-index l.kinds) l.left ≡ l.fn.text.items ++ laid false l.kinds l.bytes;
}
