use Rattle.boddurci_c.specs.Turns.{AreBare}
use Rattle.boddurci_c.proofs.turns.next_page.Given as goal

-- no page before number has pairs
abbrev pub invariant-loop-number : goal.invariant-loop-number
invariant-loop-number l = AreBare l.image l.from l.number
