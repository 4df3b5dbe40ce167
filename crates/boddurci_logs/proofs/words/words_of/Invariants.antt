use Rattle.std.proofs.Common.{◌≡◌, ◌++◌, drop}
use Rattle.boddurci_logs.specs.Words.{words_of}
use Rattle.boddurci_logs.proofs.words.words_of.Given as goal

abbrev pub invariant-loop-index : goal.invariant-loop-index
invariant-loop-index l = l.words.items ++ words_of (drop l.index l.steps) ≡ words_of l.steps
