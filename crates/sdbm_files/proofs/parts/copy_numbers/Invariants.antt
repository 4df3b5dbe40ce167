use Rattle.std.proofs.Common.{◌≡◌, ◌++◌}
use Rattle.std.specs.HashMap.{keys}
use Rattle.sdbm_files.proofs.parts.copy_numbers.Given as goal

-- the numbers copied and those left make up all numbers
abbrev pub invariant-loop-number : goal.invariant-loop-number
invariant-loop-number g l =
    (goal.iterator-loop-number g).can_next l.number-iterator ×
    (goal.iterator-loop-number g).is_finite l.number-iterator ×
    (l.numbers.items ++ l.number-iterator ≡ keys l.pages)
