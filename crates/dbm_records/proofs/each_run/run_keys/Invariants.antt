use Rattle.std.proofs.Common.{take}
use Rattle.dbm_records.specs.EachRuns.{RunsAll}
use Rattle.dbm_records.proofs.each_run.run_keys.Given as goal

-- the program ran for the first keys
abbrev pub invariant-loop-key : goal.invariant-loop-key
invariant-loop-key l = RunsAll l.registry.programs l.prog l.words l.fn.database (take l.key-index l.keys) l.image
