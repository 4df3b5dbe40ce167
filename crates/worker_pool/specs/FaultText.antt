-- The text of a fault: its name, and its fields in parentheses.
use Rattle.std.specs.Prelude.{ℕ, List, ◌++◌, codes, decimal}
use Rattle.store_cmd.specs.declared.Refusal.{Refusal}
use Rattle.store_cmd.specs.declared.Refusal.TheVariants as refusals
use Rattle.worker_pool.specs.declared.task.PoolFault.{PoolFault}
use Rattle.worker_pool.specs.declared.task.PoolFault.TheVariants.{NoWorkers, NoProgram, NoSession, NoThread, Refused, NoMemory}

abbrev pub refusal_text : Refusal → List ℕ
refusal_text refusals.PairTooLarge = codes "PairTooLarge"
refusal_text refusals.ArgTooLong = codes "ArgTooLong"
refusal_text refusals.TrailFull = codes "TrailFull"
refusal_text refusals.NoMemory = codes "NoMemory"
refusal_text refusals.Strayed = codes "Strayed"

abbrev pub fault_text : PoolFault → List ℕ
fault_text NoWorkers = codes "NoWorkers"
fault_text (NoProgram task) = codes "NoProgram(" ++ (decimal task ++ codes ")")
fault_text NoSession = codes "NoSession"
fault_text (NoThread worker) = codes "NoThread(" ++ (decimal worker ++ codes ")")
fault_text (Refused task refusal) = codes "Refused(" ++ (decimal task ++ (codes ", " ++ (refusal_text refusal ++ codes ")")))
fault_text NoMemory = codes "NoMemory"
