-- Examples: the definition of the status on given endings.
use Rattle.std.proofs.Common.{◌≡◌, refl, sym}
use Rattle.dbm_tool.specs.Endings.{IsExitStatus}
use Rattle.dbm_tool.specs.declared.ending.Served.{Served as ServedRequest}
use Rattle.dbm_tool.specs.declared.ending.Ending.TheVariants.{Served, Failed}
use Rattle.dbm_messages.specs.declared.fault.ServeFault.TheVariants.{WriteFile}

pub missing_ends_with_1 : (served : ServedRequest) → served.status ≡ 1 → IsExitStatus (Served served) 1
missing_ends_with_1 served is = sym is

pub fault_ends_with_2 : IsExitStatus (Failed WriteFile) 2
fault_ends_with_2 = refl
