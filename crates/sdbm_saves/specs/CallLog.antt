-- A `CallLog` as a list of calls.
use Rattle.std.specs.Prelude.{List, map}
use Rattle.sdbm_saves.specs.declared.call_log.Call.{Call}
use Rattle.sdbm_saves.specs.declared.call_log.Call.TheVariants.{Write, Resize, Sync, Clear}
use Rattle.sdbm_saves.specs.declared.call_log.CallLog.{CallLog}
use Rattle.sdbm_saves.specs.Acts.{Act, write, resize, sync, clear}

abbrev pub act_of : Call → Act
act_of (Write file at bytes) = write file at bytes.items
act_of (Resize file len) = resize file len
act_of (Sync file) = sync file
act_of Clear = clear

abbrev pub acts : CallLog → List Act
acts log = map act_of log.calls.items
