use Rattle.std.proofs.Common.{◌≡◌, ◌*◌, length}
use Rattle.sdbm_saves.specs.Disk.{Through}
use Rattle.sdbm_saves.specs.Redo.{files, StaysUnmarked}
use Rattle.sdbm_logged.proofs.room.fill.Given as goal

abbrev pub invariant-loop-index : goal.invariant-loop-index
invariant-loop-index g l = record {
  long : length (g.D.Disk.seen l.disk).redo ≡ l.blocks * 4096;
  same : files (g.D.Disk.seen l.disk) ≡ files (g.D.Disk.seen l.fn.disk);
  so_far : Through g.D.Disk.moment g.D.Disk.left_since g.D.Disk.may_leave StaysUnmarked l.fn.disk l.disk;
  failed : g.D.Disk.has_failed l.fn.disk → g.D.Disk.has_failed l.disk;
}
