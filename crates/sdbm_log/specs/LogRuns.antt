-- Runs that use the files of one database with a log, one after another. Each run may use a different disk and a different process, and may
-- be interrupted at any time. Several saves of one process are several runs. A save is one run, or two runs: the commit, which saves the
-- files, and the calls after the commit, which keep the saved files. If a call after the commit is interrupted, the first run has returned
-- and the second is interrupted. So there is no separate task for a save that is committed but not applied.
use Rattle.std.specs.Prelude.{◌≡◌, ◌⊎◌, ℕ, suc, List, [], ◌∷◌}
use Rattle.sdbm_saves.specs.Disk.{Image}
use Rattle.sdbm_saves.specs.Acts.{Act, seen_after, LeftAfter}
use Rattle.sdbm_log.specs.Doing.{AnyMoment, Does, Killed}
use Rattle.sdbm_log.specs.Log.{files_of, CanRecover, Holds}

-- The task of a run. `keeps`: the run opens, recovers, checkpoints or closes the database and does not change its files. `saves`: the
-- run saves the given files.
pub data Task : Type 0 where
  keeps : Task
  saves : List ℕ × List ℕ → Task

-- The ending of a run: it returned, or a kill, a power failure or a failed call interrupted it at some time.
pub data Ending : Type 0 where
  returned : Ending
  interrupted : Ending

-- The power before the next run: it stayed on, or it was lost during or after the run.
pub data Power : Type 0 where
  stayed : Power
  lost : Power

-- A run: its task, its calls, its ending, the power after it, and the image that the next run reads.
pub record LogRun : Type 0 where
  pub task : Task
  pub acts : List Act
  pub ending : Ending
  pub power : Power
  pub next_seen : Image

-- An image that a run finds: the image that is read at its start, or an image that a crash may leave then.
abbrev pub Found : Image → (Image → Type 0) → Image → Type 0
Found seen may_leave c = may_leave c ⊎ (c ≡ seen)

-- The image that is read and all images that a crash may leave represent these files and can be recovered.
abbrev pub AllHold : List ℕ × List ℕ → Image → (Image → Type 0) → Type 0
AllHold both seen may_leave = Holds both seen × ((c : Image) → may_leave c → Holds both c)

-- The promise of this crate's functions for a run that starts here and reads the files `files_of seen`.
abbrev pub IsRun : Task → List Act → Image → (Image → Type 0) → Type 0
IsRun keeps acts seen may_leave = Does acts seen (Found seen may_leave) (λ c. Found seen may_leave c ⊎ Holds (files_of seen) c) (AllHold (files_of seen))
IsRun (saves both) acts seen may_leave = Does acts seen (Found seen may_leave) (λ c. Holds (files_of seen) c ⊎ Holds both c) (AllHold both)

-- An image that may be read after a run if the power stayed on. An interrupted run may have stopped within a call.
abbrev pub ReadAfter : Ending → List Act → Image → Image → Type 0
ReadAfter returned acts seen c = c ≡ seen_after acts seen
ReadAfter interrupted acts seen c = Killed acts seen c

-- An image that a crash may leave after a run: after the last call if the run returned, otherwise at any time during the calls. Every image
-- that the run found counts as an image that a crash might have left before the run.
abbrev pub LeftByRun : Ending → List Act → Image → (Image → Type 0) → Image → Type 0
LeftByRun returned acts seen may_leave c = LeftAfter acts seen (Found seen may_leave) c
LeftByRun interrupted acts seen may_leave c = AnyMoment acts seen (Found seen may_leave) c

-- The state that a run leaves to the next run: the next run reads `next_seen`, and a crash may leave `next_leave`. If the power was lost,
-- the next run reads an image that the crash left, and this image is durable.
abbrev pub Leaves : Power → Ending → List Act → Image → (Image → Type 0) → Image → (Image → Type 0) → Type 0
Leaves stayed ending acts seen may_leave next_seen next_leave = ReadAfter ending acts seen next_seen × ((c : Image) → next_leave c → LeftByRun ending acts seen may_leave c)
Leaves lost ending acts seen may_leave next_seen next_leave = LeftByRun ending acts seen may_leave next_seen × ((c : Image) → next_leave c → c ≡ next_seen)

-- Each run keeps its promise, and the next run starts in the state that the run left. A crash may leave `may_leave 0` before the first run,
-- and `may_leave n` after n runs.
abbrev pub AreMade : List LogRun → Image → (ℕ → Image → Type 0) → Type 0
AreMade [] seen may_leave = Unit {0}
AreMade (run ∷ runs) seen may_leave =
    IsRun run.task run.acts seen (may_leave 0)
    × (Leaves run.power run.ending run.acts seen (may_leave 0) run.next_seen (may_leave 1) × AreMade runs run.next_seen (λ n. may_leave (suc n)))

abbrev pub IsOneOf : List ℕ × List ℕ → List (List ℕ × List ℕ) → Type 0
IsOneOf both [] = ⊥
IsOneOf both (one ∷ more) = (both ≡ one) ⊎ IsOneOf both more

-- Each of the images can be recovered, and represents a pair of data files in the list.
abbrev pub Mean : List (List ℕ × List ℕ) → (Image → Type 0) → Type 0
Mean was images = (c : Image) → images c → IsOneOf (files_of c) was × CanRecover c

-- The files that may be found after a run, if the run found files in the list `was`. A save that returned leaves the saved files. An
-- interrupted save leaves the saved files or the files that the run read. A run that saves nothing leaves the files that it read if it
-- returned, otherwise files in `was`.
abbrev pub After : Task → Ending → Image → List (List ℕ × List ℕ) → List (List ℕ × List ℕ)
After keeps returned seen was = files_of seen ∷ []
After keeps interrupted seen was = was
After (saves both) returned seen was = both ∷ []
After (saves both) interrupted seen was = both ∷ files_of seen ∷ []

-- After each run, every image that is found can be recovered and represents files that may be found then.
abbrev pub LeaveFiles : List LogRun → Image → (ℕ → Image → Type 0) → List (List ℕ × List ℕ) → Type 0
LeaveFiles [] seen may_leave was = Unit {0}
LeaveFiles (run ∷ runs) seen may_leave was =
    Mean (After run.task run.ending seen was) (Found run.next_seen (may_leave 1))
    × LeaveFiles runs run.next_seen (λ n. may_leave (suc n)) (After run.task run.ending seen was)
