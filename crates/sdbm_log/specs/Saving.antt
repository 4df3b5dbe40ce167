-- The calls of a save, and the calls that make a log ready when it is opened.
use Rattle.std.specs.Prelude.{Bool, true, false, if◌then◌else◌, ◌==◌, ◌≡◌, ◌≢◌, ◌⊎◌, ◌≤◌, ◌<◌, ℕ, zero, suc, ◌+◌, ◌^◌, List, [], ◌++◌, length, drop, get_or}
use Rattle.sdbm_saves.specs.Disk.{Image}
use Rattle.sdbm_saves.specs.Acts.{Act}
use Rattle.sdbm_saves.specs.Redo.{count_of, files}
use Rattle.sdbm_log.specs.Log.{nonzero, record_of, records_of, is_log, is_signed, number_of, plan_of, IsGrowing}
use Rattle.sdbm_log.specs.Protocol.{commit_acts, apply_acts, close_acts, clear_acts, start_acts, settle_acts}
use Rattle.sdbm_log.specs.declared.log.Log.{Log}
use Rattle.sdbm_log.specs.declared.records.LogFiles.{LogFiles}

-- The log can take the record of a plan without being emptied: the plan shortens no file, and the record and its number of changes fit.
pub record CanTake (log : Log) (plan : List ℕ) : Type 0 where
  pub growing : IsGrowing plan
  pub room : log.end + (8 + length plan) ≤ log.room
  pub few : log.count + count_of plan < 2 ^ 32

-- The log has room, so there are no calls, and the log is unchanged.
pub record IsAsBefore (log next : Log) (plan : List ℕ) (acts : List Act) : Type 0 where
  pub nothing : acts ≡ []
  pub same : next ≡ log
  pub growing : IsGrowing plan

-- The log is closed, and its records are overwritten with zeros.
pub record IsCleared (log next : Log) (plan : List ℕ) (acts : List Act) : Type 0 where
  pub full : CanTake log plan → ⊥
  pub cleared : acts ≡ close_acts ++ clear_acts log.end
  pub room : next.room ≡ log.room
  pub end : next.end ≡ 0
  pub count : next.count ≡ 0

-- The log is closed and replaced by a longer log, because the old log is too short for the record.
pub record IsStarted (log next : Log) (plan : List ℕ) (acts : List Act) : Type 0 where
  pub short : log.room < 8 + length plan
  pub started : acts ≡ close_acts ++ start_acts (4096 + next.room)
  pub small : next.room ≤ 8 + length plan + 1048576
  pub near : 4096 + next.room ≤ 4000000000
  pub end : next.end ≡ 0
  pub count : next.count ≡ 0

-- The calls make room for the record of a plan; `next` is the log after these calls.
pub record MakesRoom (log next : Log) (plan : List ℕ) (acts : List Act) : Type 0 where
  pub how : IsAsBefore log next plan acts ⊎ (IsCleared log next plan acts ⊎ IsStarted log next plan acts)
  pub fits : next.end + (8 + length plan) ≤ next.room
  pub few : next.count + count_of plan < 2 ^ 32

-- The calls of a save after its commit, and the log after these calls. If a file gets shorter, the log is emptied.
abbrev pub IsApplied : Log → Log → List ℕ → List Act → Type 0
IsApplied old next plan acts =
    (IsGrowing plan × ((acts ≡ apply_acts plan) × (next ≡ record { end = old.end + (8 + length plan); room = old.room; count = old.count + count_of plan })))
    ⊎ ((IsGrowing plan → ⊥) × ((acts ≡ apply_acts plan ++ (close_acts ++ clear_acts (old.end + (8 + length plan)))) × (next ≡ record { end = 0; room = old.room; count = 0 })))

-- the calls of a save: `commit` commits it, and `apply` applies its plan
pub record AreSaveCalls (log next : Log) (plan : List ℕ) (commit apply : List Act) : Type 0 where
  pub making : List Act
  pub mid : Log
  pub room : MakesRoom log mid plan making
  pub commits : commit ≡ making ++ commit_acts mid.end (record_of plan)
  pub applies : IsApplied mid next plan apply

-- the image of three files that were read
abbrev pub image_in : LogFiles → Image
image_in found = record { pages = found.pages.now; directory = found.directory.now; redo = found.redo.now }

-- The files were read from this image. If the commit byte is not 1, the data files need not have been read.
pub record Reads (found : LogFiles) (image : Image) : Type 0 where
  pub redo : image.redo ≡ found.redo.now
  pub both : get_or found.redo.now 0 0 ≡ 1 → files image ≡ (found.pages.now, found.directory.now)

-- The plan turns the data files into those that the image represents. It is the joined plan of a log, or the committed plan of a single
-- save.
abbrev pub IsRedoPlan : Image → List ℕ → Type 0
IsRedoPlan image plan =
    ((is_log image.redo ≡ true) × ((1 ≤ number_of image) × (plan ≡ plan_of image)))
    ⊎ ((is_log image.redo ≡ false) × ((get_or image.redo 0 0 ≡ 1) × (plan ≡ drop 1 image.redo)))

-- The redo file has no plan that must be applied.
abbrev pub HasNoPlan : Image → Type 0
HasNoPlan image = ((is_log image.redo ≡ true) × (number_of image ≡ 0)) ⊎ (get_or image.redo 0 0 ≢ 1)

-- The calls that recover the files: apply the plans of the log or the plan of the committed save, and clear the commit byte.
abbrev pub redo_acts : ℕ → List ℕ → List Act
redo_acts zero plan = []
redo_acts (suc n) plan = apply_acts plan

abbrev pub recover_by : Bool → Image → List Act
recover_by true image = redo_acts (number_of image) (plan_of image) ++ close_acts
recover_by false image = apply_acts (drop 1 image.redo) ++ close_acts

abbrev pub recover_acts : Image → List Act
recover_acts image = if get_or image.redo 0 0 == 1 then recover_by (is_log image.redo) image else []

-- the calls that recover the files without opening a log
abbrev pub AreRecoverCalls : Image → List Act → Type 0
AreRecoverCalls image acts = acts ≡ settle_acts ++ recover_acts image

-- the redo file is a log that can be reused, and the calls empty it
pub record IsReused (redo : List ℕ) (room : ℕ) (acts : List Act) : Type 0 where
  pub signed : is_signed redo ≡ true
  pub mark : get_or redo 0 0 ≤ 1
  pub long : length redo ≡ 4096 + room
  pub near : room ≤ 4000000000
  pub how : ((acts ≡ []) × (nonzero (records_of redo) ≡ 0)) ⊎ ((n : ℕ) × (acts ≡ clear_acts n) × ((n ≤ room) × (nonzero (drop n (records_of redo)) ≡ 0)))

-- the calls make the redo file an empty log with this room
abbrev pub IsRestart : List ℕ → ℕ → List Act → Type 0
IsRestart redo room acts = IsReused redo room acts ⊎ ((acts ≡ start_acts (4096 + room)) × (4096 + room ≤ 4000000000))

-- the calls open a log, which has this room afterwards
pub record AreOpenCalls (image : Image) (room : ℕ) (acts : List Act) : Type 0 where
  pub last : List Act
  pub restart : IsRestart image.redo room last
  pub are : acts ≡ settle_acts ++ (recover_acts image ++ last)
