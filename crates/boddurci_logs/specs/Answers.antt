-- The answers of the C calls about a log.
use Rattle.std.specs.Prelude.{◌≡◌, ◌≢◌, ◌⊎◌, ◌<◌, ◌≤◌, ℕ, ◌+◌, ◌^◌, List, [], ◌∷◌, ◌++◌, length, take, drop, get_or, true}
use Rattle.sdbm_saves.specs.Acts.{seen_after}
use Rattle.sdbm_saves.specs.Disk.{Image, resized}
use Rattle.sdbm_saves.specs.declared.disk.DiskFile.{DiskFile}
use Rattle.sdbm_saves.specs.Redo.{count_of, files, new_length, renewed, IsPlan}
use Rattle.sdbm_tail.specs.Tail.{share_acts, append_acts, CanJoin, IsPartFrom}
use Rattle.sdbm_log.specs.Doing.{CanDo}
use Rattle.sdbm_log.specs.Log.{files_of, record_of, is_whole, size_at, first_plan, next_plan, CanFollow, CanRecover}
use Rattle.sdbm_log.specs.Protocol.{apply_acts, close_acts}
use Rattle.sdbm_log.specs.Saving.{CanTake, AreOpenCalls, AreSaveCalls}
use Rattle.sdbm_log.specs.Steps.{acts_of, with_head}
use Rattle.sdbm_log.specs.declared.log.Log.{Log}
use Rattle.sdbm_log.specs.declared.steps.Step.{Step}
use Rattle.boddurci_handles.specs.declared.status.Status.{Status}
use Rattle.boddurci_handles.specs.declared.status.Status.TheVariants.{Done, ShortRoom, BadFiles, Stale, NoMemory, TooLong}
use Rattle.boddurci_logs.specs.declared.place.LogPlace.{LogPlace}
use Rattle.boddurci_logs.specs.Words.{words_of}

-- the status is one of these
abbrev pub IsOneOf : List Status → Status → Type 0
IsOneOf [] status = ⊥
IsOneOf (one ∷ others) status = (status ≡ one) ⊎ IsOneOf others status

-- the items are at the front of the buffer, and the rest of it is unchanged
abbrev pub IsFilled : {X : Type 0} → List X → List X → List X → Type 0
IsFilled items old new = (length items ≤ length old) × (new ≡ items ++ drop (length items) old)

-- a buffer and the words of steps are at the front of the two buffers of the caller
pub record AreHandedOut (buffer : List ℕ) (steps : List Step) (bytes_old bytes_new words_old words_new : List ℕ) : Type 0 where
  pub bytes : IsFilled buffer bytes_old bytes_new
  pub words : IsFilled (words_of steps) words_old words_new

-- a buffer or the words of steps do not fit
abbrev pub AreTooMany : List ℕ → List Step → List ℕ → List ℕ → Type 0
AreTooMany buffer steps bytes words = (length bytes < length buffer) ⊎ (length words < length (words_of steps))

abbrev pub files_in : List ℕ → List ℕ → List ℕ → Image
files_in pages directory redo = record { pages = pages; directory = directory; redo = redo }

abbrev pub log_at : LogPlace → Log
log_at place = record { end = place.end; room = place.room; count = place.count }

-- The image agrees with the files read as `found`: in its redo file, and in both data files if the redo file has its mark.
pub record ReadsLike (found image : Image) : Type 0 where
  pub redo : image.redo ≡ found.redo
  pub both : get_or found.redo 0 0 ≡ 1 → files image ≡ files found

-- The steps open the log that was read. The opened log is empty and has at least the requested room.
pub record AreOpenSteps (found : Image) (room : ℕ) (buffer : List ℕ) (steps : List Step) (log : LogPlace) : Type 0 where
  pub can : (image : Image) → ReadsLike found image → CanRecover image
  pub calls : (image : Image) → ReadsLike found image → AreOpenCalls image log.room (acts_of buffer steps)
  pub enough : room ≤ log.room
  pub end : log.end ≡ 0
  pub count : log.count ≡ 0

-- the steps make copies of the data files equal to the data files after a recovery
abbrev pub AreReadSteps : Image → List ℕ → List Step → Type 0
AreReadSteps found buffer steps = CanRecover found × ((image : Image) → ReadsLike found image → CanDo (acts_of buffer steps) image × (files (seen_after (acts_of buffer steps) image) ≡ files_of image))

-- The steps save a plan in a log, and `new` is the log after them. The `commit` steps commit the save, the `apply` steps apply it.
pub record AreSaveSteps (plan : List ℕ) (old new : LogPlace) (buffer : List ℕ) (commit apply : List Step) : Type 0 where
  pub calls : AreSaveCalls (log_at old) (log_at new) plan (acts_of buffer commit) (acts_of buffer apply)

-- A buffer and the words of steps are written if both fit. Both lengths are set, unless memory ran out.
pub record HandsOut (buffer : List ℕ) (steps : List Step) (bytes_old bytes_new : List ℕ) (bytes_len : ℕ) (words_old words_new : List ℕ) (words_len : ℕ) (status : Status) : Type 0 where
  pub done : status ≡ Done → AreHandedOut buffer steps bytes_old bytes_new words_old words_new
  pub untouched : status ≢ Done → (bytes_new ≡ bytes_old) × (words_new ≡ words_old)
  pub short : status ≡ ShortRoom → AreTooMany buffer steps bytes_old words_old
  pub told : status ≢ NoMemory → (bytes_len ≡ length buffer) × (words_len ≡ length (words_of steps))
  pub only : (status ≡ Done) ⊎ ((status ≡ ShortRoom) ⊎ (status ≡ NoMemory))

-- The answer of a call for the steps that open a log.
pub record OpenAnswer (found : Image) (room : ℕ) (log_old log_new : LogPlace) (bytes_old bytes_new : List ℕ) (bytes_len : ℕ) (words_old words_new : List ℕ) (words_len : ℕ) (status : Status) : Type 0 where
  pub done : status ≡ Done → (buffer : List ℕ) × (steps : List Step) × (AreOpenSteps found room buffer steps log_new
      × (AreHandedOut buffer steps bytes_old bytes_new words_old words_new × ((bytes_len ≡ length buffer) × (words_len ≡ length (words_of steps)))))
  pub untouched : status ≢ Done → (log_new ≡ log_old) × ((bytes_new ≡ bytes_old) × (words_new ≡ words_old))
  pub short : status ≡ ShortRoom → (length bytes_old < bytes_len) ⊎ (length words_old < words_len)
  pub refused : (status ≡ BadFiles) ⊎ (status ≡ Stale) → CanRecover found → ⊥
  pub too_long : status ≡ TooLong → 2 ^ 30 < room
  pub only : IsOneOf (Done ∷ ShortRoom ∷ BadFiles ∷ Stale ∷ TooLong ∷ NoMemory ∷ []) status

-- The answer of a call for the steps of a reader.
pub record ReadAnswer (found : Image) (bytes_old bytes_new : List ℕ) (bytes_len : ℕ) (words_old words_new : List ℕ) (words_len : ℕ) (status : Status) : Type 0 where
  pub done : status ≡ Done → (buffer : List ℕ) × (steps : List Step) × (AreReadSteps found buffer steps
      × (AreHandedOut buffer steps bytes_old bytes_new words_old words_new × ((bytes_len ≡ length buffer) × (words_len ≡ length (words_of steps)))))
  pub untouched : status ≢ Done → (bytes_new ≡ bytes_old) × (words_new ≡ words_old)
  pub short : status ≡ ShortRoom → (length bytes_old < bytes_len) ⊎ (length words_old < words_len)
  pub refused : (status ≡ BadFiles) ⊎ (status ≡ Stale) → CanRecover found → ⊥
  pub only : IsOneOf (Done ∷ ShortRoom ∷ BadFiles ∷ Stale ∷ NoMemory ∷ []) status

-- The answer of a call for the steps of a save. The plan follows the first 18 bytes, and the steps write bytes of the buffer.
pub record SaveAnswer (log_old log_new : LogPlace) (bytes_old bytes_new words_old words_new : List ℕ) (words_len committed : ℕ) (status : Status) : Type 0 where
  pub done : status ≡ Done → (commit : List Step) × (apply : List Step) × (AreSaveSteps (drop 18 bytes_old) log_old log_new bytes_new commit apply
      × (IsFilled (words_of commit ++ words_of apply) words_old words_new × ((committed ≡ length (words_of commit)) × (words_len ≡ length (words_of commit ++ words_of apply)))))
  pub plan : drop 18 bytes_new ≡ drop 18 bytes_old
  pub untouched : status ≢ Done → (log_new ≡ log_old) × ((bytes_new ≡ bytes_old) × (words_new ≡ words_old))
  pub short : status ≡ ShortRoom → length words_old < words_len
  pub refused : status ≡ BadFiles → (length bytes_old < 18) ⊎ (IsPlan (drop 18 bytes_old) → ⊥)
  pub too_long : status ≡ TooLong → (3000000018 ≤ length bytes_old) ⊎ (3000000000 < log_old.end)
  pub only : IsOneOf (Done ∷ ShortRoom ∷ BadFiles ∷ TooLong ∷ NoMemory ∷ []) status

-- The answer of a call for the steps that close a log.
pub record CloseAnswer (words_old words_new : List ℕ) (words_len : ℕ) (status : Status) : Type 0 where
  pub done : status ≡ Done → (steps : List Step) × (IsFilled (words_of steps) words_old words_new × ((words_len ≡ length (words_of steps)) × ((buffer : List ℕ) → acts_of buffer steps ≡ close_acts)))
  pub untouched : status ≢ Done → words_new ≡ words_old
  pub short : status ≡ ShortRoom → length words_old < words_len
  pub only : IsOneOf (Done ∷ ShortRoom ∷ NoMemory ∷ []) status

-- The steps append the record of a plan to a log with records, without a sync, and `new` is the log after them.
pub record AreAppendSteps (plan : List ℕ) (old new : LogPlace) (buffer : List ℕ) (steps : List Step) : Type 0 where
  pub calls : acts_of buffer steps ≡ append_acts old.end (record_of plan)
  pub some : 1 ≤ old.end
  pub takes : CanTake (log_at old) plan
  pub end : new.end ≡ old.end + (8 + length plan)
  pub room : new.room ≡ old.room
  pub count : new.count ≡ old.count + count_of plan

-- The answer of a call for the steps that append a record. The plan follows the first 18 bytes, and the steps write bytes of the buffer.
pub record AppendAnswer (log_old log_new : LogPlace) (bytes_old bytes_new words_old words_new : List ℕ) (words_len : ℕ) (status : Status) : Type 0 where
  pub done : status ≡ Done → (steps : List Step) × (AreAppendSteps (drop 18 bytes_old) log_old log_new bytes_new steps × (IsFilled (words_of steps) words_old words_new × (words_len ≡ length (words_of steps))))
  pub plan : drop 18 bytes_new ≡ drop 18 bytes_old
  pub untouched : status ≢ Done → (log_new ≡ log_old) × ((bytes_new ≡ bytes_old) × (words_new ≡ words_old))
  pub short : status ≡ ShortRoom → length words_old < words_len
  pub refused : status ≡ BadFiles → (length bytes_old < 18) ⊎ (IsPlan (drop 18 bytes_old) → ⊥)
  pub full : status ≡ Stale → (log_old.end ≡ 0) ⊎ (CanTake (log_at log_old) (drop 18 bytes_old) → ⊥)
  pub too_long : status ≡ TooLong → (3000000018 ≤ length bytes_old) ⊎ (3000000000 < log_old.end)
  pub only : IsOneOf (Done ∷ ShortRoom ∷ BadFiles ∷ Stale ∷ TooLong ∷ NoMemory ∷ []) status

-- The answer of a call for the steps that make a log shared. They write bytes of a buffer of steps.
pub record ShareAnswer (words_old words_new : List ℕ) (words_len : ℕ) (status : Status) : Type 0 where
  pub done : status ≡ Done → (steps : List Step) × (IsFilled (words_of steps) words_old words_new × ((words_len ≡ length (words_of steps)) × ((rest : List ℕ) → acts_of (with_head rest) steps ≡ share_acts)))
  pub untouched : status ≢ Done → words_new ≡ words_old
  pub short : status ≡ ShortRoom → length words_old < words_len
  pub only : IsOneOf (Done ∷ ShortRoom ∷ NoMemory ∷ []) status

-- The answer of a call for the steps that apply a plan. The plan follows the first 18 bytes, and the steps write bytes of the plan.
pub record ApplyAnswer (bytes words_old words_new : List ℕ) (words_len : ℕ) (status : Status) : Type 0 where
  pub done : status ≡ Done → (steps : List Step) × (IsFilled (words_of steps) words_old words_new × ((words_len ≡ length (words_of steps)) × (IsPlan (drop 18 bytes) × (acts_of bytes steps ≡ apply_acts (drop 18 bytes)))))
  pub untouched : status ≢ Done → words_new ≡ words_old
  pub short : status ≡ ShortRoom → length words_old < words_len
  pub refused : status ≡ BadFiles → (length bytes < 18) ⊎ (IsPlan (drop 18 bytes) → ⊥)
  pub too_long : status ≡ TooLong → 3000000018 ≤ length bytes
  pub only : IsOneOf (Done ∷ ShortRoom ∷ BadFiles ∷ TooLong ∷ NoMemory ∷ []) status

-- The answer of a call that joins the plan of the first record to the plan in the first `old_len` bytes of a buffer. If `old_len` is 0, the
-- result is the plan of the record. A record that can be joined is refused only if the result does not fit.
pub record JoinAnswer (records room_old room_new : List ℕ) (old_len new_len used : ℕ) (status : Status) : Type 0 where
  pub record_is : status ≡ Done → (is_whole records ≡ true) × (IsPlan (first_plan records) × (used ≡ 8 + size_at records))
  pub follows : status ≡ Done → CanFollow old_len (take old_len room_old) (first_plan records)
  pub joined : status ≡ Done → (new_len ≤ length room_new) × (take new_len room_new ≡ next_plan old_len (take old_len room_old) (first_plan records))
  pub untouched : status ≢ Done → (room_new ≡ room_old) × (new_len ≡ old_len)
  pub short : status ≡ ShortRoom → CanJoin old_len (take old_len room_old) records × (length room_old < length (next_plan old_len (take old_len room_old) (first_plan records)))
  pub refused : status ≡ BadFiles → (length room_old < old_len) ⊎ (CanJoin old_len (take old_len room_old) records → ⊥)
  pub only : IsOneOf (Done ∷ ShortRoom ∷ BadFiles ∷ []) status

-- The answer of a call that lays a plan over a part of a file.
pub record LayAnswer (plan : List ℕ) (file : DiskFile) (from : ℕ) (part_old part_new : List ℕ) (touched : ℕ) (status : Status) : Type 0 where
  pub done : status ≡ Done → IsPlan plan × ((old : List ℕ) → IsPartFrom from part_old (resized (new_length file plan) old) → IsPartFrom from part_new (renewed file plan old))
  pub long : length part_new ≡ length part_old
  pub same : touched ≡ 0 → part_new ≡ part_old
  pub untouched : status ≢ Done → part_new ≡ part_old
  pub refused : status ≡ BadFiles → IsPlan plan → ⊥
  pub too_long : status ≡ TooLong → new_length file plan < from + length part_old
  pub only : IsOneOf (Done ∷ BadFiles ∷ TooLong ∷ []) status
