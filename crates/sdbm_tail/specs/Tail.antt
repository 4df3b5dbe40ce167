-- The tail of a shared log: its last records, which are not applied to the data files yet. Some of them may not be synced either, so a crash
-- may damage any of those. The log that the crash leaves ends before the first damaged record. So it represents the files after some of the
-- saves, in order: all that are synced, and perhaps some more.
use Rattle.std.specs.Prelude.{◌≡◌, ◌⊎◌, ◌<◌, ◌≤◌, ◌^◌, ℕ, ◌+◌, List, [], ◌∷◌, ◌++◌, length, get_or, true}
use Rattle.sdbm_saves.specs.declared.disk.DiskFile.TheVariants.{Pages, Directory, Redo}
use Rattle.sdbm_saves.specs.Disk.{Image}
use Rattle.sdbm_saves.specs.Acts.{Act, write, sync}
use Rattle.sdbm_saves.specs.Redo.{data_file, count_of, new_length, old_length, renewed, EndsWith, IsPlan}
use Rattle.sdbm_log.specs.Log.{nonzero, is_log, is_shared, is_whole, size_at, first_plan, records_of, log_plan, plan_of, with_plan, AreRecords, CanFollow, KnownBy, MayGrow, Stands, Holds}

-- Makes an empty log shared.
abbrev pub share_acts : List Act
share_acts = write Redo 9 (1 ∷ []) ∷ sync Redo ∷ []

-- Adds a record after the existing records, which end at `end`, without a sync.
abbrev pub append_acts : ℕ → List ℕ → List Act
append_acts end record_bytes = write Redo (4096 + end) record_bytes ∷ []

-- Syncs the log, and with it all its records.
abbrev pub sync_acts : List Act
sync_acts = sync Redo ∷ []

-- the result of applying a plan to both data files
abbrev pub renewed_both : List ℕ → List ℕ × List ℕ → List ℕ × List ℕ
renewed_both plan both = (renewed Pages plan both.0, renewed Directory plan both.1)

-- A redo file that a crash leaves, compared with the redo file that is read. The first bytes of the header are the same, and so are the
-- first `synced` bytes after the header. Each other byte after the header is the same or 0.
pub record IsLeftOf (synced : ℕ) (read left : List ℕ) : Type 0 where
  pub long : length left ≡ length read
  pub head : (i : ℕ) → i < 10 → get_or left i 0 ≡ get_or read i 0
  pub same : (i : ℕ) → i < synced → get_or (records_of left) i 0 ≡ get_or (records_of read) i 0
  pub behind : (i : ℕ) → (get_or (records_of left) i 0 ≡ 0) ⊎ (get_or (records_of left) i 0 ≡ get_or (records_of read) i 0)

-- The log is shared. It has `synced` records that are synced, and `unsynced` records after them that may not be. `made k` is the files after
-- the first k of the unsynced saves. Applying the plans of all records to the data files that are read makes the files after all saves.
-- Applying fewer of them to data files that a crash leaves makes the files after fewer saves.
pub record HasTail (made : ℕ → List ℕ × List ℕ) (synced unsynced end room count : ℕ) (seen : Image) (may_leave : Image → Type 0) : Type 0 where
  pub first : List ℕ
  pub later : List ℕ
  pub slack : List ℕ
  pub log : is_log seen.redo ≡ true
  pub shared : is_shared seen.redo ≡ true
  pub is : records_of seen.redo ≡ (first ++ later) ++ slack
  pub some : 1 ≤ synced
  pub first_are : AreRecords synced first
  pub later_are : AreRecords unsynced later
  pub zeros : nonzero slack ≡ 0
  pub ends : end ≡ length (first ++ later)
  pub long : length seen.redo ≡ 4096 + room
  pub near : room ≤ 4000000000
  pub few : count < 2 ^ 32
  pub grow : MayGrow (synced + unsynced) (log_plan (synced + unsynced) (first ++ later)) count
  pub now : Stands (synced + unsynced) (first ++ later) (made unsynced) seen
  pub left : (c : Image) → may_leave c → IsLeftOf (length first) seen.redo c.redo × ((k n : ℕ) → k ≤ unsynced → n ≡ synced + k → Stands n (first ++ later) (made k) c)

-- The image represents the files after some of the unsynced saves, and can be recovered.
pub record HoldsSome (made : ℕ → List ℕ × List ℕ) (unsynced : ℕ) (image : Image) : Type 0 where
  pub number : ℕ
  pub few : number ≤ unsynced
  pub holds : Holds (made number) image

-- `tail` is the joined plan of the last n records, which are not applied yet, if n is not 0. It makes `both` of the data files that are read.
pub record IsTailPlan (n : ℕ) (tail : List ℕ) (both : List ℕ × List ℕ) (seen : Image) : Type 0 where
  pub known : KnownBy n tail seen
  pub made : with_plan n tail seen ≡ both
  pub ends : 1 ≤ n → EndsWith (plan_of seen) tail
  pub grows : 1 ≤ n → (g : ℕ) → old_length (data_file g) tail ≤ new_length (data_file g) tail

-- Neither plan shortens a file, the first makes no file longer than the next does, and together they have few enough changes for one plan.
pub record GrowsTo (first next : List ℕ) : Type 0 where
  pub old_pages : old_length Pages first ≤ new_length Pages first
  pub old_directory : old_length Directory first ≤ new_length Directory first
  pub new_pages : new_length Pages first ≤ new_length Pages next
  pub new_directory : new_length Directory first ≤ new_length Directory next
  pub few : count_of first + count_of next < 2 ^ 32

-- The bytes begin with a complete record of a plan, which may follow the plan `first` of `len` bytes. If `len` is 0, it follows no plan.
pub record CanJoin (len : ℕ) (first records : List ℕ) : Type 0 where
  pub whole : is_whole records ≡ true
  pub inside : 8 + size_at records ≤ length records
  pub plan : IsPlan (first_plan records)
  pub head : (len ≡ 0) ⊎ (28 ≤ len)
  pub follows : CanFollow len first (first_plan records)

-- `part` is the bytes of a file from offset `from` on
abbrev pub IsPartFrom : ℕ → List ℕ → List ℕ → Type 0
IsPartFrom from part whole = (i : ℕ) → i < length part → get_or part i 0 ≡ get_or whole (from + i) 0
