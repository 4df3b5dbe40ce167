-- A log of saves in the redo file: a header of 4,096 bytes, then records, one after another, then zeros. Each record contains the plan of a
-- save, which is committed once the record is complete. Plans are applied to the data files without a sync, so a crash may leave a mix of
-- old and new bytes in the data files. Applying all plans of the log again repairs the data files (a redo log: Gray and Reuter, Transaction
-- Processing 1993, chapter 9). Byte 0 is the commit byte (mark), which is 1 while there are records. The next eight bytes are "sdbmlog1".
-- Byte 9 is 0, or 1 if the log is shared (below).
-- If byte 0 is 1 and the next eight bytes differ, the file is the committed plan of a single save (specs/Redo.antt of sdbm_saves).
use Rattle.std.specs.Prelude.{Bool, true, false, if◌then◌else◌, ◌==◌, ◌⊎◌, ◌-◌, ◌*◌, ◌/◌, ◌%◌, Option, MatchOption, ◌<◌, ◌≤◌, ◌≡◌, ◌≢◌, ◌^◌, ℕ, zero, suc, ◌+◌, List, [], ◌∷◌, ◌++◌, length, take, drop, replicate, get_or}
use Rattle.std.specs.Borrow.{Bor}
use Rattle.sdbm_saves.specs.declared.disk.DiskFile.TheVariants.{Pages, Directory}
use Rattle.sdbm_saves.specs.Disk.{Image, written}
use Rattle.sdbm_saves.specs.Drafts.{spelled}
use Rattle.sdbm_saves.specs.Redo.{number_at, data_file, count_of, changes_of, new_length, old_length, files, renewed_files, stands_for, CanEnd, IsPlan, Knows, EndsWith}

-- the number of nonzero bytes
abbrev pub nonzero : List ℕ → ℕ
nonzero [] = 0
nonzero (zero ∷ bytes) = nonzero bytes
nonzero (suc b ∷ bytes) = suc (nonzero bytes)

-- a number below 255^4 as four nonzero bytes, and the number that four nonzero bytes represent
abbrev pub digits : ℕ → List ℕ
digits n = suc (n % 255) ∷ suc (n / 255 % 255) ∷ suc (n / 65025 % 255) ∷ suc (n / 16581375 % 255) ∷ []

unfoldable pub weight_at : List ℕ → ℕ
weight_at log = (get_or log 0 0 - 1) + 255 * (get_or log 1 0 - 1) + 65025 * (get_or log 2 0 - 1) + 16581375 * (get_or log 3 0 - 1)

-- the length of the plan of the first record
abbrev pub size_at : List ℕ → ℕ
size_at log = weight_at (drop 4 log)

-- The record of a plan: its weight, the length of the plan, and the plan. The weight is the number of nonzero bytes after the weight. The
-- weight and the length have four nonzero bytes each. A record is written over zeros, so the record is complete if and only if the weight
-- matches the nonzero bytes that follow.
abbrev pub body_of : List ℕ → List ℕ
body_of plan = digits (length plan) ++ plan

abbrev pub record_of : List ℕ → List ℕ
record_of plan = digits (nonzero (body_of plan)) ++ body_of plan

unfoldable pub is_whole : List ℕ → Bool
is_whole log = if nonzero (take 4 log) == 4 then nonzero (take (4 + size_at log) (drop 4 log)) == weight_at log else false

-- the plan of the first record, and the records after it
abbrev pub first_plan : List ℕ → List ℕ
first_plan log = take (size_at log) (drop 8 log)

abbrev pub later_records : List ℕ → List ℕ
later_records log = drop (8 + size_at log) log

-- the number of complete records at the start of these bytes
abbrev pub wholes : ℕ → List ℕ → ℕ
wholes zero log = 0
wholes (suc fuel) log = if is_whole log then suc (wholes fuel (later_records log)) else 0

abbrev pub number_in : List ℕ → ℕ
number_in log = wholes (length log) log

-- the bytes after the first n records
abbrev pub after_records : ℕ → List ℕ → List ℕ
after_records zero log = log
after_records (suc n) log = after_records n (later_records log)

-- the end of the complete records at the start of the bytes
abbrev pub end_in : List ℕ → ℕ
end_in log = length log - length (after_records (number_in log) log)

-- The bytes may be a record whose write a crash interrupted, followed by zeros. If the weight is complete, at most that number of later
-- bytes are nonzero. If the length is complete, only zeros follow the plan.
pub record MayBeTorn (rest : List ℕ) : Type 0 where
  pub weight : nonzero (take 4 rest) ≡ 4 → nonzero (drop 4 rest) ≤ weight_at rest
  pub size : nonzero (take 4 (drop 4 rest)) ≡ 4 → nonzero (drop (8 + size_at rest) rest) ≡ 0

-- A log is shared if byte 9 is not 0. Several records of a shared log may have been written without a sync, so a crash may damage any of
-- them. The log then ends before the first incomplete record.
abbrev pub is_shared : List ℕ → Bool
is_shared redo = if get_or redo 9 0 == 0 then false else true

-- `rest` may follow the complete records of this redo file: at most one torn record, or any bytes if the log is shared
abbrev pub MayFollow : List ℕ → List ℕ → Type 0
MayFollow redo rest = is_shared redo ≡ false → MayBeTorn rest

-- the bytes are n complete records and nothing else
abbrev pub AreRecords : ℕ → List ℕ → Type 0
AreRecords zero log = log ≡ []
AreRecords (suc n) log = (is_whole log ≡ true) × ((8 + size_at log ≤ length log) × AreRecords n (later_records log))

-- the first n records contain plans
abbrev pub ArePlans : ℕ → List ℕ → Type 0
ArePlans zero log = Unit {0}
ArePlans (suc n) log = (8 + size_at log ≤ length log) × (IsPlan (first_plan log) × ArePlans n (later_records log))

-- A plan joined with the next plan: the old lengths of the first plan, the new lengths of the next plan, and the changes of both.
abbrev pub joined : List ℕ → List ℕ → List ℕ
joined first next = written 8 (take 8 (drop 8 next)) (written 24 (spelled (count_of first + count_of next)) first) ++ changes_of next

-- a plan joined with the n plans after it
abbrev pub joined_all : List ℕ → ℕ → List ℕ → List ℕ
joined_all plan zero log = plan
joined_all plan (suc n) log = joined_all (joined plan (first_plan log)) n (later_records log)

-- the plans of the first n records, joined
abbrev pub log_plan : ℕ → List ℕ → List ℕ
log_plan zero log = []
log_plan (suc n) log = joined_all (first_plan log) n (later_records log)

-- the plan `next` joined with the n plans before it; `first` is the joined plan of these n plans
abbrev pub next_plan : ℕ → List ℕ → List ℕ → List ℕ
next_plan zero first next = next
next_plan (suc n) first next = joined first next

-- the bytes of a redo file after the header
abbrev pub records_of : List ℕ → List ℕ
records_of redo = drop 4096 redo

-- "sdbm" and "log1" as numbers
abbrev pub is_signed : List ℕ → Bool
is_signed redo = if number_at redo 1 == 1835164787 then number_at redo 5 == 828862316 else false

-- a redo file is a log that may have records: its commit byte is 1, and "sdbmlog1" follows
abbrev pub is_log : List ℕ → Bool
is_log redo = if get_or redo 0 0 == 1 then is_signed redo else false

-- an empty log of `len` bytes
abbrev pub empty_log : ℕ → List ℕ
empty_log len = 0 ∷ 115 ∷ 100 ∷ 98 ∷ 109 ∷ 108 ∷ 111 ∷ 103 ∷ 49 ∷ replicate (len - 9) 0

-- the number of saves that are committed in a log, and their joined plan
abbrev pub number_by : Bool → List ℕ → ℕ
number_by true redo = number_in (records_of redo)
number_by false redo = 0

abbrev pub number_of : Image → ℕ
number_of image = number_by (is_log image.redo) image.redo

abbrev pub plan_of : Image → List ℕ
plan_of image = log_plan (number_of image) (records_of image.redo)

-- the result of applying n plans, whose joined plan is `plan`, to both data files
abbrev pub with_plan : ℕ → List ℕ → Image → List ℕ × List ℕ
with_plan zero plan image = files image
with_plan (suc n) plan image = renewed_files plan image

abbrev pub KnownBy : ℕ → List ℕ → Image → Type 0
KnownBy zero plan image = Unit {0}
KnownBy (suc n) plan image = IsPlan plan × Knows plan (files image)

-- The first n records of a log contain plans, which know the data files of the image. Applied to these files, they make `both`.
pub record Stands (n : ℕ) (log : List ℕ) (both : List ℕ × List ℕ) (image : Image) : Type 0 where
  pub plans : ArePlans n log
  pub known : KnownBy n (log_plan n log) image
  pub made : with_plan n (log_plan n log) image ≡ both

-- The plans of a log can be applied again: each complete record contains a plan, the joined plan knows the data files, and the bytes after
-- the complete records may follow them.
pub record CanReplay (image : Image) : Type 0 where
  pub plans : ArePlans (number_of image) (records_of image.redo)
  pub known : KnownBy (number_of image) (plan_of image) image
  pub rest : MayFollow image.redo (after_records (number_of image) (records_of image.redo))

-- the data files that an image represents, even if a crash left the image
abbrev pub files_by : Bool → Image → List ℕ × List ℕ
files_by true image = with_plan (number_of image) (plan_of image) image
files_by false image = stands_for image

abbrev pub files_of : Image → List ℕ × List ℕ
files_of image = files_by (is_log image.redo) image

-- an image can be recovered
abbrev pub CanRecoverBy : Bool → Image → Type 0
CanRecoverBy true image = CanReplay image
CanRecoverBy false image = CanEnd image

abbrev pub CanRecover : Image → Type 0
CanRecover image = CanRecoverBy (is_log image.redo) image

-- the image represents these files and can be recovered
abbrev pub Holds : List ℕ × List ℕ → Image → Type 0
Holds both image = (files_of image ≡ both) × CanRecover image

-- The log that a crash may leave, compared with the log that is read. The records, the signature and byte 9 are the same. The commit byte
-- is the same, or 0 if there are no records. The other bytes of the header may have any values.
pub record IsKeptLog (read left : List ℕ) : Type 0 where
  pub records : records_of left ≡ records_of read
  pub signed : (i : ℕ) → 1 ≤ i → i < 10 → get_or left i 0 ≡ get_or read i 0
  pub mark : (get_or left 0 0 ≡ get_or read 0 0) ⊎ ((get_or left 0 0 ≡ 0) × (number_in (records_of read) ≡ 0))

abbrev pub KeepsLog : Image → (Image → Type 0) → Type 0
KeepsLog seen may_leave = (c : Image) → may_leave c → IsKeptLog seen.redo c.redo

-- No save is in progress: the commit byte that is read is not 1, and a crash leaves the data files as they are and a commit byte that is
-- not 1.
pub record IsAtRest (seen : Image) (may_leave : Image → Type 0) : Type 0 where
  pub unmarked : get_or seen.redo 0 0 ≢ 1
  pub left_unmarked : (c : Image) → may_leave c → get_or c.redo 0 0 ≢ 1
  pub kept : (c : Image) → may_leave c → files c ≡ files seen

-- Between two saves, the log is durable, the image that is read represents its own data files, and each image that a crash may leave
-- represents the same files.
pub record IsDurable (seen : Image) (may_leave : Image → Type 0) : Type 0 where
  pub kept : KeepsLog seen may_leave
  pub now : Holds (files seen) seen
  pub holds : (c : Image) → may_leave c → Holds (files seen) c

-- the bytes are complete records up to offset `end`, and zeros after that
pub record HasRecords (end : ℕ) (log : List ℕ) : Type 0 where
  pub number : ℕ
  pub records : List ℕ
  pub slack : List ℕ
  pub is : log ≡ records ++ slack
  pub are : AreRecords number records
  pub ends : end ≡ length records
  pub zeros : nonzero slack ≡ 0

-- Neither `first` nor `next` shortens a file, and both plans together have few enough changes for one plan.
pub record Grows (first next : List ℕ) : Type 0 where
  pub so_far : (g : ℕ) → old_length (data_file g) first ≤ new_length (data_file g) first
  pub on : (g : ℕ) → new_length (data_file g) first ≤ new_length (data_file g) next
  pub few : count_of first + count_of next < 2 ^ 32

-- `next` may follow n plans; the joined plan of these n plans is `first`
abbrev pub CanFollow : ℕ → List ℕ → List ℕ → Type 0
CanFollow zero first next = Unit {0}
CanFollow (suc n) first next = Grows first next

-- a plan shortens no file
pub record IsGrowing (plan : List ℕ) : Type 0 where
  pub pages : old_length Pages plan ≤ new_length Pages plan
  pub directory : old_length Directory plan ≤ new_length Directory plan

-- a plan that shortens no file may follow n plans; the joined plan of these n plans is `first` and has `count` changes
abbrev pub MayGrow : ℕ → List ℕ → ℕ → Type 0
MayGrow zero first count = Unit {0}
MayGrow (suc n) first count = ((g : ℕ) → old_length (data_file g) first ≤ new_length (data_file g) first) × (count_of first ≡ count)

-- A save is committed, and its plan is not applied yet. The plan is the last plan in the log, and the log is durable. The image that is
-- read and each image that a crash may leave represent the files with the plan applied.
pub record IsCommitted (plan : List ℕ) (seen : Image) (may_leave : Image → Type 0) : Type 0 where
  pub kept : KeepsLog seen may_leave
  pub some : 1 ≤ number_of seen
  pub last : EndsWith (plan_of seen) plan
  pub now : Holds (renewed_files plan seen) seen
  pub holds : (c : Image) → may_leave c → Holds (renewed_files plan seen) c

-- `plan` is the joined plan of the log, or `None` if there are no records
abbrev pub IsPlanOf : Image → Option (Bor (List ℕ)) → Type 0
IsPlanOf image plan = MatchOption plan (number_of image ≡ 0) (λ p. (1 ≤ number_of image) × (p.now ≡ plan_of image))

-- the redo file is a log whose records end at offset `end`; if the commit byte is 0, there are no records
pub record IsLogFile (end : ℕ) (redo : List ℕ) : Type 0 where
  pub signed : is_signed redo ≡ true
  pub mark : ((end ≡ 0) × (get_or redo 0 0 ≡ 0)) ⊎ (get_or redo 0 0 ≡ 1)
  pub place : HasRecords end (records_of redo)

-- The log is ready for the next record: it has `room` bytes after the header, its records end at offset `end` of these bytes, and the plans
-- of the records have `count` changes.
pub record IsReady (end room count : ℕ) (seen : Image) (may_leave : Image → Type 0) : Type 0 where
  pub durable : IsDurable seen may_leave
  pub file : IsLogFile end seen.redo
  pub long : length seen.redo ≡ 4096 + room
  pub near : room ≤ 4000000000
  pub few : count < 2 ^ 32
  pub none : number_of seen ≡ 0 → count ≡ 0
  pub grow : MayGrow (number_of seen) (plan_of seen) count
