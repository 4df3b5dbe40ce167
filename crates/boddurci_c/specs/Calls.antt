-- The effects of calls on a handle, which is closed or has an open database with its programs (own).
use Rattle.std.specs.Prelude.{◌≡◌, ◌≢◌, ◌==◌, ◌⊎◌, ◌<◌, ◌≤◌, ◌/◌, ℕ, cond, length, take, drop, List, [], Option, Some, None, IsSome, Result, Ok, Err, slice_get, unwrap_or, Contains}
use Rattle.std.specs.declared.alloc.Global.{Global}
use Rattle.std.specs.FinMap as map
use Rattle.sdbm_addr.specs.declared.Mode.{Mode}
use Rattle.sdbm_addr.specs.declared.Mode.TheVariants.{Insert, Replace}
use Rattle.sdbm_addr.specs.declared.KeyBytes.{KeyBytes}
use Rattle.sdbm_addr.specs.declared.KeyBytes.TheVariants.{Signed, Unsigned}
use Rattle.sdbm_addr.specs.declared.PageSize.{PageSize}
use Rattle.sdbm_addr.specs.declared.PageSize.TheVariants.{Small, Wide}
use Rattle.sdbm_addr.specs.Pairs.{page_bytes}
use Rattle.sdbm_addr.specs.Layout.{bytes_of_page}
use Rattle.sdbm_addr.specs.Database.{Database, map_of, pairs_at}
use Rattle.sdbm_saves.specs.Parts.{ReadsPage}
use Rattle.sdbm_addr.specs.Files.{SpellsDatabase, AreFiles}
use Rattle.sdbm_files.specs.Opened.{IsOpenFault, SpellsNoDatabase}
use Rattle.sdbm_files.specs.FaultText.{fault_text as open_text}
use Rattle.sdbm_files.specs.Limits.{pag_limit, FitsFiles}
use Rattle.sdbm_files.specs.declared.opening.OpenFault.{OpenFault}
use Rattle.sdbm_files.specs.declared.opening.OpenFault.TheVariants as open_faults
use Rattle.store_cmd.specs.declared.Command.{Command}
use Rattle.store_cmd.specs.declared.Command.TheVariants as commands
use Rattle.store_cmd.specs.declared.Reply.{Reply}
use Rattle.store_cmd.specs.declared.Reply.TheVariants as replies
use Rattle.store_cmd.specs.declared.SizeFault.TheVariants as sizes
use Rattle.store_cmd.specs.Command.{IsSmall, IsSizeFault, FitsBlank, IsRunFault}
use Rattle.bpf_helpers.specs.Runs.{argument_limit}
use Rattle.store_moves.specs.Acts.{Acts}
use Rattle.bpf_verify.specs.Verified.{Accepted}
use Rattle.prog_registry.specs.FaultText.{fault_text}
use Rattle.prog_registry.specs.Registry.{Registered, GivesNumber, RefusesImage}
use Rattle.prog_registry.specs.declared.registry.ProgId.{ProgId}
use Rattle.prog_registry.specs.declared.fault.RegFault.{RegFault}
use Rattle.prog_registry.specs.declared.fault.RegFault.TheVariants as faults
use Rattle.boddurci_handles.specs.declared.opened.Db.{Db}
use Rattle.boddurci_handles.specs.declared.status.Status.{Status}
use Rattle.boddurci_handles.specs.declared.status.Status.TheVariants.{Done, Missing, Exists, Crowded, ShortRoom, Refused, BadText, BadFiles, Changed, Stale, Closed, Open, PairTooLarge, ArgTooLong, NoProgram, NoMemory, TooLong, NoTicket, NoStock}
use Rattle.boddurci_handles.specs.Statuses.{status_code, status_of_reply}
use Rattle.boddurci_c.specs.Units.{unit_in, nowhere}
use Rattle.boddurci_handles.specs.Growth.{FitsWithin, Outgrows}
use Rattle.store_marks.specs.Marks.{HasMoreMarks}

-- ---- a handle before a call and after it

-- The handle was open and still is. P relates the databases before and after the call.
pub record At (old new : Option Db) (P : Db → Db → Type 0) : Type 0 where
  pub before : Db
  pub after : Db
  pub old_is : old ≡ Some before
  pub new_is : new ≡ Some after
  pub is : P before after

-- The handle was open and has not changed, and P holds for its database.
pub record HandleShows (old new : Option Db) (P : Db → Type 0) : Type 0 where
  pub db : Db
  pub old_is : old ≡ Some db
  pub same : new ≡ old
  pub is : P db

-- The reason why a call does nothing: the handle is closed, or P denies the call on its database with this status.
abbrev pub Why : (Db → Status → Type 0) → Option Db → Status → Type 0
Why P None status = status ≡ Closed
Why P (Some d) status = P d status

-- The call does nothing, for the reason that its status names.
pub record CallDenies (P : Db → Status → Type 0) (old : Option Db) (code : ℕ) (new : Option Db) : Type 0 where
  pub status : Status
  pub code_is : code ≡ status_code status
  pub same : new ≡ old
  pub why : Why P old status

-- no call of an open handle is denied
abbrev pub Never : Db → Status → Type 0
Never d status = ⊥

-- ---- commands

-- A command is executed as session 0. The programs, the limit, the base and all marks stay. A database that fits in the longest
-- `.pag` still fits, and one within the limit stays within it.
pub record DoesCommand (d : Db) (command : Command Global) (reply : Reply Global) (d' : Db) : Type 0 where
  pub acts : Acts d.image (record { session = 0; command = command; reply = reply }) d'.image
  pub fits : FitsFiles d.image → FitsFiles d'.image
  pub within : FitsWithin d.limit d.image → FitsWithin d.limit d'.image
  pub registry : d'.registry ≡ d.registry
  pub limit : d'.limit ≡ d.limit
  pub base : d'.base ≡ d.base
  pub marks : HasMoreMarks d.marks d'.marks

-- A command is denied: its size is invalid; or its size is valid, and memory ran out or `.pag` would be too long.
abbrev pub DeniesBy : Db → Command Global → Status → Type 0
DeniesBy d command Done = ⊥
DeniesBy d command Missing = ⊥
DeniesBy d command Exists = ⊥
DeniesBy d command Crowded = ⊥
DeniesBy d command ShortRoom = ⊥
DeniesBy d command Refused = ⊥
DeniesBy d command BadText = ⊥
DeniesBy d command BadFiles = ⊥
DeniesBy d command Changed = ⊥
DeniesBy d command Stale = ⊥
DeniesBy d command Closed = ⊥
DeniesBy d command Open = ⊥
DeniesBy d command PairTooLarge = IsSizeFault d.image.size command sizes.PairTooLarge
DeniesBy d command ArgTooLong = IsSizeFault d.image.size command sizes.ArgTooLong
DeniesBy d command NoProgram = ⊥
DeniesBy d command NoMemory = IsSmall d.image.size command
DeniesBy d command TooLong = IsSmall d.image.size command × Outgrows d.limit d.image command
DeniesBy d command NoTicket = ⊥
DeniesBy d command NoStock = ⊥

-- a command is executed, and the status is that of its reply
pub record CallAnswers (command : Command Global) (old : Option Db) (code : ℕ) (new : Option Db) : Type 0 where
  pub reply : Reply Global
  pub code_is : code ≡ status_code (status_of_reply reply)
  pub does : At old new (λ d d'. DoesCommand d command reply d')

-- a call executes the command, or denies it
abbrev pub CallSays : Command Global → Option Db → ℕ → Option Db → Type 0
CallSays command old code new = CallAnswers command old code new ⊎ CallDenies (λ d status. DeniesBy d command status) old code new

-- the mode of a store: 0 means `Insert`, and any other number means `Replace`
abbrev pub mode_for : ℕ → Mode
mode_for replace = cond (replace == 0) Insert Replace

-- ---- buffers

-- bytes or numbers are written to the front of a buffer; the rest is unchanged
pub record IsRoomFilled {X : Type 0} (bytes old new : List X) : Type 0 where
  pub fits : length bytes ≤ length old
  pub filled : take (length bytes) new ≡ bytes
  pub rest : drop (length bytes) new ≡ drop (length bytes) old

-- The items are written, or the buffer is too short and unchanged. `len` is the number of items either way.
abbrev pub IsCopied : {X : Type 0} → List X → List X → List X → ℕ → Status → Type 0
IsCopied bytes old new len Done = (len ≡ length bytes) × IsRoomFilled bytes old new
IsCopied bytes old new len Missing = ⊥
IsCopied bytes old new len Exists = ⊥
IsCopied bytes old new len Crowded = ⊥
IsCopied bytes old new len ShortRoom = (len ≡ length bytes) × ((length old < length bytes) × (new ≡ old))
IsCopied bytes old new len Refused = ⊥
IsCopied bytes old new len BadText = ⊥
IsCopied bytes old new len BadFiles = ⊥
IsCopied bytes old new len Changed = ⊥
IsCopied bytes old new len Stale = ⊥
IsCopied bytes old new len Closed = ⊥
IsCopied bytes old new len Open = ⊥
IsCopied bytes old new len PairTooLarge = ⊥
IsCopied bytes old new len ArgTooLong = ⊥
IsCopied bytes old new len NoProgram = ⊥
IsCopied bytes old new len NoMemory = ⊥
IsCopied bytes old new len TooLong = ⊥
IsCopied bytes old new len NoTicket = ⊥
IsCopied bytes old new len NoStock = ⊥

-- The text of a fault is written to a buffer, or the buffer is too short for it.
pub record IsFaultTold (text old new : List ℕ) (len : ℕ) : Type 0 where
  pub status : Status
  pub copied : IsCopied text old new len status

-- A fault is reported by its status and its text. If there is no memory for the text, the status is `NoMemory`, and no text is
-- written.
abbrev pub IsToldAs : Status → List ℕ → List ℕ → List ℕ → ℕ → Status → Type 0
IsToldAs status text old new len result = ((result ≡ status) × IsFaultTold text old new len) ⊎ ((result ≡ NoMemory) × ((new ≡ old) × (len ≡ 0)))

-- ---- a fetch

-- the answer of a fetch on an open database
abbrev pub FetchesIn : List ℕ → Db → Status → List ℕ → List ℕ → ℕ → ℕ → Type 0
FetchesIn key d status room_old room_new len_old len =
    ((value : List ℕ) × ((map.get (map_of d.image) key ≡ Some value) × IsCopied value room_old room_new len status))
    ⊎ ((map.get (map_of d.image) key ≡ None) × ((status ≡ Missing) × ((room_new ≡ room_old) × (len ≡ len_old))))

pub record Fetches (key : List ℕ) (old : Option Db) (code : ℕ) (new : Option Db) (room_old room_new : List ℕ) (len_old len : ℕ) : Type 0 where
  pub status : Status
  pub code_is : code ≡ status_code status
  pub told : HandleShows old new (λ d. FetchesIn key d status room_old room_new len_old len)

-- ---- a count

pub record CountsPairs (old : Option Db) (code : ℕ) (new : Option Db) (count : ℕ) : Type 0 where
  pub code_is : code ≡ status_code Done
  pub is : HandleShows old new (λ d. count ≡ map.len (map_of d.image))

-- ---- programs

-- only the programs differ
pub record IsSameBesidePrograms (d d' : Db) : Type 0 where
  pub image : d'.image ≡ d.image
  pub marks : d'.marks ≡ d.marks
  pub limit : d'.limit ≡ d.limit
  pub base : d'.base ≡ d.base

-- A program image gets its number, or is refused with a fault. Only the programs may change.
abbrev pub Submits : List ℕ → Result ProgId RegFault → Db → Db → Type 0
Submits image (Ok id) d d' = GivesNumber d.registry image id.0 d'.registry × IsSameBesidePrograms d d'
Submits image (Err fault) d d' = RefusesImage d.registry image fault d'.registry × IsSameBesidePrograms d d'

-- the status of a fault
abbrev pub status_of_fault : RegFault → Status
status_of_fault faults.NoMemory = NoMemory
status_of_fault (faults.Decode fault) = Refused
status_of_fault (faults.Verify fault) = Refused
status_of_fault faults.Full = Refused

-- a program image gets a number
pub record NumbersProgram (image : List ℕ) (old : Option Db) (code : ℕ) (new : Option Db) (id : ℕ) : Type 0 where
  pub code_is : code ≡ status_code Done
  pub submits : At old new (Submits image (Ok (record { 0 = id })))

-- a program image is refused; the unit and the text of the fault are reported
pub record Rejects (image : List ℕ) (old : Option Db) (code : ℕ) (new : Option Db) (unit : ℕ) (room_old room_new : List ℕ) (len : ℕ) : Type 0 where
  pub fault : RegFault
  pub unit_is : unit ≡ unwrap_or (unit_in fault) nowhere
  pub submits : At old new (Submits image (Err fault))
  pub status : Status
  pub code_is : code ≡ status_code status
  pub text : IsToldAs (status_of_fault fault) (fault_text fault) room_old room_new len status

-- the length of the blank record of a run, if one is given
abbrev pub blank_for : ℕ → ℕ → Option ℕ
blank_for has_blank len = cond (has_blank == 0) None (Some len)

-- a run of the program with a number has this reply
pub record RunsBy (number : ℕ) (key arg : List ℕ) (blank : Option ℕ) (now : ℕ) (reply : Reply Global) (d d' : Db) : Type 0 where
  pub program : Accepted
  pub there : slice_get d.registry.programs number ≡ Some program
  pub does : DoesCommand d (commands.Run key program.code arg blank now) reply d'

-- A run is denied: there is no such program; or its sizes are invalid; or its sizes are valid, and memory ran out or `.pag`
-- would be too long.
abbrev pub DeniesRun : ℕ → List ℕ → List ℕ → Option ℕ → ℕ → Db → Status → Type 0
DeniesRun number key arg blank now d Done = ⊥
DeniesRun number key arg blank now d Missing = ⊥
DeniesRun number key arg blank now d Exists = ⊥
DeniesRun number key arg blank now d Crowded = ⊥
DeniesRun number key arg blank now d ShortRoom = ⊥
DeniesRun number key arg blank now d Refused = ⊥
DeniesRun number key arg blank now d BadText = ⊥
DeniesRun number key arg blank now d BadFiles = ⊥
DeniesRun number key arg blank now d Changed = ⊥
DeniesRun number key arg blank now d Stale = ⊥
DeniesRun number key arg blank now d Closed = ⊥
DeniesRun number key arg blank now d Open = ⊥
DeniesRun number key arg blank now d PairTooLarge = IsSome (slice_get d.registry.programs number) × IsRunFault d.image.size key arg blank sizes.PairTooLarge
DeniesRun number key arg blank now d ArgTooLong = IsSome (slice_get d.registry.programs number) × IsRunFault d.image.size key arg blank sizes.ArgTooLong
DeniesRun number key arg blank now d NoProgram = slice_get d.registry.programs number ≡ None
DeniesRun number key arg blank now d NoMemory = IsSome (slice_get d.registry.programs number) × (FitsBlank d.image.size key blank × (length arg ≤ argument_limit))
DeniesRun number key arg blank now d TooLong =
    (program : Accepted) × ((slice_get d.registry.programs number ≡ Some program)
    × ((FitsBlank d.image.size key blank × (length arg ≤ argument_limit)) × Outgrows d.limit d.image (commands.Run key program.code arg blank now)))
DeniesRun number key arg blank now d NoTicket = ⊥
DeniesRun number key arg blank now d NoStock = ⊥

-- A run is not put under a ticket: there is no such program; or its sizes are invalid; or its sizes are valid, and memory ran
-- out. Its result is not known yet, so the reason is never that `.pag` is too long.
abbrev pub DeniesAsk : ℕ → List ℕ → List ℕ → Option ℕ → ℕ → Db → Status → Type 0
DeniesAsk number key arg blank now d Done = ⊥
DeniesAsk number key arg blank now d Missing = ⊥
DeniesAsk number key arg blank now d Exists = ⊥
DeniesAsk number key arg blank now d Crowded = ⊥
DeniesAsk number key arg blank now d ShortRoom = ⊥
DeniesAsk number key arg blank now d Refused = ⊥
DeniesAsk number key arg blank now d BadText = ⊥
DeniesAsk number key arg blank now d BadFiles = ⊥
DeniesAsk number key arg blank now d Changed = ⊥
DeniesAsk number key arg blank now d Stale = ⊥
DeniesAsk number key arg blank now d Closed = ⊥
DeniesAsk number key arg blank now d Open = ⊥
DeniesAsk number key arg blank now d PairTooLarge = IsSome (slice_get d.registry.programs number) × IsRunFault d.image.size key arg blank sizes.PairTooLarge
DeniesAsk number key arg blank now d ArgTooLong = IsSome (slice_get d.registry.programs number) × IsRunFault d.image.size key arg blank sizes.ArgTooLong
DeniesAsk number key arg blank now d NoProgram = slice_get d.registry.programs number ≡ None
DeniesAsk number key arg blank now d NoMemory = IsSome (slice_get d.registry.programs number) × (FitsBlank d.image.size key blank × (length arg ≤ argument_limit))
DeniesAsk number key arg blank now d TooLong = ⊥
DeniesAsk number key arg blank now d NoTicket = ⊥
DeniesAsk number key arg blank now d NoStock = ⊥

-- the exit number and the reply word of a run; zeros if the program did not run
abbrev pub IsRunEnd : Reply Global → ℕ → ℕ → Type 0
IsRunEnd (replies.Ran c w) code word = (code ≡ c) × (word ≡ w)
IsRunEnd (replies.Found value) code word = (code ≡ 0) × (word ≡ 0)
IsRunEnd replies.Missing code word = (code ≡ 0) × (word ≡ 0)
IsRunEnd replies.Stored code word = (code ≡ 0) × (word ≡ 0)
IsRunEnd replies.Exists code word = (code ≡ 0) × (word ≡ 0)
IsRunEnd replies.Crowded code word = (code ≡ 0) × (word ≡ 0)
IsRunEnd replies.Deleted code word = (code ≡ 0) × (word ≡ 0)
IsRunEnd (replies.Count n) code word = (code ≡ 0) × (word ≡ 0)

pub record RunsProgram (number : ℕ) (key arg : List ℕ) (blank : Option ℕ) (now : ℕ) (old : Option Db) (code : ℕ) (new : Option Db) (end word : ℕ) : Type 0 where
  pub reply : Reply Global
  pub code_is : code ≡ status_code (status_of_reply reply)
  pub does : At old new (RunsBy number key arg blank now reply)
  pub told : IsRunEnd reply end word

-- ---- files

-- The bytes of both files are written to their buffers, or one buffer is too short and both are unchanged.
abbrev pub AreCopied : List ℕ → List ℕ → List ℕ → List ℕ → List ℕ → List ℕ → Status → Type 0
AreCopied dir pag dir_old dir_new pag_old pag_new Done = IsRoomFilled dir dir_old dir_new × IsRoomFilled pag pag_old pag_new
AreCopied dir pag dir_old dir_new pag_old pag_new Missing = ⊥
AreCopied dir pag dir_old dir_new pag_old pag_new Exists = ⊥
AreCopied dir pag dir_old dir_new pag_old pag_new Crowded = ⊥
AreCopied dir pag dir_old dir_new pag_old pag_new ShortRoom = ((length dir_old < length dir) ⊎ (length pag_old < length pag)) × ((dir_new ≡ dir_old) × (pag_new ≡ pag_old))
AreCopied dir pag dir_old dir_new pag_old pag_new Refused = ⊥
AreCopied dir pag dir_old dir_new pag_old pag_new BadText = ⊥
AreCopied dir pag dir_old dir_new pag_old pag_new BadFiles = ⊥
AreCopied dir pag dir_old dir_new pag_old pag_new Changed = ⊥
AreCopied dir pag dir_old dir_new pag_old pag_new Stale = ⊥
AreCopied dir pag dir_old dir_new pag_old pag_new Closed = ⊥
AreCopied dir pag dir_old dir_new pag_old pag_new Open = ⊥
AreCopied dir pag dir_old dir_new pag_old pag_new PairTooLarge = ⊥
AreCopied dir pag dir_old dir_new pag_old pag_new ArgTooLong = ⊥
AreCopied dir pag dir_old dir_new pag_old pag_new NoProgram = ⊥
AreCopied dir pag dir_old dir_new pag_old pag_new NoMemory = ⊥
AreCopied dir pag dir_old dir_new pag_old pag_new TooLong = ⊥
AreCopied dir pag dir_old dir_new pag_old pag_new NoTicket = ⊥
AreCopied dir pag dir_old dir_new pag_old pag_new NoStock = ⊥

-- `dir` and `pag` are the files of a database. If the database fits in the longest `.pag`, `pag` has at most `pag_limit` bytes.
pub record HasFiles (dir pag : List ℕ) (d : Db) : Type 0 where
  pub files : AreFiles d.image dir pag
  pub short : FitsFiles d.image → length pag ≤ pag_limit
  pub spells : SpellsDatabase d.image dir pag

pub record WritesFiles (old : Option Db) (code : ℕ) (new : Option Db) (dir_old dir_new pag_old pag_new : List ℕ) (dir_len pag_len : ℕ) : Type 0 where
  pub dir : List ℕ
  pub pag : List ℕ
  pub has : HandleShows old new (HasFiles dir pag)
  pub dir_len_is : dir_len ≡ length dir
  pub pag_len_is : pag_len ≡ length pag
  pub status : Status
  pub code_is : code ≡ status_code status
  pub copied : AreCopied dir pag dir_old dir_new pag_old pag_new status

-- memory ran out
abbrev pub LacksMemory : Db → Status → Type 0
LacksMemory d status = status ≡ NoMemory

-- ---- marks

-- the numbers of the pages that may have changed are written to a buffer, or the buffer is too short
pub record ListsChanged (old : Option Db) (code : ℕ) (new : Option Db) (numbers_old numbers_new : List ℕ) (count : ℕ) : Type 0 where
  pub status : Status
  pub code_is : code ≡ status_code status
  pub is : HandleShows old new (λ d. IsCopied d.marks numbers_old numbers_new count status)

-- the pages with these numbers are marked in addition to the earlier ones, and everything else stays
pub record HasMarked (numbers : List ℕ) (d d' : Db) : Type 0 where
  pub image : d'.image ≡ d.image
  pub registry : d'.registry ≡ d.registry
  pub limit : d'.limit ≡ d.limit
  pub base : d'.base ≡ d.base
  pub marks : HasMoreMarks d.marks d'.marks
  pub each : (n : ℕ) → Contains numbers n → Contains d'.marks n

pub record Remarks (numbers : List ℕ) (old : Option Db) (code : ℕ) (new : Option Db) : Type 0 where
  pub code_is : code ≡ status_code Done
  pub is : At old new (HasMarked numbers)

-- ---- a limit

-- the limit becomes the number of whole pages in the given bytes, and everything else stays
pub record HasLimit (bytes : ℕ) (d d' : Db) : Type 0 where
  pub limit : d'.limit ≡ bytes / page_bytes d.image.size
  pub image : d'.image ≡ d.image
  pub registry : d'.registry ≡ d.registry
  pub marks : d'.marks ≡ d.marks
  pub base : d'.base ≡ d.base

pub record SetsLimit (bytes : ℕ) (old : Option Db) (code : ℕ) (new : Option Db) : Type 0 where
  pub code_is : code ≡ status_code Done
  pub is : At old new (HasLimit bytes)

-- ---- opening

-- no programs and no verdicts
abbrev pub empty_registry : Registered
empty_registry = record { programs = []; recent = record { verdicts = []; recalls = 0 } }

-- the hash kind and the page size
abbrev pub kind_for : ℕ → KeyBytes
kind_for unsigned_keys = cond (unsigned_keys == 0) Signed Unsigned

abbrev pub size_for : ℕ → PageSize
size_for wide = cond (wide == 0) Small Wide

-- The opened database is the only one that the bytes of both files spell. It has no programs, it is its own base, and its limit
-- is the longest `.pag`. Each unmarked page of the file is as a save would write it.
pub record IsDbOpened (kind : KeyBytes) (size : PageSize) (dir pag : List ℕ) (d : Db) : Type 0 where
  pub spells : SpellsDatabase d.image dir pag
  pub kind_is : d.image.kind ≡ kind
  pub size_is : d.image.size ≡ size
  pub only : (db : Database) → db.kind ≡ kind → db.size ≡ size → SpellsDatabase db dir pag → db ≡ d.image
  pub programs : d.registry ≡ empty_registry
  pub fits : length pag ≤ pag_limit → FitsFiles d.image
  pub limit : d.limit ≡ pag_limit / page_bytes size
  pub base : d.base.database ≡ d.image
  pub reads : (n : ℕ) → (Contains d.marks n → ⊥) → ReadsPage size pag n (bytes_of_page size (pairs_at d.image n))

-- Each unmarked whole page of a file reads as a save of the database would write it.
abbrev pub ReadsUnmarked : Database → List ℕ → List ℕ → Type 0
ReadsUnmarked db pag marks = (n : ℕ) → n < length pag / page_bytes db.size → (Contains marks n → ⊥) → ReadsPage db.size pag n (bytes_of_page db.size (pairs_at db n))

-- a closed handle was opened
pub record OpensHandle (kind : KeyBytes) (size : PageSize) (dir pag : List ℕ) (old : Option Db) (code : ℕ) (new : Option Db) : Type 0 where
  pub db : Db
  pub code_is : code ≡ status_code Done
  pub old_is : old ≡ None
  pub new_is : new ≡ Some db
  pub is : IsDbOpened kind size dir pag db

-- the status of a fault on opening
abbrev pub status_of_open : OpenFault → Status
status_of_open open_faults.PagLength = BadFiles
status_of_open (open_faults.Page n fault) = BadFiles
status_of_open (open_faults.Dir fault) = BadFiles
status_of_open (open_faults.Misplaced n) = BadFiles
status_of_open open_faults.NoMemory = NoMemory

-- the files have a fault, whose text is reported; the handle stays closed
pub record Faults (kind : KeyBytes) (size : PageSize) (dir pag : List ℕ) (old : Option Db) (code : ℕ) (new : Option Db) (room_old room_new : List ℕ) (len : ℕ) : Type 0 where
  pub fault : OpenFault
  pub status : Status
  pub code_is : code ≡ status_code status
  pub closed : old ≡ None
  pub same : new ≡ None
  pub is : IsOpenFault kind size dir pag fault
  pub none : fault ≢ open_faults.NoMemory → SpellsNoDatabase kind size dir pag
  pub text : IsToldAs (status_of_open fault) (open_text fault) room_old room_new len status

-- nothing is opened: memory ran out, or the handle is already open
pub record OpensNot (old : Option Db) (code : ℕ) (new : Option Db) : Type 0 where
  pub same : new ≡ old
  pub why : ((code ≡ status_code NoMemory) × (old ≡ None)) ⊎ ((code ≡ status_code Open) × IsSome old)

abbrev pub OpensOr : KeyBytes → PageSize → List ℕ → List ℕ → Option Db → ℕ → Option Db → List ℕ → List ℕ → ℕ → ℕ → Type 0
OpensOr kind size dir pag old code new room_old room_new len_old len =
    OpensHandle kind size dir pag old code new
    ⊎ (Faults kind size dir pag old code new room_old room_new len ⊎ (OpensNot old code new × ((room_new ≡ room_old) × (len ≡ len_old))))

-- 1 if a handle is open, otherwise 0
abbrev pub open_word : Option Db → ℕ
open_word None = 0
open_word (Some db) = 1
