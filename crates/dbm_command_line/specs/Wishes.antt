-- The requests that the arguments of the command line make.
use Rattle.std.specs.Prelude.{◌≡◌, ◌≢◌, ◌⊎◌, ⊤, Bool, true, false, not, List, Option, Some, None, codes, find, if◌then◌else◌, is_some, option_map}
use Rattle.std.specs.Option.{option_map_or}
use Rattle.std.specs.Str.{bytes_eq}
use Rattle.std.specs.Borrow.{Bor}
use Rattle.clap.specs.Words.{IsAmong, Kinds, Row, Text, kind_of}
use Rattle.clap.specs.declared.error.kind.ErrorKind.TheVariants.{DisplayHelp, DisplayVersion, OutOfMemory}
use Rattle.clap.specs.declared.error.Error.{Error}
use Rattle.dbm_command_line.specs.Tool.{tool}
use Rattle.dbm_args.specs.Given.{IsAccessOf, has_words}
use Rattle.dbm_dump.specs.Backup.{BackupAsks}
use Rattle.dbm_dump.specs.Compact.{CompactAsks, compact_head}
use Rattle.dbm_dump.specs.Dump.{DumpAsks, dump_head}
use Rattle.dbm_dump.specs.Load.{LoadAsks, load_head}
use Rattle.dbm_databases.specs.Count.{CountAsks, count_head}
use Rattle.dbm_databases.specs.Check.{CheckAsks, check_head}
use Rattle.dbm_databases.specs.Keys.{KeysAsks, keys_head}
use Rattle.dbm_databases.specs.List.{ListAsks, list_head}
use Rattle.dbm_databases.specs.Stats.{StatsAsks, stats_head}
use Rattle.dbm_records.specs.Delete.{DeleteAsks, delete_head}
use Rattle.dbm_records.specs.Fetch.{FetchAsks, fetch_head}
use Rattle.dbm_records.specs.Rename.{RenameAsks, rename_head}
use Rattle.dbm_records.specs.Store.{StoreAsks, store_head}
use Rattle.dbm_programs.specs.Asm.{AsmAsks, asm_head}
use Rattle.dbm_programs.specs.Disasm.{DisasmAsks, disasm_head}
use Rattle.dbm_programs.specs.Programs.{ProgramsAsks}
use Rattle.dbm_programs.specs.Verify.{VerifyAsks, verify_head}
use Rattle.dbm_records.specs.Batch.{BatchAsks, each_core, batch_head}
use Rattle.dbm_records.specs.Run.{RunAsks, run_head}
use Rattle.dbm_records.specs.Incr.{IncrAsks, incr_head}
use Rattle.dbm_records.specs.Each.{EachAsks, each_head}
use Rattle.dbm_databases.specs.Script.{ScriptAsks, script_head}
use Rattle.dbm_databases.specs.Widen.{WidenAsks, widen_head}
use Rattle.dbm_session.specs.Session.{SessionAsks}
use Rattle.dbm_script.specs.declared.shorthand.TimeOfDay.{TimeOfDay}
use Rattle.dbm_command_line.specs.declared.fault.ToolFault.{ToolFault}
use Rattle.dbm_command_line.specs.declared.fault.ToolFault.TheVariants.{Refused, NoMemory, NoWord}
use Rattle.dbm_args.specs.declared.options.Access.{Access}
use Rattle.dbm_args.specs.declared.options.Head.{Head}
use Rattle.dbm_args.specs.declared.options.TimeUnit.{TimeUnit}
use Rattle.dbm_args.specs.declared.options.TimeUnit.TheVariants.{Seconds, Milliseconds}
use Rattle.dbm_command_line.specs.declared.wish.Ask.{Ask}
use Rattle.dbm_command_line.specs.declared.wish.Ask.TheVariants as ask
use Rattle.dbm_command_line.specs.declared.wish.Wish.{Wish}
use Rattle.dbm_command_line.specs.declared.wish.Wish.TheVariants as wish

-- the head of a request: its files, and the notation of its bytes
abbrev pub head_of : Wish → Head
head_of (wish.Fetch fetch) = fetch_head fetch
head_of (wish.Store store) = store_head store
head_of (wish.Delete delete) = delete_head delete
head_of (wish.Rename rename) = rename_head rename
head_of (wish.Run run) = run_head run
head_of (wish.Incr incr) = incr_head incr
head_of (wish.Each each) = each_head each
head_of (wish.Batch batch) = batch_head batch
head_of (wish.List list) = list_head list
head_of (wish.Keys keys) = keys_head keys
head_of (wish.Count count) = count_head count
head_of (wish.Check check) = check_head check
head_of (wish.Stats stats) = stats_head stats
head_of (wish.Script script) = script_head script
head_of (wish.Widen widen) = widen_head widen
head_of (wish.Compact compact) = compact_head compact
head_of (wish.Dump dump) = dump_head dump
head_of (wish.Load load) = load_head load
head_of (wish.Asm asm) = asm_head asm
head_of (wish.Disasm disasm) = disasm_head disasm
head_of (wish.Verify verify) = verify_head verify

-- the database of a request
abbrev pub wish_base : Wish → Option Text
wish_base wish = option_map (λ text. text.now) (head_of wish).base

-- the program file of a request
abbrev pub wish_file : Wish → Option Text
wish_file wish = option_map (λ text. text.now) (head_of wish).file

-- the request may change its database, which is saved afterwards
abbrev pub writes_files : Wish → Bool
writes_files wish = (head_of wish).writes

-- the unit of `now` or `now-ms`, which request the time of day; `None` for any other time
abbrev pub unit_named : Text → Option TimeUnit
unit_named word = if bytes_eq word (codes "now") then Some Seconds else if bytes_eq word (codes "now-ms") then Some Milliseconds else None

-- the unit of the time of day, if a request needs it
abbrev pub time_asked : Wish → Option TimeUnit
time_asked (wish.Run run) = unit_named run.now.now
time_asked (wish.Each each) = unit_named each.now.now
time_asked _ = None

-- the same request, with this time for its runs
abbrev pub with_time : Bor Text → Wish → Wish
with_time time (wish.Run run) = wish.Run (record run { now = time })
with_time time (wish.Each each) = wish.Each (record each { now = time })
with_time time other = other

-- the lines of standard input may request the time of day
abbrev pub asks_clock : Wish → Bool
asks_clock (wish.Script script) = script.clock
asks_clock (wish.Batch batch) = batch.clock
asks_clock _ = false

-- the request is a batch with one worker per core
abbrev pub asks_cores : Wish → Bool
asks_cores (wish.Batch batch) = bytes_eq batch.workers.now each_core
asks_cores _ = false

-- the same request, with this number of workers
abbrev pub with_workers : Bor Text → Wish → Wish
with_workers workers (wish.Batch batch) = wish.Batch (record batch { workers = workers })
with_workers workers other = other

-- the same request, with this time for its lines
abbrev pub with_clock : TimeOfDay → Wish → Wish
with_clock time (wish.Script script) = wish.Script (record script { time = Some time })
with_clock time (wish.Batch batch) = wish.Batch (record batch { time = Some time })
with_clock time other = other

-- The request is that of the subcommand with this name, with these arguments and options.
abbrev pub WishAsks : Text → List Row → Wish → Type 0
WishAsks name rows (wish.Fetch fetch) = (name ≡ codes "fetch") × FetchAsks rows fetch
WishAsks name rows (wish.Store store) = (name ≡ codes "store") × StoreAsks rows store
WishAsks name rows (wish.Delete delete) = (name ≡ codes "delete") × DeleteAsks rows delete
WishAsks name rows (wish.Rename rename) = (name ≡ codes "rename") × RenameAsks rows rename
WishAsks name rows (wish.Run run) = (name ≡ codes "run") × RunAsks rows run
WishAsks name rows (wish.Incr incr) = (name ≡ codes "incr") × IncrAsks rows incr
WishAsks name rows (wish.Each each) = (name ≡ codes "each") × EachAsks rows each
WishAsks name rows (wish.Batch batch) = (name ≡ codes "batch") × BatchAsks rows batch
WishAsks name rows (wish.List list) = (name ≡ codes "list") × ListAsks rows list
WishAsks name rows (wish.Keys keys) = (name ≡ codes "keys") × KeysAsks rows keys
WishAsks name rows (wish.Count count) = (name ≡ codes "count") × CountAsks rows count
WishAsks name rows (wish.Check check) = (name ≡ codes "check") × CheckAsks rows check
WishAsks name rows (wish.Stats stats) = (name ≡ codes "stats") × StatsAsks rows stats
WishAsks name rows (wish.Script script) = (name ≡ codes "script") × ScriptAsks rows script
WishAsks name rows (wish.Widen widen) = (name ≡ codes "widen") × WidenAsks rows widen
WishAsks name rows (wish.Compact compact) = (name ≡ codes "compact") × CompactAsks rows compact
WishAsks name rows (wish.Dump dump) = (name ≡ codes "dump") × DumpAsks rows dump
WishAsks name rows (wish.Load load) = (name ≡ codes "load") × LoadAsks rows load
WishAsks name rows (wish.Asm asm) = (name ≡ codes "asm") × AsmAsks rows asm
WishAsks name rows (wish.Disasm disasm) = (name ≡ codes "disasm") × DisasmAsks rows disasm
WishAsks name rows (wish.Verify verify) = (name ≡ codes "verify") × VerifyAsks rows verify

-- `WishAsks` for all subcommands, including `session`, `backup` and `programs`
abbrev pub SubcommandAsks : Text → List Row → Ask → Type 0
SubcommandAsks name rows (ask.Wish wish) = WishAsks name rows wish
SubcommandAsks name rows (ask.Session session) = (name ≡ codes "session") × SessionAsks rows session
SubcommandAsks name rows (ask.Backup backup) = (name ≡ codes "backup") × BackupAsks rows backup
SubcommandAsks name rows (ask.Programs programs) = (name ≡ codes "programs") × ProgramsAsks rows programs

-- the matches name a subcommand, and this is its request
abbrev pub IsRequestAsked : Option (Text × List Row) → Ask → Type 0
IsRequestAsked None asked = ⊥
IsRequestAsked (Some matches) asked = SubcommandAsks matches.0 matches.1 asked

-- the matches name a subcommand, and these are its options for access to a database
abbrev pub IsAccessGiven : Option (Text × List Row) → Access → Type 0
IsAccessGiven None access = ⊥
IsAccessGiven (Some matches) access = IsAccessOf matches.1 access

-- the matches name no subcommand of the program, or a required argument is missing
abbrev pub lacks_word : Option (Text × List Row) → Bool
lacks_word None = true
lacks_word (Some matches) = not (option_map_or (λ shape. has_words shape.rules matches.1)
    (find (λ shape. bytes_eq shape.name matches.0) tool.subs) false)

-- an error of `clap` becomes this fault
abbrev pub IsFaultOf : Error → ToolFault → Type 0
IsFaultOf error (Refused kept) = (kept ≡ error) × (kind_of error ≢ OutOfMemory)
IsFaultOf error NoMemory = kind_of error ≡ OutOfMemory
IsFaultOf error NoWord = ⊥

-- if `clap` refused the arguments, the kind of its error is one of these
abbrev pub IsRefusedFor : Kinds → ToolFault → Type 0
IsRefusedFor kinds (Refused error) = IsAmong (kind_of error) kinds
IsRefusedFor kinds _ = ⊤

-- the fault is the requested help or version
abbrev pub IsAnswer : ToolFault → Type 0
IsAnswer (Refused error) = (kind_of error ≡ DisplayHelp) ⊎ (kind_of error ≡ DisplayVersion)
IsAnswer _ = ⊥
