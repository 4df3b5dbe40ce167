-- Loading a dump into a database.
use Rattle.std.specs.Prelude.{◌≡◌, ◌⊎◌, ℕ, ◌+◌, ◌<◌, ◌++◌, Bool, true, false, List, [], ◌∷◌, length, Option, Some, None, IsSomeAnd, ⊤}
use Rattle.std.specs.declared.alloc.Global.{Global}
use Rattle.sdbm_addr.specs.declared.PageSize.{PageSize}
use Rattle.sdbm_addr.specs.declared.Mode.{Mode}
use Rattle.sdbm_addr.specs.Database.{Database}
use Rattle.sdbm_addr.specs.Pairs.{Pair, pair_limit}
use Rattle.store_cmd.specs.declared.Command.TheVariants.{Store}
use Rattle.store_cmd.specs.declared.Entry.{Entry}
use Rattle.store_cmd.specs.declared.Reply.{Reply}
use Rattle.store_cmd.specs.declared.Reply.TheVariants as reply
use Rattle.store_moves.specs.Acts.{Acts}
use Rattle.dbm_script.specs.LineInput.{GivesNextLine, IsLongNext}
use Rattle.dbm_dump.specs.Steps.{is_end, line_step}
use Rattle.dbm_dump.specs.Reading.{Read, lines_of, pair_list, pairs_in_dump, read}
use Rattle.dbm_dump.specs.declared.fault.DumpFault.{DumpFault}
use Rattle.dbm_dump.specs.declared.fault.DumpFault.TheVariants as fault
use Rattle.dbm_dump.specs.declared.loading.Loading.{Loading}
use Rattle.dbm_dump.specs.Heads.{IsHead, IsReported}
use Rattle.dbm_dump.specs.declared.key_head.KeyHead.{KeyHead}
use Rattle.dbm_dump.specs.declared.stage.Role.{Role}
use Rattle.dbm_dump.specs.declared.stage.Role.TheVariants.{Key, Value}
use Rattle.dbm_dump.specs.declared.stage.Stage.{Stage}
use Rattle.dbm_dump.specs.declared.stage.Stage.TheVariants.{Within}
use Rattle.dbm_dump.specs.declared.stage.Next.{Next}

-- the longest line, in bytes
abbrev pub line_limit : ℕ
line_limit = 16384

-- ---- storing pairs

-- the entry of a trail for storing a pair
abbrev pub store_entry : Mode → Reply Global → Pair → Entry Global
store_entry mode answer e = record { session = 0; command = Store e.0 e.1 mode; reply = answer }

-- the pair is stored, or its key exists and the mode keeps existing pairs
abbrev pub is_pair_done : Reply Global → Bool
is_pair_done reply.Stored = true
is_pair_done reply.Exists = true
is_pair_done _ = false

-- A pair is stored by one move, that of `replace` or `insert`.
abbrev pub StoresOne : Mode → Database → Pair → Database → Type 0
StoresOne mode before e after = (answer : Reply Global) × ((is_pair_done answer ≡ true) × Acts before (store_entry mode answer e) after)

-- The pairs are stored in order, one move each. `after` is the database after the last one.
abbrev pub StoresAll : Mode → Database → List Pair → Database → Type 0
StoresAll mode before [] after = after ≡ before
StoresAll mode before (e ∷ es) after = (mid : Database) × (StoresOne mode before e mid × StoresAll mode mid es after)

-- The text is a dump, and its `count` pairs were stored. The resulting database is unique.
pub record IsLoaded (start : Stage) (mode : Mode) (before : Database) (input : List ℕ) (count : ℕ) (after : Database) : Type 0 where
  pub pairs : List Pair
  pub reads : pairs_in_dump start input ≡ Some pairs
  pub stores : StoresAll mode before pairs after
  pub count_is : count ≡ length pairs
  pub only : (other : Database) → StoresAll mode before pairs other → other ≡ after

-- ---- faults

-- the length of the unfinished datum
abbrev pub open_len : Stage → ℕ
open_len (Within seen role len text) = len
open_len _ = 0

-- the key of the unfinished value
abbrev pub key_in : Role → Option (List ℕ)
key_in Key = None
key_in (Value key) = Some key

abbrev pub open_key : Stage → Option (List ℕ)
open_key (Within seen role len text) = key_in role
open_key _ = None

-- the pair is over the size limit, and the fault reports its key
abbrev pub IsLargePair : PageSize → Option KeyHead → Pair → Type 0
IsLargePair size key e = (pair_limit size < length e.0 + length e.1) × IsReported (Some e.0) key

-- The pair in a line, or the length of its key or value, is over the size limit. The fault reports the key if it is known.
abbrev pub IsLarge : PageSize → Option KeyHead → Next → Type 0
IsLarge size key s = ((pair_limit size < open_len s.stage) × IsReported (open_key s.stage) key) ⊎ IsSomeAnd s.pair (IsLargePair size key)

-- P holds for the line with this number, and for the stage and the database after all earlier lines. Line numbers count from 1.
pub record AtLine (start : Stage) (mode : Mode) (db : Database) (input : List ℕ) (number : ℕ) (P : Stage → Database → List ℕ → Type 0) : Type 0 where
  pub before : List (List ℕ)
  pub line : List ℕ
  pub behind : List (List ℕ)
  pub lines : lines_of input ≡ before ++ line ∷ behind
  pub number_is : number ≡ length before + 1
  pub so_far : Read
  pub reads : read start before ≡ Some so_far
  pub mid : Database
  pub stores : StoresAll mode db so_far.pairs mid
  pub holds : P so_far.stage mid line

-- the line is invalid at this stage
abbrev pub IsBad : Stage → Database → List ℕ → Type 0
IsBad stage mid line = line_step stage line ≡ None

abbrev pub IsOversized : PageSize → Option KeyHead → Stage → Database → List ℕ → Type 0
IsOversized size key stage mid line = ((line_limit < length line) × (key ≡ None)) ⊎ ((s : Next) × ((line_step stage line ≡ Some s) × IsLarge size key s))

-- the pair of a line does not fit in the database, and the fault reports its key
pub record FindsNoRoom (mode : Mode) (db : Database) (key : KeyHead) (next : Next) : Type 0 where
  pub pair : Pair
  pub pair_is : next.pair ≡ Some pair
  pub key_is : IsHead pair.0 key
  pub after : Database
  pub refused : Acts db (store_entry mode reply.Crowded pair) after

-- the pair of a line does not fit in the database
abbrev pub IsLineCrowded : Mode → KeyHead → Stage → Database → List ℕ → Type 0
IsLineCrowded mode key stage mid line = (next : Next) × ((line_step stage line ≡ Some next) × FindsNoRoom mode mid key next)

-- The dump is truncated: all its lines are valid and their pairs were stored, but it may not end after them.
pub record IsCutOff (start : Stage) (mode : Mode) (db : Database) (input : List ℕ) : Type 0 where
  pub all : Read
  pub reads : read start (lines_of input) ≡ Some all
  pub early : is_end all.stage ≡ false
  pub mid : Database
  pub stores : StoresAll mode db all.pairs mid

abbrev pub IsLoadFault : Stage → Mode → Database → List ℕ → DumpFault → Type 0
IsLoadFault start mode db input fault.BadFormat = ⊥
IsLoadFault start mode db input fault.Read = ⊤
IsLoadFault start mode db input (fault.BadDump number) = AtLine start mode db input number IsBad
IsLoadFault start mode db input (fault.TooLarge number key) = AtLine start mode db input number (IsOversized db.size key)
IsLoadFault start mode db input (fault.Crowded number key) = AtLine start mode db input number (IsLineCrowded mode key)
IsLoadFault start mode db input fault.CutOff = IsCutOff start mode db input
IsLoadFault start mode db input fault.NoMemory = ⊤

-- ---- one line

-- only an empty last piece is left, if the bytes are known
abbrev pub IsEmptyEnd : Option (List (List ℕ)) → Type 0
IsEmptyEnd None = ⊤
IsEmptyEnd (Some pieces) = pieces ≡ [] ∷ []

-- the next piece is returned as a line; an empty last piece is a line only if it is the first
abbrev pub GivesLine : ℕ → Option (List (List ℕ)) → Bool → List ℕ → Option (List (List ℕ)) → Type 0
GivesLine number left true line left' = GivesNextLine left true line left' × (left ≡ Some ([] ∷ []) → number ≡ 1)
GivesLine number left false line left' = GivesNextLine left false line left' ⊎ ((1 < number) × IsEmptyEnd left)

-- the line is too long, or reading failed for another reason
abbrev pub IsLineFault : ℕ → Option (List (List ℕ)) → DumpFault → Type 0
IsLineFault number left fault.BadFormat = ⊥
IsLineFault number left fault.Read = ⊤
IsLineFault number left (fault.BadDump n) = ⊥
IsLineFault number left (fault.TooLarge n key) = (n ≡ number) × ((key ≡ None) × IsLongNext line_limit left)
IsLineFault number left (fault.Crowded n key) = ⊥
IsLineFault number left fault.CutOff = ⊥
IsLineFault number left fault.NoMemory = ⊤

-- a line was read, and its pair was stored if it has one
pub record TakesLine (mode : Mode) (old : Loading) (line : List ℕ) (new : Loading) : Type 0 where
  pub next : Next
  pub steps : line_step old.stage line ≡ Some next
  pub stage_is : new.stage ≡ next.stage
  pub stores : StoresAll mode old.image (pair_list next.pair) new.image
  pub count_is : new.count ≡ old.count + length (pair_list next.pair)
  pub kind : new.image.kind ≡ old.image.kind
  pub size : new.image.size ≡ old.image.size

-- a pair is too large or does not fit, and the fault reports its key
abbrev pub IsStoreFault : Mode → Database → Pair → ℕ → DumpFault → Type 0
IsStoreFault mode db e number fault.BadFormat = ⊥
IsStoreFault mode db e number fault.Read = ⊥
IsStoreFault mode db e number (fault.BadDump n) = ⊥
IsStoreFault mode db e number (fault.TooLarge n key) = (n ≡ number) × IsLargePair db.size key e
IsStoreFault mode db e number (fault.Crowded n key) = (n ≡ number) × (IsHead e.0 key × ((after : Database) × Acts db (store_entry mode reply.Crowded e) after))
IsStoreFault mode db e number fault.CutOff = ⊥
IsStoreFault mode db e number fault.NoMemory = ⊤

-- a line is invalid at this stage, or its pair is too large or does not fit
abbrev pub IsLoadStepFault : Mode → Loading → List ℕ → ℕ → DumpFault → Type 0
IsLoadStepFault mode loading line number fault.BadFormat = ⊥
IsLoadStepFault mode loading line number fault.Read = ⊥
IsLoadStepFault mode loading line number (fault.BadDump n) = (n ≡ number) × (line_step loading.stage line ≡ None)
IsLoadStepFault mode loading line number (fault.TooLarge n key) =
    (n ≡ number) × ((next : Next) × ((line_step loading.stage line ≡ Some next) × IsLarge loading.image.size key next))
IsLoadStepFault mode loading line number (fault.Crowded n key) = (n ≡ number) × IsLineCrowded mode key loading.stage loading.image line
IsLoadStepFault mode loading line number fault.CutOff = ⊥
IsLoadStepFault mode loading line number fault.NoMemory = ⊤
