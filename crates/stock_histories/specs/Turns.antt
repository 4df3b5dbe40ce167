-- The runs on one key in a history, and the premises of the laws on them.
use Rattle.std.specs.Prelude.{ℕ, ◌≡◌, ◌≢◌, ◌+◌, ◌^◌, ◌<◌, ◌≤◌, ◌==◌, cond, List, [], ◌∷◌, ◌++◌, length, Option, Some, None}
use Rattle.std.specs.Option.{option_to_list}
use Rattle.std.specs.FinMap as map
use Rattle.sdbm_addr.specs.declared.KeyBytes.{KeyBytes}
use Rattle.sdbm_addr.specs.declared.PageSize.{PageSize}
use Rattle.sdbm_addr.specs.Pairs.{Map, same_key}
use Rattle.bpf_insn.specs.declared.insn.Insn.{Insn}
use Rattle.bpf_helpers.specs.Runs.{AreBytes, record_limit}
use Rattle.store_cmd.specs.declared.Command.{Command}
use Rattle.store_cmd.specs.declared.Command.TheVariants.{Fetch, Store, Delete, Run, Count}
use Rattle.store_cmd.specs.declared.Reply.{Reply}
use Rattle.store_cmd.specs.declared.Reply.TheVariants.{Ran}
use Rattle.store_cmd.specs.declared.Entry.{Entry}
use Rattle.store_cmd.specs.History.{History}

-- ---- turns

-- A run on the key: its session, argument and time, and the answer.
pub record Turn : Type 0 where
  pub session : ℕ
  pub argument : List ℕ
  pub now : ℕ
  pub code : ℕ
  pub word : ℕ

-- The turn of an entry, if it is a run on the key that was answered with a code.
abbrev pub turn_in : {A : Type 0} → List ℕ → ℕ → Command A → Reply A → Option Turn
turn_in key session (Run own program argument blank now) (Ran code word) =
    cond (same_key key own) (Some (record { session = session; argument = argument; now = now; code = code; word = word })) None
turn_in key session command reply = None

-- The turns of the key, in order.
abbrev pub turns_of : {A : Type 0} → List ℕ → List (Entry A) → List Turn
turns_of key [] = []
turns_of key (e ∷ es) = option_to_list (turn_in key e.session e.command e.reply) ++ turns_of key es

-- The number of turns that were answered with code 1.
abbrev pub accepted_in : List Turn → ℕ
accepted_in [] = 0
accepted_in (t ∷ ts) = cond (t.code == 1) 1 0 + accepted_in ts

-- The times of the turns never fall, and none is before `from`.
abbrev pub NeverFalls : ℕ → List Turn → Type 0
NeverFalls from [] = Unit {0}
NeverFalls from (t ∷ ts) = (from ≤ t.now) × NeverFalls t.now ts

-- ---- one program on a key

-- If the command may change the key, it is a run of the program. Fetches, counts and commands on other keys are allowed.
abbrev pub OnlyRuns : {A : Type 0} → List Insn → List ℕ → Command A → Type 0
OnlyRuns program key (Fetch own) = Unit {0}
OnlyRuns program key (Store own value mode) = own ≢ key
OnlyRuns program key (Delete own) = own ≢ key
OnlyRuns program key (Run own its argument blank now) = own ≡ key → its ≡ program
OnlyRuns program key Count = Unit {0}

abbrev pub RunsAlone : {A : Type 0} → List Insn → List ℕ → List (Entry A) → Type 0
RunsAlone program key [] = Unit {0}
RunsAlone program key (e ∷ es) = OnlyRuns program key e.command × RunsAlone program key es

-- The bytes of an argument are below 256, and times below 2 ^ 64. Every command of the library meets this.
abbrev pub HasWords : {A : Type 0} → Command A → Type 0
HasWords (Fetch own) = Unit {0}
HasWords (Store own value mode) = Unit {0}
HasWords (Delete own) = Unit {0}
HasWords (Run own its argument blank now) = AreBytes argument × (now < 2 ^ 64)
HasWords Count = Unit {0}

-- The same for all entries; session numbers are below 2 ^ 64, too.
abbrev pub HaveWords : {A : Type 0} → List (Entry A) → Type 0
HaveWords [] = Unit {0}
HaveWords (e ∷ es) = HasWords e.command × ((e.session < 2 ^ 64) × HaveWords es)

-- The key's value, if any, consists of bytes and is no longer than a record may be.
abbrev pub IsRecord : Option (List ℕ) → Type 0
IsRecord r = (value : List ℕ) → r ≡ Some value → AreBytes value × (length value ≤ record_limit)

-- The premises that all laws share: a legal history that changes the key only by runs of one program.
pub record IsAlone {A : Type 0} (program : List Insn) (size : PageSize) (kind : KeyBytes) (m : Map) (es : List (Entry A)) (m' : Map) (key : List ℕ)
    : Type 0 where
  pub legal : History size kind m es m'
  pub start : IsRecord (map.get m key)
  pub words : HaveWords es
  pub alone : RunsAlone program key es
