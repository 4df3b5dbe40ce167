-- The condition under which the calls handed in close a store, and the condition of each fault.
use Rattle.std.specs.Prelude.{◌≡◌, ◌≢◌, ℕ, ◌+◌, ◌<◌, ◌≤◌, ◌==◌, nat_eq, Bool, true, false, List, length, map, take, Some, slice_index_or}
use Rattle.std.specs.List.{All, IsDistinct, filter, list_any, slice_get}
use Rattle.store_cmd.specs.declared.Entry.{Entry}
use Rattle.desk_core.specs.Desk.{DeskState}
use Rattle.store_shared.specs.declared.close.CloseFault.{CloseFault}
use Rattle.store_shared.specs.declared.close.CloseFault.TheVariants.{Stranger, Double, Missing, Torn, Opening}
use Rattle.store_shared.specs.Shared.{Opened, CallsState}

-- the calls of a session among entries, in their order
abbrev pub calls_of : {A : Type 0} → ℕ → List (Entry A) → List (Entry A)
calls_of {A} session entries = filter (λ (e : Entry A). e.session == session) entries

abbrev pub numbers_of : {A : Type 0} → List (CallsState A) → List ℕ
numbers_of {A} handed = map (λ (calls : CallsState A). calls.number) handed

-- true if a session's calls are among the calls handed in
abbrev pub is_among : {A : Type 0} → ℕ → List (CallsState A) → Bool
is_among {A} number handed = list_any (λ (calls : CallsState A). number == calls.number) handed

-- no session number occurs twice among the calls handed in
abbrev pub AreDistinct : {A : Type 0} → List (CallsState A) → Type 0
AreDistinct handed = IsDistinct nat_eq (numbers_of handed)

-- the calls handed in for a session equal its calls in the trail
abbrev pub Agrees : {A : Type 0} → List (Entry A) → CallsState A → Type 0
Agrees entries calls = calls_of calls.number entries ≡ calls.calls

-- for every entry, the calls of its session were handed in
abbrev pub Covers : {A : Type 0} → List (Entry A) → List (CallsState A) → Type 0
Covers {A} entries handed = All (λ (e : Entry A). is_among e.session handed ≡ true) entries

-- every number belongs to one of the `made` sessions, and no number occurs twice
pub record AreOwn {A : Type 0} (made : ℕ) (handed : List (CallsState A)) : Type 0 where
  pub given : All (λ (calls : CallsState A). calls.number < made) handed
  pub distinct : AreDistinct handed

-- `Stranger` if no session has the number; `Double` if calls earlier in the list have the number too
abbrev pub IsStrange : {A : Type 0} → ℕ → List (CallsState A) → ℕ → CloseFault → Type 0
IsStrange made others number (Stranger s) = (number ≡ s) × (made ≤ number)
IsStrange made others number (Double s) = (number ≡ s) × ((number < made) × (is_among number others ≡ true))
IsStrange made others number (Missing s) = ⊥
IsStrange made others number (Torn s) = ⊥
IsStrange made others number Opening = ⊥

-- the fault `Stranger` or `Double` of the first number in the list that has one
pub record IsFirstStrange {A : Type 0} (made : ℕ) (handed : List (CallsState A)) (fault : CloseFault) : Type 0 where
  pub at : ℕ
  pub calls : CallsState A
  pub here : slice_get handed at ≡ Some calls
  pub own : AreOwn made (take at handed)
  pub strange : IsStrange made (take at handed) calls.number fault

-- the first entry whose session handed in no calls
pub record IsFirstMissing {A : Type 0} (entries : List (Entry A)) (handed : List (CallsState A)) (session : ℕ) : Type 0 where
  pub at : ℕ
  pub entry : Entry A
  pub here : slice_get entries at ≡ Some entry
  pub covered : Covers (take at entries) handed
  pub session_is : entry.session ≡ session
  pub missing : is_among session handed ≡ false

-- the first calls in the list that differ from those of their session in the trail
pub record IsFirstTorn {A : Type 0} (entries : List (Entry A)) (handed : List (CallsState A)) (session : ℕ) : Type 0 where
  pub at : ℕ
  pub calls : CallsState A
  pub here : slice_get handed at ≡ Some calls
  pub agree : All (Agrees entries) (take at handed)
  pub session_is : calls.number ≡ session
  pub torn : calls_of calls.number entries ≢ calls.calls

-- the first session that is missing or whose calls are torn
abbrev pub IsFirstApart : {A : Type 0} → List (Entry A) → List (CallsState A) → CloseFault → Type 0
IsFirstApart entries handed (Stranger n) = ⊥
IsFirstApart entries handed (Double n) = ⊥
IsFirstApart entries handed (Missing n) = IsFirstMissing entries handed n
IsFirstApart entries handed (Torn n) = Covers entries handed × IsFirstTorn entries handed n
IsFirstApart entries handed Opening = ⊥

-- the entries of a session are the first `count` of the calls handed in for it
pub record IsFollowed {A : Type 0} (entries : List (Entry A)) (calls : CallsState A) (count : ℕ) : Type 0 where
  pub within : count ≤ length calls.calls
  pub same : calls_of calls.number entries ≡ take count calls.calls

-- `IsFollowed` for all calls handed in, each with its own count
abbrev pub AreFollowed : {A : Type 0} → List (Entry A) → List (CallsState A) → List ℕ → Type 0
AreFollowed {A} entries handed counts = (k : ℕ) (d : CallsState A) → k < length handed → IsFollowed entries (slice_index_or handed k d) (slice_index_or counts k 0)

-- below index n, each count is the number of calls handed in
abbrev pub AreWhole : {A : Type 0} → List (CallsState A) → List ℕ → ℕ → Type 0
AreWhole {A} handed counts n = (k : ℕ) (d : CallsState A) → k < n → slice_index_or counts k 0 ≡ length (slice_index_or handed k d).calls

-- an entry is the next call of a session after `count` calls
pub record IsNext {A : Type 0} (calls : CallsState A) (count : ℕ) (entry : Entry A) (next : ℕ) : Type 0 where
  pub next_is : next ≡ count + 1
  pub session_is : entry.session ≡ calls.number
  pub here : slice_get calls.calls count ≡ Some entry

-- the desk has the hash kind and page size with which the store was opened, and its trail begins with the same pairs
pub record IsStartedSo {A : Type 0} (s : DeskState A) (opened : Opened) : Type 0 where
  pub kind : s.database.kind ≡ opened.kind
  pub size : s.database.size ≡ opened.size
  pub opening : s.opening ≡ opened.opening

-- the condition of each fault of closing, for a desk and a number of sessions
abbrev pub IsCloseFault : {A : Type 0} → DeskState A → ℕ → Opened → List (CallsState A) → CloseFault → Type 0
IsCloseFault s made opened handed (Stranger n) = IsFirstStrange made handed (Stranger n)
IsCloseFault s made opened handed (Double n) = IsFirstStrange made handed (Double n)
IsCloseFault s made opened handed (Missing n) = AreOwn made handed × IsFirstMissing s.entries handed n
IsCloseFault s made opened handed (Torn n) = AreOwn made handed × (Covers s.entries handed × IsFirstTorn s.entries handed n)
IsCloseFault s made opened handed Opening = AreOwn made handed × (Covers s.entries handed × (All (Agrees s.entries) handed × ¬ (IsStartedSo s opened)))

-- `IsCloseFault` for some desk and some number of sessions. A contract cannot name the desk and the number under a store's
-- lock.
abbrev pub IsRefusedClose : {A : Type 0} → Opened → List (CallsState A) → CloseFault → Type 0
IsRefusedClose {A} opened handed fault = (s : DeskState A) × ((made : ℕ) × IsCloseFault s made opened handed fault)

-- The calls may close the store. A number that no session has is allowed here, with an empty list of calls.
pub record MayClose {A : Type 0} (s : DeskState A) (opened : Opened) (handed : List (CallsState A)) : Type 0 where
  pub distinct : AreDistinct handed
  pub covers : Covers s.entries handed
  pub agree : All (Agrees s.entries) handed
  pub started : IsStartedSo s opened
