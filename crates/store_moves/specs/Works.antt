-- The result of a command, computed from the page of its key alone.
use Rattle.std.specs.Prelude.{◌≡◌, ℕ, ◌%◌, ◌^◌, ◌≤◌, Bool, true, false, cond, is_some, List, [], ◌∷◌, map, replicate, Option, Some, None}
use Rattle.std.specs.List.{All}
use Rattle.std.specs.Option.{option_map}
use Rattle.std.specs.Borrow.{Bor}
use Rattle.sdbm_addr.specs.declared.KeyBytes.{KeyBytes}
use Rattle.sdbm_addr.specs.declared.PageSize.{PageSize}
use Rattle.sdbm_addr.specs.declared.Mode.{Mode}
use Rattle.sdbm_addr.specs.declared.Mode.TheVariants.{Insert, Replace}
use Rattle.sdbm_addr.specs.Hash.{hash_of}
use Rattle.sdbm_addr.specs.Directory.{hash_prefix, word_number}
use Rattle.sdbm_addr.specs.Pairs.{Pair, Content, IsPage, same_key, value_of, without}
use Rattle.sdbm_addr.specs.Splitting.{neighbors}
use Rattle.sdbm_dir.specs.declared.Place.{Place}
use Rattle.sdbm_split.specs.declared.Plan.{Plan}
use Rattle.sdbm_split.specs.Planned.{PageChange, planned, least_splits}
use Rattle.bpf_insn.specs.declared.insn.Insn.{Insn}
use Rattle.bpf_helpers.specs.Runs.{Outcome, run_outcome}
use Rattle.store_cmd.specs.declared.Command.{Command}
use Rattle.store_cmd.specs.declared.Command.TheVariants.{Fetch, Store, Delete, Run, Count}
use Rattle.store_cmd.specs.declared.Reply.{Reply}
use Rattle.store_cmd.specs.declared.Reply.TheVariants.{Found, Missing, Stored, Exists, Crowded, Deleted, Ran}
use Rattle.store_cmd.specs.Command.{IsSmall}
use Rattle.store_cmd.specs.Answers.{env_of, saves, removes}

-- a command's reply, and the change of its page, if any
pub record PageResult (A : Type 0) : Type 0 where
  pub reply : Reply A
  pub change : Option PageChange

-- a command that is about one key
abbrev pub HasKey : {A : Type 0} → Command A → Type 0
HasKey (Fetch key) = Unit {0}
HasKey (Store key value mode) = Unit {0}
HasKey (Delete key) = Unit {0}
HasKey (Run key program argument blank now) = Unit {0}
HasKey Count = ⊥

-- a command that is a run of a program
abbrev pub IsRun : {A : Type 0} → Command A → Type 0
IsRun (Fetch key) = ⊥
IsRun (Store key value mode) = ⊥
IsRun (Delete key) = ⊥
IsRun (Run key program argument blank now) = Unit {0}
IsRun Count = ⊥

-- the command's key
abbrev pub key_of : {A : Type 0} → Command A → List ℕ
key_of (Fetch key) = key
key_of (Store key value mode) = key
key_of (Delete key) = key
key_of (Run key program argument blank now) = key
key_of Count = []

-- the result of a fetch, given the key's value if it has one
abbrev pub fetched : {A : Type 0} → Option (List ℕ) → PageResult A
fetched None = record { reply = Missing; change = None }
fetched (Some value) = record { reply = Found value; change = None }

-- the change of a page without a split
abbrev pub leaf_alone : PageSize → List Pair → PageChange
leaf_alone size pairs = record { leaf = record { size = size; pairs = pairs }; twins = []; bits = [] }

-- the result of a delete; the remaining pairs keep their order
abbrev pub deleted : {A : Type 0} → PageSize → List Pair → List ℕ → Option (List ℕ) → PageResult A
deleted size pairs key None = record { reply = Missing; change = None }
deleted size pairs key (Some value) = record { reply = Deleted; change = Some (leaf_alone size (without key pairs)) }

-- the result of a store, given the least number of splits that makes room
abbrev pub placed : {A : Type 0} → KeyBytes → Content → List ℕ → List ℕ → ℕ → Option ℕ → PageResult A
placed kind page key value h None = record { reply = Crowded; change = None }
placed kind page key value h (Some t) = record { reply = Stored; change = Some (planned kind page key value h t) }

-- true if a store is refused because the key has a value
abbrev pub is_kept : Mode → Option (List ℕ) → Bool
is_kept Insert there = is_some there
is_kept Replace there = false

-- the result of a store; the first argument is true if the store is refused
abbrev pub stored_unless : {A : Type 0} → Bool → KeyBytes → Content → List ℕ → List ℕ → ℕ → PageResult A
stored_unless true kind page key value h = record { reply = Exists; change = None }
stored_unless false kind page key value h = placed kind page key value h (least_splits page.size (neighbors kind page.pairs key) key value h)

-- the result of a store of the first pair of a page
abbrev pub stored_first : {A : Type 0} → PageSize → List ℕ → List ℕ → PageResult A
stored_first size key value = record { reply = Stored; change = Some (leaf_alone size ((key, value) ∷ [])) }

-- ---- runs

-- the pairs with another value for a key, each in its old position
abbrev pub in_place : List ℕ → List ℕ → List Pair → List Pair
in_place key value = map (λ e. cond (same_key key e.0) (e.0, value) e)

-- The change of a page by a run on the value of a key: the record is saved in place, the pair is removed, or nothing changes.
abbrev pub left_on : PageSize → List Pair → List ℕ → Outcome → Option PageChange
left_on size pairs key o = cond (saves o.code) (Some (leaf_alone size (in_place key o.bytes pairs))) (cond (removes o.code) (Some (leaf_alone size (without key pairs))) None)

-- The result of a run on the value of a key. A run that does not end changes nothing; every run of an accepted program ends.
abbrev pub ran_on : {A : Type 0} → PageSize → List Pair → List ℕ → Option Outcome → PageResult A
ran_on size pairs key None = record { reply = Ran 0 0; change = None }
ran_on size pairs key (Some o) = record { reply = Ran o.code o.word; change = left_on size pairs key o }

-- the run's own reply if its record fits; otherwise `Crowded`
abbrev pub as_ran : {A : Type 0} → Reply A → Option PageChange → PageResult A
as_ran reply None = record { reply = Crowded; change = None }
as_ran reply (Some change) = record { reply = reply; change = Some change }

-- the result of a run whose record is stored like an insert if the program saves it
abbrev pub stored_by : {A : Type 0} → Bool → KeyBytes → Content → List ℕ → ℕ → Outcome → PageResult A
stored_by false kind page key h o = record { reply = Ran o.code o.word; change = None }
stored_by true kind page key h o = as_ran (Ran o.code o.word) (option_map (planned kind page key o.bytes h) (least_splits page.size (neighbors kind page.pairs key) key o.bytes h))

-- the result of a run on a blank, for a missing key
abbrev pub ran_anew : {A : Type 0} → KeyBytes → Content → List ℕ → ℕ → Option Outcome → PageResult A
ran_anew kind page key h None = record { reply = Ran 0 0; change = None }
ran_anew kind page key h (Some o) = stored_by (saves o.code) kind page key h o

-- the outcome of a session's run on the value of a key, and on a blank
abbrev pub outcome_there : ℕ → List Insn → List ℕ → ℕ → List ℕ → Option Outcome
outcome_there session program argument now value = run_outcome program value argument (env_of now true session)

abbrev pub outcome_anew : ℕ → List Insn → List ℕ → ℕ → ℕ → Option Outcome
outcome_anew session program argument now len = run_outcome program (replicate len 0) argument (env_of now false session)

-- the result of a run on the value of a key, or on a blank, or on neither
abbrev pub run_on : {A : Type 0} → KeyBytes → Content → ℕ → ℕ → List ℕ → List Insn → List ℕ → ℕ → Option (List ℕ) → Option ℕ → PageResult A
run_on kind page h session key program argument now (Some value) blank = ran_on page.size page.pairs key (outcome_there session program argument now value)
run_on kind page h session key program argument now None (Some len) = ran_anew kind page key h (outcome_anew session program argument now len)
run_on kind page h session key program argument now None None = record { reply = Missing; change = None }

-- the run ends, or has nothing to run on
abbrev pub EndsOn : ℕ → List Insn → List ℕ → ℕ → Option (List ℕ) → Option ℕ → Type 0
EndsOn session program argument now (Some value) blank = is_some (outcome_there session program argument now value) ≡ true
EndsOn session program argument now None (Some len) = is_some (outcome_anew session program argument now len) ≡ true
EndsOn session program argument now None None = Unit {0}

-- a command that is not a run, or a run that ends
abbrev pub HasEnd : {A : Type 0} → List Pair → ℕ → Command A → Type 0
HasEnd pairs session (Fetch key) = Unit {0}
HasEnd pairs session (Store key value mode) = Unit {0}
HasEnd pairs session (Delete key) = Unit {0}
HasEnd pairs session (Run key program argument blank now) = EndsOn session program argument now (value_of pairs key) blank
HasEnd pairs session Count = Unit {0}

-- ---- commands

-- The result of a session's command on the page of its place, in a database of this hash kind and page size. A delete removes
-- its pair, and a store appends the new pair at the end. A count has no page.
abbrev pub works : {A : Type 0} → Place → KeyBytes → PageSize → List Pair → ℕ → Command A → PageResult A
works place kind size pairs session (Fetch key) = fetched (value_of pairs key)
works place kind size pairs session (Store key value mode) = stored_unless (is_kept mode (value_of pairs key)) kind (record { size = size; pairs = pairs }) key value place.depth
works place kind size pairs session (Delete key) = deleted size pairs key (value_of pairs key)
works place kind size pairs session (Run key program argument blank now) = run_on kind (record { size = size; pairs = pairs }) place.depth session key program argument now (value_of pairs key) blank
works place kind size pairs session Count = record { reply = Missing; change = None }

-- a plan as the change of pages that it describes
abbrev pub change_of : {A : Type 0} → Plan A → PageChange
change_of plan = record { leaf = plan.leaf; twins = plan.twins.items; bits = plan.bits.items }

-- the pairs of a borrowed page; empty if there is no page
abbrev pub pairs_lent : Option (Bor Content) → List Pair
pairs_lent None = []
pairs_lent (Some page) = page.now.pairs

-- the pairs of an owned page; empty if there is no page
abbrev pub pairs_kept : Option Content → List Pair
pairs_kept None = []
pairs_kept (Some page) = page.pairs

-- a key leads to this place, and so does every key on the page
pub record IsPageOfKey (place : Place) (kind : KeyBytes) (size : PageSize) (pairs : List Pair) (key : List ℕ) : Type 0 where
  pub shallow : place.depth ≤ 31
  pub bit : place.bit ≡ word_number (hash_prefix place.depth (hash_of kind key))
  pub key_leads : hash_of kind key % 2 ^ place.depth ≡ place.page
  pub keys_lead : All (λ e. hash_of kind e.0 % 2 ^ place.depth ≡ place.page) pairs
  pub page : IsPage size pairs

-- a command whose result can be computed from a page
pub record IsWorkable {A : Type 0} (place : Place) (kind : KeyBytes) (size : PageSize) (pairs : List Pair) (command : Command A) : Type 0 where
  pub keyed : HasKey command
  pub small : IsSmall size command
  pub placed : IsPageOfKey place kind size pairs (key_of command)
