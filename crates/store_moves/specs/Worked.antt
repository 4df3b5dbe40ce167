-- Results of commands, as the functions return them.
use Rattle.std.specs.Prelude.{◌≡◌, ℕ, Bool, true, false, cond, List, Option, Some, None, slice_set, remove}
use Rattle.std.specs.Option.{option_map}
use Rattle.sdbm_addr.specs.declared.Mode.{Mode}
use Rattle.sdbm_addr.specs.Pairs.{Pair, Content, value_of, key_at, value_at}
use Rattle.sdbm_split.specs.Planned.{PageChange}
use Rattle.bpf_helpers.specs.Runs.{Outcome}
use Rattle.store_cmd.specs.Answers.{saves, removes}
use Rattle.store_cmd.specs.declared.Command.{Command}
use Rattle.store_cmd.specs.declared.Command.TheVariants as commands
use Rattle.store_cmd.specs.declared.Reply.{Reply}
use Rattle.store_cmd.specs.declared.Reply.TheVariants.{Found, Missing, Stored, Exists, Crowded, Deleted, Ran, Count}
use Rattle.store_moves.specs.declared.worked.Worked.{Worked}
use Rattle.store_moves.specs.declared.worked.Site.{Site}
use Rattle.store_moves.specs.declared.runs.RunInput.{RunInput}
use Rattle.store_moves.specs.Works.{PageResult, change_of, is_kept, stored_unless, leaf_alone, stored_by, run_on, EndsOn, outcome_there, outcome_anew}

-- `worked` is the result `wanted`
pub record IsWorked {A : Type 0} (wanted : PageResult A) (worked : Worked A) : Type 0 where
  pub reply : worked.reply ≡ wanted.reply
  pub change : option_map change_of worked.change ≡ wanted.change

-- True if the reply may need memory: for the found value, for the changed pages, or for the page on which a program runs.
abbrev pub takes_memory : {A : Type 0} → Reply A → Bool
takes_memory (Found value) = true
takes_memory Stored = true
takes_memory Deleted = true
takes_memory (Ran code word) = true
takes_memory Missing = false
takes_memory Exists = false
takes_memory Crowded = false
takes_memory (Count n) = false

-- True if a command allocates only to change its page.
abbrev pub is_change : {A : Type 0} → Command A → Bool
is_change (commands.Fetch key) = false
is_change (commands.Store key value mode) = true
is_change (commands.Delete key) = true
is_change (commands.Run key program argument blank now) = false
is_change commands.Count = false

-- ---- stores

-- a page with the size of a site, and these pairs
abbrev pub page_on : Site → List Pair → Content
page_on site pairs = record { size = site.size; pairs = pairs }

-- the result of a store on the page of a site
abbrev pub stored_on : {A : Type 0} → Site → List Pair → List ℕ → List ℕ → Mode → PageResult A
stored_on site pairs key value mode = stored_unless (is_kept mode (value_of pairs key)) site.kind (page_on site pairs) key value site.place.depth

-- ---- runs

-- the result of a run on the page of a site
abbrev pub run_by : {A : Type 0} → Site → List Pair → RunInput A → PageResult A
run_by site pairs input = run_on site.kind (page_on site pairs) site.place.depth input.session input.key.now input.program.now.code input.arg.now input.time (value_of pairs input.key.now) input.blank

-- the run ends, or has nothing to run on
abbrev pub EndsBy : {A : Type 0} → List Pair → RunInput A → Type 0
EndsBy pairs input = EndsOn input.session input.program.now.code input.arg.now input.time (value_of pairs input.key.now) input.blank

-- the outcome of a run on a value, and on a blank
abbrev pub outcome_on : {A : Type 0} → RunInput A → List ℕ → Option Outcome
outcome_on input value = outcome_there input.session input.program.now.code input.arg.now input.time value

abbrev pub outcome_of_blank : {A : Type 0} → RunInput A → ℕ → Option Outcome
outcome_of_blank input len = outcome_anew input.session input.program.now.code input.arg.now input.time len

-- the change of a page by a run on the value of pair i
abbrev pub left_at : Content → ℕ → Outcome → Option PageChange
left_at page i o =
    cond (saves o.code) (Some (leaf_alone page.size (slice_set page.pairs i (key_at page.pairs i, o.bytes))))
    (cond (removes o.code) (Some (leaf_alone page.size (remove page.pairs i))) None)

-- a program was run on the value of pair i
pub record IsRunAt {A : Type 0} (page : Content) (i : ℕ) (input : RunInput A) (worked : Worked A) : Type 0 where
  pub outcome : Outcome
  pub is : outcome_on input (value_at page.pairs i) ≡ Some outcome
  pub reply : worked.reply ≡ Ran outcome.code outcome.word
  pub change : option_map change_of worked.change ≡ left_at page i outcome

-- the result of a run on a blank with this outcome; `saved` is true if the record is to be stored
abbrev pub stored_from : {A : Type 0} → Bool → Site → List Pair → RunInput A → Outcome → PageResult A
stored_from saved site pairs input o = stored_by saved site.kind (page_on site pairs) input.key.now site.place.depth o

-- a program was run on a blank, for a key that is not on the page
pub record IsRunAnew {A : Type 0} (site : Site) (pairs : List Pair) (input : RunInput A) (len : ℕ) (worked : Worked A) : Type 0 where
  pub outcome : Outcome
  pub is : outcome_of_blank input len ≡ Some outcome
  pub worked_is : IsWorked (stored_from (saves outcome.code) site pairs input outcome) worked

-- the run saves its record, and storing the record may need memory
pub record WantsAnew {A : Type 0} (site : Site) (pairs : List Pair) (input : RunInput A) (len : ℕ) : Type 0 where
  pub outcome : Outcome
  pub is : outcome_of_blank input len ≡ Some outcome
  pub saved : saves outcome.code ≡ true
  pub takes : takes_memory (stored_from true site pairs input outcome).reply ≡ true
