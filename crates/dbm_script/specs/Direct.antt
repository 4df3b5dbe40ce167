-- The fast path, which answers a line without building a command.
use Rattle.std.specs.Prelude.{◌≡◌, ℕ, Bool, true, false, List, codes, None}
use Rattle.bpf_verify.specs.Verified.{Accepted}
use Rattle.sdbm_addr.specs.Database.{Database}
use Rattle.sdbm_addr.specs.declared.Mode.{Mode}
use Rattle.sdbm_addr.specs.declared.Mode.TheVariants.{Insert, Replace}
use Rattle.store_cmd.specs.declared.Command.{Command}
use Rattle.dbm_script.specs.Lines.{ask_of}
use Rattle.dbm_script.specs.Script.{AddsBytes, AnswersCommand, AnswersLine, stage}
use Rattle.dbm_script.specs.declared.notations.Notation.{Notation}

-- the name of a store command
abbrev pub store_name : Mode → List ℕ
store_name Insert = codes "insert"
store_name Replace = codes "replace"

-- if true, the line was run and its answer appended; if false, nothing changed
abbrev pub IfDone : (A : Type 0) → Notation A → List Accepted → List (List ℕ) → Bool → Database → List ℕ → Database → List ℕ → Type 0
IfDone A notation programs words true db old db' new = AddsBytes old new (λ added. AnswersLine A notation (stage db programs) (ask_of notation words) None added (stage db' programs))
IfDone A notation programs words false db old db' new = (db' ≡ db) × (new ≡ old)

-- if true, the command was run and its answer appended; if false, nothing changed
abbrev pub IfAnswered : (A : Type 0) → Notation A → Command A → Bool → Database → List ℕ → Database → List ℕ → Type 0
IfAnswered A notation command true db old db' new = AddsBytes old new (λ added. AnswersCommand A notation db command added db')
IfAnswered A notation command false db old db' new = (db' ≡ db) × (new ≡ old)
