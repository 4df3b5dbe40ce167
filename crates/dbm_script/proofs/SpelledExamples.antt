-- Examples of lines with expanded shorthand.
use Rattle.std.proofs.Common.{◌≡◌, [], ◌∷◌, ◌++◌, Option, Some, None, codes, decimal, refl}
use Rattle.dbm_script.specs.Lines.{ask_of}
use Rattle.dbm_script.specs.Pieces.{pieces_of}
use Rattle.dbm_script.specs.Shorthand.{spelled_line}
use Rattle.dbm_script.specs.Tasks.{task_of}
use Rattle.dbm_script.specs.declared.notations.Notation.{Notation}
use Rattle.dbm_script.specs.declared.shorthand.LineKind.{LineKind}
use Rattle.dbm_script.specs.declared.shorthand.LineKind.TheVariants.{OfBatch, OfScript}
use Rattle.dbm_script.specs.declared.shorthand.TimeOfDay.{TimeOfDay}

a_comment : (time : Option TimeOfDay) → spelled_line OfScript time (codes "# put 61 31") ≡ []
a_comment time = refl

a_key_is_no_comment : spelled_line OfBatch None (codes "#1 . 8 0") ≡ codes "#1 . 8 0"
a_key_is_no_comment = refl

an_empty_line : (time : Option TimeOfDay) → spelled_line OfScript time [] ≡ []
an_empty_line time = refl

another_name : (time : Option TimeOfDay) → spelled_line OfScript time (codes "put 61 31") ≡ codes "replace 61 31"
another_name time = refl

a_full_name : (time : Option TimeOfDay) → spelled_line OfScript time (codes "insert 61 31") ≡ codes "insert 61 31"
a_full_name time = refl

a_key_is_no_name : (time : TimeOfDay) → spelled_line OfBatch (Some time) (codes "get . 8 now") ≡ codes "get . 8 " ++ decimal time.seconds
a_key_is_no_name time = refl

thousandths : (time : TimeOfDay) → spelled_line OfScript (Some time) (codes "run now 0 . 8 now-ms") ≡ codes "run now 0 . 8 " ++ decimal time.millis
thousandths time = refl

no_clock : spelled_line OfScript None (codes "run 61 0 . 8 now") ≡ codes "run 61 0 . 8 now"
no_clock = refl

a_value_is_no_time : (time : Option TimeOfDay) → spelled_line OfScript time (codes "insert 61 now") ≡ codes "insert 61 now"
a_value_is_no_time time = refl

cr_lf : (lines : LineKind) (time : Option TimeOfDay) → spelled_line lines time (codes "count" ++ 13 ∷ []) ≡ 13 ∷ []
cr_lf OfScript time = refl
cr_lf OfBatch time = refl

-- a single CR is neither a request nor a task in any notation
asks_nothing : {A : Type 0} (notation : Notation A) → (ask_of notation (pieces_of 32 (13 ∷ [])) ≡ None) × (task_of notation (pieces_of 32 (13 ∷ [])) ≡ None)
asks_nothing notation = (refl, refl)
