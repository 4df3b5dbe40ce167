-- Steps as calls.
use Rattle.std.proofs.Common.{◌≡◌, ℕ, suc, ◌+◌, ◌<◌, ◌^◌, List, [], ◌∷◌, ◌++◌, take, drop, get_or, refl, sym, ◌∙◌, ap, arith, append_assoc}
use Rattle.std.proofs.lemmas.List.{drop-drop}
use Rattle.sdbm_saves.specs.Acts.{Act, write}
use Rattle.sdbm_saves.specs.Redo.{number_at, file_of, offset_of, size_of, data_of, rest_of, count_of}
use Rattle.sdbm_log.specs.declared.steps.Step.{Step}
use Rattle.sdbm_log.specs.Protocol.{change_acts}
use Rattle.sdbm_log.specs.Steps.{act_of, acts_of}

pub acts_append : (bytes : List ℕ) (xs ys : List Step) → acts_of bytes (xs ++ ys) ≡ acts_of bytes xs ++ acts_of bytes ys
acts_append bytes [] ys = refl
acts_append bytes (x ∷ xs) ys = ap (λ (l : List Act). act_of bytes x ∷ l) (acts_append bytes xs ys)

-- a change that is in a buffer
pub change_in : (bytes change : List ℕ) (from : ℕ) → drop from bytes ≡ change → take (size_of change) (drop (from + 9) bytes) ≡ data_of change
change_in bytes change from is = ap (λ (l : List ℕ). take (size_of change) l) (sym (drop-drop 9 from bytes) ∙ ap (λ (l : List ℕ). drop 9 l) is)

-- one more change is done, and one less remains
pub next_change : (done all next : List Act) (n k : ℕ) (rest : List ℕ) → n ≡ suc k → done ++ change_acts n rest ≡ all → next ≡ done ++ write (file_of rest) (offset_of rest) (data_of rest) ∷ [] → next ++ change_acts k (rest_of rest) ≡ all
next_change done all next n k rest one so_far is =
    let first : Act = write (file_of rest) (offset_of rest) (data_of rest) in
    ap (λ (l : List Act). l ++ change_acts k (rest_of rest)) is
    ∙ append_assoc done (first ∷ []) (change_acts k (rest_of rest))
    ∙ ap (λ m. done ++ change_acts m rest) (sym one)
    ∙ so_far

-- two lists of calls, one after the other
pub then_acts : (old first second last more : List Act) → second ≡ old ++ first → last ≡ second ++ more → last ≡ old ++ (first ++ more)
then_acts old first second last more one two = two ∙ ap (λ (l : List Act). l ++ more) one ∙ append_assoc old first more

pub small_count : (plan : List ℕ) → ((i : ℕ) → get_or plan i 0 < 256) → count_of plan < 2 ^ 32
unfolding number_at
small_count plan small = omega (arith, small 24, small (24 + 1), small (24 + 2), small (24 + 3))
