-- The outcomes of calls that a session makes in order.
use Rattle.std.specs.Prelude.{◌≡◌, List, [], ◌∷◌, ◌++◌, Result, Ok, Err}
use Rattle.store_cmd.specs.declared.Command.{Command}
use Rattle.store_cmd.specs.declared.Reply.{Reply}
use Rattle.store_cmd.specs.declared.Refusal.{Refusal}
use Rattle.store_cmd.specs.declared.Entry.{Entry}
use Rattle.store_shared.specs.declared.serving.AnsweredCall.{AnsweredCall}
use Rattle.store_cmd.specs.Command.{IsSmall}
use Rattle.store_shared.specs.Shared.{SessionState, with_call, IsReplyTo, IsRefusal}

-- The outcome of a call. If the call is answered, its size was valid and the session has one more call. If it is refused, the
-- session is unchanged.
abbrev pub IsCall : {A : Type 0} → SessionState A → Command A → Result (Reply A) Refusal → SessionState A → Type 0
IsCall s command (Ok reply) s' = (s' ≡ with_call s command reply) × (IsSmall s.size command × IsReplyTo s.number command reply)
IsCall s command (Err refusal) s' = (s' ≡ s) × IsRefusal s.size command refusal

-- calls in order, with the outcome of each
abbrev pub AreCalls : {A : Type 0} → SessionState A → List (Command A) → List (Result (Reply A) Refusal) → SessionState A → Type 0
AreCalls s [] [] s' = s' ≡ s
AreCalls s [] (out ∷ outs) s' = ⊥
AreCalls s (command ∷ commands) [] s' = ⊥
AreCalls {A} s (command ∷ commands) (out ∷ outs) s' = (mid : SessionState A) × (IsCall s command out mid × AreCalls mid commands outs s')

-- the outcomes of these calls are appended to the earlier outcomes
pub record AreAnswered {A : Type 0} (s : SessionState A) (commands : List (Command A)) (old : List (Result (Reply A) Refusal)) (s' : SessionState A) (new : List (Result (Reply A) Refusal)) : Type 0 where
  pub outcomes : List (Result (Reply A) Refusal)
  pub added : new ≡ old ++ outcomes
  pub calls : AreCalls s commands outcomes s'

-- the entry of an answered call is appended to the entries, and the outcome of any call to the outcomes
abbrev pub IsNoted : {A : Type 0} → Result (AnsweredCall A) Refusal → List (Entry A) → List (Entry A) → List (Result (Reply A) Refusal) → List (Result (Reply A) Refusal) → Type 0
IsNoted (Ok served) entries entries' outcomes outcomes' = (entries' ≡ entries ++ served.entry ∷ []) × (outcomes' ≡ outcomes ++ Ok served.reply ∷ [])
IsNoted (Err refusal) entries entries' outcomes outcomes' = (entries' ≡ entries) × (outcomes' ≡ outcomes ++ Err refusal ∷ [])
