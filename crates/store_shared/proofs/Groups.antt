-- The outcomes grow call by call.
use Rattle.std.proofs.Common.{◌≡◌, ◌∙◌, sym, ap, subst, refl, arith, ℕ, List, [], ◌∷◌, ◌++◌, length}
use Rattle.std.specs.Prelude.{Result, Ok, Err, IfOk, IfErr, OnOk, Option, None}
use Rattle.std.specs.Vec.Iter.{into_iter_items, into_iter_len, into_iter_steps}
use Rattle.std.specs.declared.vec.IntoIter.{IntoIter}
use Rattle.std.proofs.lemmas.List.{append-nil, append_assoc, nil_from_length}
use Rattle.sdbm_addr.specs.declared.PageSize.{PageSize}
use Rattle.store_cmd.specs.declared.Entry.{Entry}
use Rattle.store_cmd.specs.declared.Command.{Command}
use Rattle.store_cmd.specs.declared.Reply.{Reply}
use Rattle.store_cmd.specs.declared.Refusal.{Refusal}
use Rattle.store_cmd.specs.Command.{IsSmall}
use Rattle.store_shared.specs.declared.serving.AnsweredCall.{AnsweredCall}
use Rattle.store_shared.specs.Shared.{SessionState, session_of, with_call, entry_of, IsReplyTo, IsRefusal}
use Rattle.store_shared.specs.Groups.{IsCall, AreCalls, AreAnswered, IsNoted}

-- one more call
calls_more : {A : Type 0} (s mid s' : SessionState A) (commands : List (Command A)) (outs : List (Result (Reply A) Refusal)) (command : Command A) (out : Result (Reply A) Refusal) → AreCalls s commands outs mid → IsCall mid command out s' → AreCalls s (commands ++ command ∷ []) (outs ++ out ∷ []) s'
calls_more {A} s mid s' [] [] command out same call = (s', (subst (λ (x : SessionState A). IsCall x command out s') same call, refl))
calls_more s mid s' [] (o ∷ os) command out before call = absurd before
calls_more s mid s' (c ∷ cs) [] command out before call = absurd before
calls_more s mid s' (c ∷ cs) (o ∷ os) command out before call = (before.0, (before.1.0, calls_more before.0 mid s' cs os command out before.1.1 call))

-- some of the calls were made, and these are left
pub record SoFar {A : Type 0} (s : SessionState A) (commands left : List (Command A)) (old : List (Result (Reply A) Refusal)) (s' : SessionState A) (new : List (Result (Reply A) Refusal)) : Type 0 where
  pub made : List (Command A)
  pub outcomes : List (Result (Reply A) Refusal)
  pub whole : commands ≡ made ++ left
  pub added : new ≡ old ++ outcomes
  pub calls : AreCalls s made outcomes s'

pub so_far_none : {A : Type 0} (s : SessionState A) (commands : List (Command A)) (old : List (Result (Reply A) Refusal)) → SoFar s commands commands old s old
so_far_none s commands old = record { made = []; outcomes = []; whole = refl; added = sym (append-nil old); calls = refl }

pub so_far_more : {A : Type 0} (s mid s' : SessionState A) (commands left rest : List (Command A)) (old new new' : List (Result (Reply A) Refusal)) (command : Command A) (out : Result (Reply A) Refusal)
    → SoFar s commands left old mid new → left ≡ command ∷ rest → IsCall mid command out s' → new' ≡ new ++ out ∷ [] → SoFar s commands rest old s' new'
so_far_more {A} s mid s' commands left rest old new new' command out h step call more = record {
  made = h.made ++ command ∷ [];
  outcomes = h.outcomes ++ out ∷ [];
  whole = h.whole ∙ (ap (λ (cs : List (Command A)). h.made ++ cs) step ∙ sym (append_assoc h.made (command ∷ []) rest));
  added = more ∙ (ap (λ (os : List (Result (Reply A) Refusal)). os ++ out ∷ []) h.added ∙ append_assoc old h.outcomes (out ∷ []));
  calls = calls_more s mid s' h.made h.outcomes command out h.calls call;
}

pub so_far_all : {A : Type 0} (s s' : SessionState A) (commands left : List (Command A)) (old new : List (Result (Reply A) Refusal)) → SoFar s commands left old s' new → left ≡ [] → AreAnswered s commands old s' new
so_far_all {A} s s' commands left old new h none = record {
  outcomes = h.outcomes;
  added = h.added;
  calls = subst (λ (cs : List (Command A)). AreCalls s cs h.outcomes s') (sym (h.whole ∙ (ap (λ (cs : List (Command A)). h.made ++ cs) none ∙ append-nil h.made))) h.calls;
}

-- one more call, whose entry and outcome were recorded
pub so_far_noted : {A : Type 0} (number : ℕ) (size : PageSize) (first entries entries' : List (Entry A)) (commands left rest : List (Command A)) (old new new' : List (Result (Reply A) Refusal)) (command : Command A) (ended : Result (AnsweredCall A) Refusal)
    → OnOk ended (IsSmall size command) → IfOk ended (λ (served : AnsweredCall A). IsReplyTo number command served.reply) → IfOk ended (λ (served : AnsweredCall A). served.entry ≡ entry_of number command served.reply) → IfErr ended (IsRefusal size command)
    → left ≡ command ∷ rest → IsNoted ended entries entries' new new'
    → SoFar (session_of number size first) commands left old (session_of number size entries) new → SoFar (session_of number size first) commands rest old (session_of number size entries') new'
so_far_noted {A} number size first entries entries' commands left rest old new new' command (Ok served) small reply entry refused step noted h =
    let call : session_of number size entries' ≡ with_call (session_of number size entries) command served.reply = ap (session_of number size) (noted.0 ∙ ap (λ (e : Entry A). entries ++ e ∷ []) entry) in
    so_far_more (session_of number size first) (session_of number size entries) (session_of number size entries') commands left rest old new new' command (Ok served.reply) h step (call, (small, reply)) noted.1
so_far_noted {A} number size first entries entries' commands left rest old new new' command (Err refusal) small reply entry refused step noted h =
    so_far_more (session_of number size first) (session_of number size entries) (session_of number size entries') commands left rest old new new' command (Err refusal) h step (ap (session_of number size) noted.0, refused) noted.1

-- an iterator without a next element has nothing left
pub next_none : {X Z : Type 0} (old : IntoIter X Z) (r : Option X) (new : IntoIter X Z) → r ≡ None → into_iter_steps old r new → into_iter_items old ≡ []
next_none {X} {Z} old r new is step =
    let none : (into_iter_len old ≡ 0) × (into_iter_len new ≡ 0) = subst (λ o. into_iter_steps old o new) is step in
    let all : into_iter_len old ≡ length (into_iter_items old) = old.rest.ok.0 in
    nil_from_length (into_iter_items old) (omega arith)
