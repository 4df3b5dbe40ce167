-- Steps that are made on a disk, one after the other.
use Rattle.std.proofs.Common.{◌≡◌, ◌⊎◌, inl, inr, ⊎_elim, ℕ, zero, suc, ◌+◌, ◌<◌, List, [], ◌∷◌, ◌++◌, length, take, drop, slice_index_or, refl, ◌∙◌, ap, subst, arith}
use Rattle.sdbm_saves.specs.Acts.{Act, acted, seen_after, LeftBy, LeftAfter}
use Rattle.sdbm_saves.specs.Disk.{Image, LeavesOnly}
use Rattle.sdbm_log.specs.Doing.{CanCall, CanDo, AnyMoment}
use Rattle.sdbm_log.specs.Steps.{act_of, acts_of}
use Rattle.sdbm_log.specs.declared.steps.Step.{Step}
use Rattle.sdbm_saves.proofs.Moments.{then_on, weaker}
use Rattle.sdbm_log.proofs.Doing.{left_more, moment_last}
use Rattle.sdbm_log.proofs.Stepping.{acts_append}

pub seen_snoc : (acts : List Act) (act : Act) (seen : Image) → seen_after (acts ++ act ∷ []) seen ≡ acted act (seen_after acts seen)
seen_snoc [] act seen = refl
seen_snoc (a ∷ acts) act seen = seen_snoc acts act (acted a seen)

pub left_snoc : (acts : List Act) (act : Act) (seen : Image) (may_leave : Image → Type 0) (c : Image) → LeftBy act (seen_after acts seen) (LeftAfter acts seen may_leave) c → LeftAfter (acts ++ act ∷ []) seen may_leave c
left_snoc [] act seen may_leave c left = left
left_snoc (a ∷ acts) act seen may_leave c left = left_snoc acts act (acted a seen) (LeftBy a seen may_leave) c left

pub moment_front : (acts more : List Act) (seen : Image) (may_leave : Image → Type 0) (c : Image) → AnyMoment acts seen may_leave c → AnyMoment (acts ++ more) seen may_leave c
moment_front [] [] seen may_leave c left = left
moment_front [] (a ∷ more) seen may_leave c left = inl left
moment_front (a ∷ acts) more seen may_leave c left = ⊎_elim (λ here. inl here) (λ later. inr (moment_front acts more (acted a seen) (LeftBy a seen may_leave) c later)) left

pub can_mid : (acts : List Act) (act : Act) (more : List Act) (seen : Image) → CanDo (acts ++ act ∷ more) seen → CanCall act (seen_after acts seen)
can_mid [] act more seen can = can.0
can_mid (a ∷ acts) act more seen can = can_mid acts act more (acted a seen) can.1

-- one more step
module _ {D : Type 0} (moment : D → ℕ) (left_since : D → ℕ → Image → Type 0) (seen_by : D → Image) (may_leave : D → Image → Type 0) where
  pub one_more : (acts : List Act) (act : Act) (old mid new : D)
      → seen_by mid ≡ seen_after acts (seen_by old) → ((c : Image) → may_leave mid c → LeftAfter acts (seen_by old) (may_leave old) c)
      → LeavesOnly moment left_since old mid (AnyMoment acts (seen_by old) (may_leave old))
      → LeavesOnly moment left_since mid new (λ c. may_leave mid c ⊎ LeftBy act (seen_by mid) (may_leave mid) c)
      → LeavesOnly moment left_since old new (AnyMoment (acts ++ act ∷ []) (seen_by old) (may_leave old))
  one_more acts act old mid new seen left first next = then_on moment left_since may_leave old mid new _
      (weaker moment left_since may_leave old mid _ _ (λ c is. moment_front acts (act ∷ []) (seen_by old) (may_leave old) c is) first)
      (weaker moment left_since may_leave mid new _ _ (λ c is. ⊎_elim
      (λ before. moment_front acts (act ∷ []) (seen_by old) (may_leave old) c (moment_last acts (seen_by old) (may_leave old) c (left c before)))
      (λ by. moment_last (acts ++ act ∷ []) (seen_by old) (may_leave old) c (next_left acts act old mid seen left c by)) is) next)
    where
      next_left : (acts : List Act) (act : Act) (old mid : D) → seen_by mid ≡ seen_after acts (seen_by old) → ((c : Image) → may_leave mid c → LeftAfter acts (seen_by old) (may_leave old) c)
          → (c : Image) → LeftBy act (seen_by mid) (may_leave mid) c → LeftAfter (acts ++ act ∷ []) (seen_by old) (may_leave old) c
      next_left acts act old mid seen left c by = left_snoc acts act (seen_by old) (may_leave old) c
          (subst (λ (o : Image). LeftBy act o (LeftAfter acts (seen_by old) (may_leave old)) c) seen (left_more act (seen_by mid) (may_leave mid) (LeftAfter acts (seen_by old) (may_leave old)) left c by))

  pub left_next : (acts : List Act) (act : Act) (old mid new : D) → seen_by mid ≡ seen_after acts (seen_by old) → ((c : Image) → may_leave mid c → LeftAfter acts (seen_by old) (may_leave old) c)
      → ((c : Image) → may_leave new c → LeftBy act (seen_by mid) (may_leave mid) c) → (c : Image) → may_leave new c → LeftAfter (acts ++ act ∷ []) (seen_by old) (may_leave old) c
  left_next acts act old mid new seen left next c now = left_snoc acts act (seen_by old) (may_leave old) c
      (subst (λ (o : Image). LeftBy act o (LeftAfter acts (seen_by old) (may_leave old)) c) seen (left_more act (seen_by mid) (may_leave mid) (LeftAfter acts (seen_by old) (may_leave old)) left c (next c now)))

-- a step of a list, with the steps before it and after it
steps_split : (steps : List Step) (i : ℕ) (default : Step) → i < length steps → steps ≡ take i steps ++ slice_index_or steps i default ∷ drop (suc i) steps
steps_split [] i default lt = absurd (omega (arith, lt))
steps_split (x ∷ steps) zero default lt = refl
steps_split (x ∷ steps) (suc i) default lt = ap (λ (l : List Step). x ∷ l) (steps_split steps i default (omega (arith, lt)))

steps_next : (steps : List Step) (i : ℕ) (default : Step) → i < length steps → take (suc i) steps ≡ take i steps ++ slice_index_or steps i default ∷ []
steps_next [] i default lt = absurd (omega (arith, lt))
steps_next (x ∷ steps) zero default lt = refl
steps_next (x ∷ steps) (suc i) default lt = ap (λ (l : List Step). x ∷ l) (steps_next steps i default (omega (arith, lt)))

pub acts_split : (bytes : List ℕ) (steps : List Step) (i : ℕ) (default : Step) → i < length steps
    → acts_of bytes steps ≡ acts_of bytes (take i steps) ++ act_of bytes (slice_index_or steps i default) ∷ acts_of bytes (drop (i + 1) steps)
acts_split bytes steps i default lt =
    let one : suc i ≡ i + 1 = omega arith in
    ap (λ (l : List Step). acts_of bytes l) (steps_split steps i default lt)
    ∙ acts_append bytes (take i steps) (slice_index_or steps i default ∷ drop (suc i) steps)
    ∙ ap (λ k. acts_of bytes (take i steps) ++ act_of bytes (slice_index_or steps i default) ∷ acts_of bytes (drop k steps)) one

pub acts_next : (bytes : List ℕ) (steps : List Step) (i : ℕ) (default : Step) → i < length steps → acts_of bytes (take (i + 1) steps) ≡ acts_of bytes (take i steps) ++ act_of bytes (slice_index_or steps i default) ∷ []
acts_next bytes steps i default lt =
    let one : i + 1 ≡ suc i = omega arith in
    ap (λ k. acts_of bytes (take k steps)) one ∙ ap (λ (l : List Step). acts_of bytes l) (steps_next steps i default lt) ∙ acts_append bytes (take i steps) (slice_index_or steps i default ∷ [])
