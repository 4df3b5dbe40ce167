-- Opening a log: recovery, and an empty log after it.
use Rattle.std.proofs.Common.{Bool, true, false, if◌then◌else◌, ◌==◌, ◌≡◌, ◌≢◌, inl, inr, ⊎_elim, ℕ, zero, suc, ◌+◌, ◌-◌, ◌≤◌, List, [], ◌∷◌, ◌++◌, length, drop, get_or, refl, sym, ◌∙◌, ap, subst, arith, length-drop}
use Rattle.std.proofs.lemmas.Bool.{cases_eq}
use Rattle.std.proofs.lemmas.Bool.Decides.{nat_tests}
use Rattle.sdbm_saves.specs.declared.disk.DiskFile.TheVariants.{Redo}
use Rattle.sdbm_saves.specs.Acts.{Act, seen_after}
use Rattle.sdbm_saves.specs.Disk.{Image, put, Only, IsKept}
use Rattle.sdbm_saves.specs.Redo.{files, renewed_files, renewed_image, CanEnd, IsPlan, Knows, Alike}
use Rattle.sdbm_log.specs.Log.{nonzero, is_log, is_signed, records_of, number_of, plan_of, files_by, files_of, CanRecover, CanRecoverBy, Holds, IsAtRest, IsDurable, IsCommitted, IsReady}
use Rattle.sdbm_log.specs.Doing.{CanDo, Does}
use Rattle.sdbm_log.specs.Protocol.{apply_acts, close_acts, clear_acts, start_acts, settle_acts}
use Rattle.sdbm_log.specs.Saving.{redo_acts, recover_by, recover_acts, image_in, Reads, IsRedoPlan, HasNoPlan, AreRecoverCalls, IsReused, IsRestart, AreOpenCalls}
use Rattle.sdbm_log.specs.Steps.{IsOpening, IsRecovering, IsClosing}
use Rattle.sdbm_log.specs.LogRuns.{keeps, Found, IsRun}
use Rattle.sdbm_log.specs.declared.records.LogFiles.{LogFiles}
use Rattle.sdbm_saves.proofs.Marks.{when_marked, half_done, half_ended, image_by_files}
use Rattle.sdbm_saves.proofs.Replays.{ends_itself}
use Rattle.sdbm_log.proofs.Committing.{Alikes, alike_does, apply_does}
use Rattle.sdbm_log.proofs.Doing.{then_does, weaker_does, nothing_does}
use Rattle.sdbm_log.proofs.Ending.{settle_does, close_any, close_does, clear_does, start_does}
use Rattle.sdbm_log.proofs.Header.{unmarked_holds, log_mark, log_signed, plan_holds, mark_signed, marked_records, signed_long, durable_unmarked}
use Rattle.sdbm_log.proofs.LogRuns.{found_ready, durable_holds, rest_holds, keeping_run}
use Rattle.sdbm_log.proofs.Logs.{files_none, files_some, known_some, committed_read, durable_none, place_zeros, ready_empty}

-- The files are recovered: the commit byte of the redo file is not 1, the redo file is durable, and the data files are these.
pub record IsClosed (redo : List ℕ) (both : List ℕ × List ℕ) (seen : Image) (may_leave : Image → Type 0) : Type 0 where
  pub rest : IsAtRest seen may_leave
  pub kept : IsKept Redo seen may_leave
  pub redo_is : seen.redo ≡ redo
  pub same : files seen ≡ both

-- the redo file after its commit byte was cleared, if it was 1
abbrev pub closed_redo : List ℕ → List ℕ
closed_redo redo = if get_or redo 0 0 == 1 then 0 ∷ drop 1 redo else redo

closed_marked : (redo : List ℕ) → get_or redo 0 0 ≡ 1 → closed_redo redo ≡ 0 ∷ drop 1 redo
closed_marked redo is = grind (arith, nat_tests)

closed_unmarked : (redo : List ℕ) → get_or redo 0 0 ≢ 1 → closed_redo redo ≡ redo
closed_unmarked redo isnt = grind (arith, nat_tests)

acts_marked : (image : Image) → get_or image.redo 0 0 ≡ 1 → recover_acts image ≡ recover_by (is_log image.redo) image
acts_marked image is = grind (arith, nat_tests)

acts_unmarked : (image : Image) → get_or image.redo 0 0 ≢ 1 → recover_acts image ≡ []
acts_unmarked image isnt = grind (arith, nat_tests)

module _ (first : Image) (can : CanRecover first) (s : Image) (m : Image → Type 0) (read : s ≡ first) (only : Only first m) where
  only_s : Only s m
  only_s = subst (λ (o : Image). Only o m) (sym read) only

  can_s : CanRecover s
  can_s = subst (λ (o : Image). CanRecover o) (sym read) can

  -- the commit byte is not 1
  recover_none : get_or first.redo 0 0 ≢ 1 → Does [] s m (λ c. Holds (files_of first) c) (IsClosed (closed_redo first.redo) (files_of first))
  recover_none unmarked =
      let holds : Holds (files first) first = unmarked_holds (files first) first unmarked refl in
      nothing_does s m _ _ (λ c l. subst (λ (o : Image). Holds (files_of first) o) (sym (only c l)) (subst (λ (p : List ℕ × List ℕ). Holds p first) (sym holds.0) holds)) (record {
        rest = record {
          unmarked = subst (λ (o : Image). get_or o.redo 0 0 ≢ 1) (sym read) unmarked;
          left_unmarked = λ c l. subst (λ (o : Image). get_or o.redo 0 0 ≢ 1) (sym (only c l)) unmarked;
          kept = λ c l. ap (λ (o : Image). files o) (only c l ∙ sym read);
        };
        kept = λ c l. ap (λ (o : Image). o.redo) (only c l ∙ sym read);
        redo_is = ap (λ (o : Image). o.redo) read ∙ sym (closed_unmarked first.redo unmarked);
        same = ap (λ (o : Image). files o) read ∙ sym holds.0;
      })

  -- the result of closing
  closed : (redo : List ℕ) (both : List ℕ × List ℕ) (t : Image) (n : Image → Type 0) → redo ≡ first.redo → get_or first.redo 0 0 ≡ 1 → (last : Image) → last.redo ≡ redo → files last ≡ both
      → (t ≡ put Redo (0 ∷ drop 1 last.redo) last) × (IsAtRest t n × IsKept Redo t n) → IsClosed (closed_redo first.redo) both t n
  closed redo both t n redo_is marked last is same done = record {
    rest = done.1.0;
    kept = done.1.1;
    redo_is = ap (λ (o : Image). o.redo) done.0 ∙ ap (λ (l : List ℕ). 0 ∷ drop 1 l) (is ∙ redo_is) ∙ sym (closed_marked first.redo marked);
    same = ap (λ (o : Image). files o) done.0 ∙ same;
  }

  -- a log with records
  recover_some : 1 ≤ number_of first → is_log first.redo ≡ true → Does (apply_acts (plan_of first) ++ close_acts) s m (λ c. Holds (files_of first) c) (IsClosed (closed_redo first.redo) (files_of first))
  recover_some some log =
      let plan : List ℕ = plan_of first in
      let is_plan : IsPlan plan = (known_some first some can).0 in
      let all : files_of first ≡ renewed_files plan first = files_some plan first some refl in
      let new : renewed_files plan s ≡ files_of first = ap (λ (o : Image). renewed_files plan o) read ∙ sym all in
      let committed = subst (λ (o : Image). IsCommitted plan o m) (sym read) (committed_read first m plan some refl can only) in
      then_does (apply_acts plan) close_acts s m (λ c. Holds (files_of first) c) (λ t n. IsDurable t n × ((files t ≡ renewed_files plan s) × (t.redo ≡ s.redo))) _
      (weaker_does (apply_acts plan) s m _ _ _ _ (λ c holds. subst (λ (p : List ℕ × List ℕ). Holds p c) new holds) (λ t n is. is) (apply_does plan is_plan s m committed))
      (λ t n is.
      let same : files t ≡ files_of first = is.1.0 ∙ new in
      let redo : t.redo ≡ first.redo = is.1.1 ∙ ap (λ (o : Image). o.redo) read in
      weaker_does close_acts t n _ _ _ _ (λ c holds. subst (λ (p : List ℕ × List ℕ). Holds p c) same holds)
      (λ u k done. closed first.redo (files_of first) u k refl (log_mark first.redo log) t redo same done)
      (close_does t n is.0 (ap is_signed redo ∙ log_signed first.redo log)))

  -- a log without records
  recover_empty : number_of first ≡ 0 → is_log first.redo ≡ true → Does close_acts s m (λ c. Holds (files_of first) c) (IsClosed (closed_redo first.redo) (files_of first))
  recover_empty none log =
      let durable : IsDurable first m = durable_none first m log none can only in
      let same : files first ≡ files_of first = sym durable.now.0 in
      let both : files s ≡ files_of first = ap (λ (o : Image). files o) read ∙ same in
      weaker_does close_acts s m _ _ _ _ (λ c holds. subst (λ (p : List ℕ × List ℕ). Holds p c) both holds)
      (λ t n done. closed first.redo (files_of first) t n refl (log_mark first.redo log) s (ap (λ (o : Image). o.redo) read) both done)
      (close_does s m (subst (λ (o : Image). IsDurable o m) (sym read) durable) (ap (λ (o : Image). is_signed o.redo) read ∙ log_signed first.redo log))

  -- the committed plan of a single save
  recover_marked : get_or first.redo 0 0 ≡ 1 → is_log first.redo ≡ false → Does (apply_acts (drop 1 first.redo) ++ close_acts) s m (λ c. Holds (files_of first) c) (IsClosed (closed_redo first.redo) (files_of first))
  recover_marked marked no_log =
      let plan : List ℕ = drop 1 first.redo in
      let ends : IsPlan plan × Knows plan (files first) = (subst (λ b. CanRecoverBy b first) no_log can) marked in
      let redo_is : first.redo ≡ 1 ∷ plan = marked_list first.redo marked in
      let all : files_of first ≡ renewed_files plan first = ap (λ b. files_by b first) no_log ∙ when_marked first marked in
      let old : (d c : Image) → m d → Alike plan d c → Holds (files_of first) c = λ d c l alike.
      plan_holds (files_of first) c (half_done plan first redo_is d c (only d l) alike ∙ sym all) (half_ended plan first ends.0 ends.1 redo_is d c (only d l) alike) in
      then_does (apply_acts plan) close_acts s m (λ c. Holds (files_of first) c) (λ t n. (t ≡ renewed_image plan s) × ((c : Image) → n c → Alikes plan m c)) _
      (weaker_does (apply_acts plan) s m _ _ _ _ (λ c is. old is.0 c is.1 (is.2 plan (ends_itself plan ends.0))) (λ t n is. is) (alike_does plan ends.0 s m))
      (λ t n is.
      let same : files t ≡ files_of first = ap (λ (o : Image). files o) is.0 ∙ ap (λ (o : Image). renewed_files plan o) read ∙ sym all in
      let redo : t.redo ≡ first.redo = ap (λ (o : Image). o.redo) is.0 ∙ ap (λ (o : Image). o.redo) read in
      let long : (c : Image) → n c → 1 ≤ length c.redo = λ c l.
      let from = is.1 c l in
      let kept : c.redo ≡ first.redo = (from.2 plan (ends_itself plan ends.0)).redo ∙ ap (λ (o : Image). o.redo) (only from.0 from.1) in
      omega (arith, ap (λ (l : List ℕ). length l) kept, ap (λ (l : List ℕ). length l) redo_is) in
      weaker_does close_acts t n _ _ _ _ (λ c holds. holds)
      (λ u k done. closed first.redo (files_of first) u k refl marked t redo same done)
      (close_any t n (files_of first) (sym same) (λ c l. let from = is.1 c l in old from.0 c from.1 (from.2 plan (ends_itself plan ends.0))) long))
    where
      marked_list : (redo : List ℕ) → get_or redo 0 0 ≡ 1 → redo ≡ 1 ∷ drop 1 redo
      marked_list [] is = absurd (omega (arith, is))
      marked_list (b ∷ redo) is = ap (λ k. k ∷ redo) is

  recover_log : (number : ℕ) → number ≡ number_of first → is_log first.redo ≡ true → Does (redo_acts number (plan_of first) ++ close_acts) s m (λ c. Holds (files_of first) c) (IsClosed (closed_redo first.redo) (files_of first))
  recover_log zero is log = recover_empty (sym is) log
  recover_log (suc k) is log = recover_some (omega (arith, is)) log

  recover_either : (b : Bool) → is_log first.redo ≡ b → get_or first.redo 0 0 ≡ 1 → Does (recover_by b first) s m (λ c. Holds (files_of first) c) (IsClosed (closed_redo first.redo) (files_of first))
  recover_either true log marked = recover_log (number_of first) refl log
  recover_either false log marked = recover_marked marked log

  pub recover_does : Does (recover_acts first) s m (λ c. Holds (files_of first) c) (IsClosed (closed_redo first.redo) (files_of first))
  recover_does = ⊎_elim
      (λ marked. subst (λ (l : List Act). Does l s m (λ c. Holds (files_of first) c) (IsClosed (closed_redo first.redo) (files_of first))) (sym (acts_marked first marked)) (recover_either (is_log first.redo) refl marked))
      (λ unmarked. subst (λ (l : List Act). Does l s m (λ c. Holds (files_of first) c) (IsClosed (closed_redo first.redo) (files_of first))) (sym (acts_unmarked first unmarked)) (recover_none unmarked))
      (cases_eq (get_or first.redo 0 0) 1)

-- a closed log that can be reused
module _ (redo : List ℕ) (both : List ℕ × List ℕ) (s : Image) (m : Image → Type 0) (is_closed : IsClosed (closed_redo redo) both s m) where
  zero_mark : get_or redo 0 0 ≤ 1 → get_or (closed_redo redo) 0 0 ≡ 0
  zero_mark low = ⊎_elim
      (λ marked. ap (λ (l : List ℕ). get_or l 0 0) (closed_marked redo marked))
      (λ unmarked. ap (λ (l : List ℕ). get_or l 0 0) (closed_unmarked redo unmarked) ∙ none (get_or redo 0 0) low unmarked)
      (cases_eq (get_or redo 0 0) 1)
    where
      none : (b : ℕ) → b ≤ 1 → b ≢ 1 → b ≡ 0
      none zero low isnt = refl
      none (suc zero) low isnt = absurd (isnt refl)
      none (suc (suc b)) low isnt = absurd (omega (arith, low))

  signed_closed : is_signed (closed_redo redo) ≡ is_signed redo
  signed_closed = ⊎_elim (λ marked. ap is_signed (closed_marked redo marked) ∙ mark_signed 0 redo) (λ unmarked. ap is_signed (closed_unmarked redo unmarked)) (cases_eq (get_or redo 0 0) 1)

  records_closed : records_of (closed_redo redo) ≡ records_of redo
  records_closed = ⊎_elim (λ marked. ap records_of (closed_marked redo marked) ∙ marked_records 0 redo) (λ unmarked. ap records_of (closed_unmarked redo unmarked)) (cases_eq (get_or redo 0 0) 1)

  long_closed : is_signed redo ≡ true → length (closed_redo redo) ≡ length redo
  long_closed signed = ⊎_elim
      (λ marked. ap (λ (l : List ℕ). length l) (closed_marked redo marked) ∙ omega (arith, signed_long redo signed, length-drop 1 redo))
      (λ unmarked. ap (λ (l : List ℕ). length l) (closed_unmarked redo unmarked))
      (cases_eq (get_or redo 0 0) 1)

  holds_now : (c : Image) → m c → Holds both c
  holds_now c l = unmarked_holds both c (is_closed.rest.left_unmarked c l) (is_closed.rest.kept c l ∙ is_closed.same)

  reuse_does : (room : ℕ) (acts : List Act) → IsReused redo room acts → Does acts s m (λ c. Holds both c) (λ t n. IsReady 0 room 0 t n × (files t ≡ both))
  reuse_does room acts reused =
      let zero_is : get_or s.redo 0 0 ≡ 0 = ap (λ (l : List ℕ). get_or l 0 0) is_closed.redo_is ∙ zero_mark reused.mark in
      let signed : is_signed s.redo ≡ true = ap is_signed is_closed.redo_is ∙ signed_closed ∙ reused.signed in
      let long : length s.redo ≡ 4096 + room = ap (λ (l : List ℕ). length l) is_closed.redo_is ∙ long_closed reused.signed ∙ reused.long in
      let records : records_of s.redo ≡ records_of redo = ap records_of is_closed.redo_is ∙ records_closed in
      ⊎_elim
      (λ none. subst (λ (l : List Act). Does l s m (λ c. Holds both c) (λ t n. IsReady 0 room 0 t n × (files t ≡ both))) (sym none.0)
      (nothing_does s m _ _ holds_now (
        ready_empty s m 0 room 0 (durable_unmarked s m zero_is is_closed.kept is_closed.rest.kept)
            (record { signed = signed; mark = inl (refl, zero_is); place = place_zeros (records_of s.redo) (ap (λ (l : List ℕ). nonzero l) records ∙ none.1) }) zero_is long refl refl reused.near,
        is_closed.same,
      )))
      (λ some. subst (λ (l : List Act). Does l s m (λ c. Holds both c) (λ t n. IsReady 0 room 0 t n × (files t ≡ both))) (sym some.1)
      (weaker_does (clear_acts some.0) s m _ _ _ _ (λ c holds. subst (λ (p : List ℕ × List ℕ). Holds p c) is_closed.same holds) (λ t n is. (is.0, is.1 ∙ is_closed.same))
      (clear_does s m room some.0 is_closed.rest zero_is signed long reused.near some.2.0 (ap (λ (l : List ℕ). nonzero (drop some.0 l)) records ∙ some.2.1))))
      reused.how

  pub restart_does : (room : ℕ) (acts : List Act) → IsRestart redo room acts → Does acts s m (λ c. Holds both c) (λ t n. IsReady 0 room 0 t n × (files t ≡ both))
  restart_does room acts which = ⊎_elim
      (λ reused. reuse_does room acts reused)
      (λ started. let sum : 4096 + room - 4096 ≡ room = omega arith in
      subst (λ (l : List Act). Does l s m (λ c. Holds both c) (λ t n. IsReady 0 room 0 t n × (files t ≡ both))) (sym started.0)
      (weaker_does (start_acts (4096 + room)) s m _ _ _ _ (λ c holds. subst (λ (p : List ℕ × List ℕ). Holds p c) is_closed.same holds)
      (λ t n is. (subst (λ k. IsReady 0 k 0 t n) sum is.0, is.1 ∙ is_closed.same))
      (start_does s m (4096 + room) is_closed.rest (omega arith) started.1)))
      which

pub open_does : (first : Image) (may_leave : Image → Type 0) → CanRecover first → (room : ℕ) (last : List Act) → IsRestart first.redo room last
    → IsOpening (settle_acts ++ (recover_acts first ++ last)) 0 room 0 first may_leave
open_does first may_leave can room last restart =
    then_does settle_acts (recover_acts first ++ last) first may_leave _ (λ s m. (s ≡ first) × Only first m) _
    (weaker_does settle_acts first may_leave _ _ _ _ (λ c l. inl l) (λ s m is. is) (settle_does first may_leave))
    (λ s m settled.
    weaker_does (recover_acts first ++ last) s m _ _ _ _ (λ c holds. inr holds) (λ t n is. is)
    (then_does (recover_acts first) last s m _ (IsClosed (closed_redo first.redo) (files_of first)) _
    (recover_does first can s m settled.0 settled.1)
    (λ t n closed. restart_does first.redo (files_of first) t n closed room last restart)))

-- the calls for the plan that was found
one_number : (image : Image) (number : ℕ) → number ≡ number_of image → 1 ≤ number → redo_acts (number_of image) (plan_of image) ≡ apply_acts (plan_of image)
one_number image zero is some = absurd (omega (arith, some))
one_number image (suc k) is some = ap (λ n. redo_acts n (plan_of image)) (sym is)

no_number : (image : Image) → number_of image ≡ 0 → redo_acts (number_of image) (plan_of image) ≡ []
no_number image none = ap (λ n. redo_acts n (plan_of image)) none

pub redo_calls : (image : Image) (plan : List ℕ) → IsRedoPlan image plan → recover_acts image ≡ apply_acts plan ++ close_acts
redo_calls image plan which = ⊎_elim
    (λ log. acts_marked image (log_mark image.redo log.0) ∙ ap (λ b. recover_by b image) log.0
    ∙ ap (λ (l : List Act). l ++ close_acts) (one_number image (number_of image) refl log.1.0 ∙ ap apply_acts (sym log.1.1)))
    (λ old. acts_marked image old.1.0 ∙ ap (λ b. recover_by b image) old.0 ∙ ap (λ (l : List ℕ). apply_acts l ++ close_acts) (sym old.1.1))
    which

mark_test : (p : ℕ) (xs : List Act) → p ≡ 1 → (if p == 1 then xs else []) ≡ xs
mark_test p xs is = grind (arith, nat_tests)

no_mark_test : (p : ℕ) (xs : List Act) → p ≢ 1 → (if p == 1 then xs else []) ≡ []
no_mark_test p xs isnt = grind (arith, nat_tests)

pub mark_calls : (image : Image) → HasNoPlan image → recover_acts image ≡ (if get_or image.redo 0 0 == 1 then close_acts else [])
mark_calls image which = ⊎_elim
    (λ log. let marked : get_or image.redo 0 0 ≡ 1 = log_mark image.redo log.0 in
    acts_marked image marked ∙ ap (λ b. recover_by b image) log.0 ∙ ap (λ (l : List Act). l ++ close_acts) (no_number image log.1) ∙ sym (mark_test (get_or image.redo 0 0) close_acts marked))
    (λ unmarked. acts_unmarked image unmarked ∙ sym (no_mark_test (get_or image.redo 0 0) close_acts unmarked))
    which

pub marked_close : (redo : List ℕ) → get_or redo 0 0 ≡ 1 → (if get_or redo 0 0 == 1 then close_acts else []) ≡ close_acts
marked_close redo is = mark_test (get_or redo 0 0) close_acts is

pub redo_is_plan : (image : Image) (plan : List ℕ) → CanRecover image → IsRedoPlan image plan → IsPlan plan
redo_is_plan image plan can which = ⊎_elim
    (λ log. subst (λ (l : List ℕ). IsPlan l) (sym log.1.1) (known_some image log.1.0 can).0)
    (λ old. let ends : CanEnd image = subst (λ b. CanRecoverBy b image) old.0 can in subst (λ (l : List ℕ). IsPlan l) (sym old.1.1) (ends old.1.0).0)
    which

-- the promises of opening and of closing
pub opened_does : (image : Image) (room : ℕ) (acts : List Act) → CanRecover image → AreOpenCalls image room acts → (may_leave : Image → Type 0) → IsOpening acts 0 room 0 image may_leave
opened_does image room acts can are may_leave = subst (λ (l : List Act). IsOpening l 0 room 0 image may_leave) (sym are.are) (open_does image may_leave can room are.last are.restart)

pub recovered_does : (image : Image) (acts : List Act) → CanRecover image → AreRecoverCalls image acts → (may_leave : Image → Type 0) → IsRecovering acts image may_leave
recovered_does image acts can are may_leave = subst (λ (l : List Act). IsRecovering l image may_leave) (sym are)
    (then_does settle_acts (recover_acts image) image may_leave _ (λ s m. (s ≡ image) × Only image m) _
    (weaker_does settle_acts image may_leave _ _ _ _ (λ c l. inl l) (λ s m is. is) (settle_does image may_leave))
    (λ s m settled. weaker_does (recover_acts image) s m _ _ _ _ (λ c holds. inr holds) (λ t n closed. (closed.rest, closed.same)) (recover_does image can s m settled.0 settled.1)))

pub recovered_run : (image : Image) (acts : List Act) → CanRecover image → AreRecoverCalls image acts → (may_leave : Image → Type 0) → IsRun keeps acts image may_leave
recovered_run image acts can are may_leave = weaker_does acts image (Found image may_leave) _ _ _ _ (λ c is. is)
    (λ s m is. rest_holds (files_of image) s m is.0 is.1)
    (recovered_does image acts can are (Found image may_leave))

pub opened_run : (image : Image) (room : ℕ) (acts : List Act) → CanRecover image → AreOpenCalls image room acts → (may_leave : Image → Type 0) → IsRun keeps acts image may_leave
opened_run image room acts can are may_leave = weaker_does acts image (Found image may_leave) _ _ _ _ (λ c is. is)
    (λ s m is. durable_holds (files_of image) s m is.0.durable is.1)
    (opened_does image room acts can are (Found image may_leave))

pub closed_does : (end room count : ℕ) (seen : Image) (may_leave : Image → Type 0) → IsReady end room count seen may_leave → IsClosing close_acts seen may_leave
closed_does end room count seen may_leave ready = weaker_does close_acts seen may_leave _ _ _ _ (λ c holds. holds)
    (λ s m is. (is.1.0, ap (λ (o : Image). files o) is.0))
    (close_does seen may_leave ready.durable ready.file.signed)

pub closed_run : (end room count : ℕ) (seen : Image) (may_leave : Image → Type 0) → IsReady end room count seen may_leave → IsRun keeps close_acts seen may_leave
closed_run end room count seen may_leave ready = keeping_run (files seen) close_acts seen may_leave _ ready.durable.now.0
    (λ s m is. rest_holds (files seen) s m is.0 is.1)
    (closed_does end room count seen (Found seen may_leave) (found_ready end room count seen may_leave ready))

-- all images with the same bytes are recovered by the same calls
module _ (found : LogFiles) (image : Image) (reads : Reads found image) where
  read_marked : get_or image.redo 0 0 ≡ 1 → image ≡ image_in found
  read_marked marked = image_by_files image (image_in found) (reads.both (ap (λ (l : List ℕ). get_or l 0 0) (sym reads.redo) ∙ marked)) reads.redo

  read_unmarked : get_or image.redo 0 0 ≢ 1 → get_or found.redo.now 0 0 ≢ 1
  read_unmarked unmarked = λ marked. unmarked (ap (λ (l : List ℕ). get_or l 0 0) reads.redo ∙ marked)

  pub reads_can : CanRecover (image_in found) → CanRecover image
  reads_can can = ⊎_elim
      (λ marked. subst (λ (o : Image). CanRecover o) (sym (read_marked marked)) can)
      (λ unmarked. (unmarked_holds (files image) image unmarked refl).1)
      (cases_eq (get_or image.redo 0 0) 1)

  same_recover : recover_acts image ≡ recover_acts (image_in found)
  same_recover = ⊎_elim
      (λ marked. ap (λ (o : Image). recover_acts o) (read_marked marked))
      (λ unmarked. acts_unmarked image unmarked ∙ sym (acts_unmarked (image_in found) (read_unmarked unmarked)))
      (cases_eq (get_or image.redo 0 0) 1)

  pub reads_calls : (room : ℕ) (acts : List Act) → AreOpenCalls (image_in found) room acts → AreOpenCalls image room acts
  reads_calls room acts are = record {
    last = are.last;
    restart = subst (λ (l : List ℕ). IsRestart l room are.last) (sym reads.redo) are.restart;
    are = are.are ∙ ap (λ (l : List Act). settle_acts ++ (l ++ are.last)) (sym same_recover);
  }

  pub reads_recover : (acts : List Act) → AreRecoverCalls (image_in found) acts → AreRecoverCalls image acts
  reads_recover acts are = are ∙ ap (λ (l : List Act). settle_acts ++ l) (sym (same_recover))

  pub reads_none : HasNoPlan (image_in found) → files image ≡ files_of image
  reads_none none = ⊎_elim
      (λ log. let same : image ≡ image_in found = read_marked (ap (λ (l : List ℕ). get_or l 0 0) reads.redo ∙ log_mark found.redo.now log.0) in
      ap (λ (o : Image). files o) same ∙ sym (files_none (image_in found) log.0 log.1) ∙ ap (λ (o : Image). files_of o) (sym same))
      (λ unmarked. sym (unmarked_holds (files image) image (λ marked. unmarked (sym (ap (λ (l : List ℕ). get_or l 0 0) reads.redo) ∙ marked)) refl).0)
      none

  pub reads_plan : (plan : List ℕ) → CanRecover (image_in found) → IsRedoPlan (image_in found) plan → CanDo (apply_acts plan) image × (files (seen_after (apply_acts plan) image) ≡ files_of image)
  reads_plan plan can is_redo =
      let is_plan : IsPlan plan = redo_is_plan (image_in found) plan can is_redo in
      let does = alike_does plan is_plan image (λ c. c ≡ image) in
      let marked : get_or found.redo.now 0 0 ≡ 1 = ⊎_elim (λ log. log_mark found.redo.now log.0) (λ old. old.1.0) is_redo in
      let same : image ≡ image_in found = read_marked (ap (λ (l : List ℕ). get_or l 0 0) reads.redo ∙ marked) in
      let means : files_of (image_in found) ≡ renewed_files plan (image_in found) = ⊎_elim
      (λ log. files_some plan (image_in found) log.1.0 log.1.1)
      (λ old. ap (λ b. files_by b (image_in found)) old.0 ∙ when_marked (image_in found) old.1.0 ∙ ap (λ (l : List ℕ). renewed_files l (image_in found)) (sym old.1.1))
      is_redo in
      (does.can, ap (λ (o : Image). files o) does.after.0 ∙ ap (λ (o : Image). renewed_files plan o) same ∙ sym means ∙ ap (λ (o : Image). files_of o) (sym same))
