-- The law over lists of runs, and lemmas for the functions that promise a run.
use Rattle.std.proofs.Common.{◌≡◌, ◌⊎◌, inl, inr, ⊎_elim, ℕ, suc, ◌+◌, ◌<◌, ◌≤◌, List, [], ◌∷◌, ◌++◌, length, drop, get_or, true, refl, sym, ◌∙◌, ap, subst, arith}
use Rattle.sdbm_saves.specs.declared.disk.DiskFile.TheVariants.{Pages, Directory, Redo}
use Rattle.sdbm_saves.specs.Disk.{Image, resized, TornLength}
use Rattle.sdbm_saves.specs.Redo.{files, renewed_files, IsPlan, Knows}
use Rattle.sdbm_saves.specs.Acts.{Act, write, resize, sync, clear, acted, seen_after, LeftBy, LeftAfter}
use Rattle.sdbm_log.specs.Log.{nonzero, is_signed, records_of, record_of, number_of, plan_of, files_of, CanRecover, Holds, IsAtRest, IsDurable, IsLogFile, IsCommitted, IsReady, CanFollow}
use Rattle.sdbm_log.specs.Doing.{CanCall, CanDo, AnyMoment, Does, Killed}
use Rattle.sdbm_log.specs.Protocol.{commit_acts, apply_acts, close_acts, clear_acts, start_acts, settle_acts}
use Rattle.sdbm_log.specs.LogRuns.{Task, keeps, saves, Ending, returned, interrupted, Power, stayed, lost, LogRun, Found, AllHold, IsRun, ReadAfter, LeftByRun, Leaves, AreMade, IsOneOf, Mean, After, LeaveFiles}
use Rattle.sdbm_saves.proofs.Lists.{length-resized, read_resized}
use Rattle.sdbm_log.proofs.Committing.{IsAppended, commit_does, apply_does}
use Rattle.sdbm_log.proofs.Doing.{then_does, weaker_does, left_more, after_more, moment_more, moment_now}
use Rattle.sdbm_log.proofs.Ending.{settle_does, close_does, clear_does, start_does}
use Rattle.sdbm_log.proofs.Header.{kept_self, unmarked_holds}
use Rattle.sdbm_log.proofs.Joins.{torn_written}
use Rattle.sdbm_log.proofs.Logs.{both_renewed}

-- a call that no crash interrupts
whole_length : (n : ℕ) (x : List ℕ) → TornLength n x (resized n x)
whole_length n x = record { same = λ i lt. read_resized n x i lt; no_shorter = omega (arith, length-resized n x); no_longer = omega (arith, length-resized n x) }

pub acted_left : (act : Act) (seen : Image) (may_leave : Image → Type 0) → CanCall act seen → may_leave seen → LeftBy act seen may_leave (acted act seen)
acted_left (write Pages at bytes) seen may_leave can now = (seen, now, record { stepped = torn_written at bytes seen.pages can; others = refl })
acted_left (write Directory at bytes) seen may_leave can now = (seen, now, record { stepped = torn_written at bytes seen.directory can; others = refl })
acted_left (write Redo at bytes) seen may_leave can now = (seen, now, record { stepped = torn_written at bytes seen.redo can; others = refl })
acted_left (resize Pages len) seen may_leave can now = (seen, now, record { stepped = whole_length len seen.pages; others = refl })
acted_left (resize Directory len) seen may_leave can now = (seen, now, record { stepped = whole_length len seen.directory; others = refl })
acted_left (resize Redo len) seen may_leave can now = (seen, now, record { stepped = whole_length len seen.redo; others = refl })
acted_left (sync file) seen may_leave can now = (now, refl)
acted_left clear seen may_leave can now = (seen, now, record { stepped = inr refl; others = refl })

-- the image that is read after the calls may be left by them
pub after_left : (acts : List Act) (seen : Image) (may_leave : Image → Type 0) → CanDo acts seen → may_leave seen → LeftAfter acts seen may_leave (seen_after acts seen)
after_left [] seen may_leave can now = now
after_left (act ∷ acts) seen may_leave can now = after_left acts (acted act seen) (LeftBy act seen may_leave) can.1 (acted_left act seen may_leave can.0 now)

-- an image that is read after a kill may be left by a crash
pub killed_left : (acts : List Act) (seen : Image) (may_leave : Image → Type 0) (c : Image) → CanDo acts seen → may_leave seen → Killed acts seen c → AnyMoment acts seen may_leave c
killed_left [] seen may_leave c can now is = subst may_leave (sym is) now
killed_left (act ∷ acts) seen may_leave c can now killed = ⊎_elim
    (λ same. inl (subst may_leave (sym same) now))
    (λ more. ⊎_elim
    (λ partly. inr (moment_now acts (acted act seen) (LeftBy act seen may_leave) c (left_more act seen (λ d. d ≡ seen) may_leave (λ d is. subst may_leave (sym is) now) c partly)))
    (λ later. inr (killed_left acts (acted act seen) (LeftBy act seen may_leave) c can.1 (acted_left act seen may_leave can.0 now) later))
    more)
    killed

read_left : (ending : Ending) (acts : List Act) (seen : Image) (may_leave : Image → Type 0) (c : Image) → CanDo acts seen → ReadAfter ending acts seen c → LeftByRun ending acts seen may_leave c
read_left returned acts seen may_leave c can is = subst (λ (o : Image). LeftAfter acts seen (Found seen may_leave) o) (sym is) (after_left acts seen (Found seen may_leave) can (inr refl))
read_left interrupted acts seen may_leave c can killed = killed_left acts seen (Found seen may_leave) c can (inr refl) killed

-- every image that the next run finds may be left by a crash
pub found_left : (power : Power) (ending : Ending) (acts : List Act) (seen : Image) (may_leave : Image → Type 0) (found : Image) (next : Image → Type 0) → CanDo acts seen
    → Leaves power ending acts seen may_leave found next → (c : Image) → Found found next c → LeftByRun ending acts seen may_leave c
found_left stayed ending acts seen may_leave found next can leaves c is = ⊎_elim
    (λ now. leaves.1 c now)
    (λ read. subst (λ (o : Image). LeftByRun ending acts seen may_leave o) (sym read) (read_left ending acts seen may_leave found can leaves.0))
    is
found_left lost ending acts seen may_leave found next can leaves c is =
    let same : c ≡ found = ⊎_elim (λ now. leaves.1 c now) (λ read. read) is in
    subst (λ (o : Image). LeftByRun ending acts seen may_leave o) (sym same) leaves.0

can_run : (task : Task) (acts : List Act) (seen : Image) (may_leave : Image → Type 0) → IsRun task acts seen may_leave → CanDo acts seen
can_run keeps acts seen may_leave is = is.can
can_run (saves both) acts seen may_leave is = is.can

pub one_run : (task : Task) (ending : Ending) (acts : List Act) (seen : Image) (may_leave : Image → Type 0) (was : List (List ℕ × List ℕ)) → Mean was (Found seen may_leave) → IsRun task acts seen may_leave
    → Mean (After task ending seen was) (LeftByRun ending acts seen may_leave)
one_run keeps returned acts seen may_leave was mean is = λ c left. let holds = is.after.1 c left in (inl holds.0, holds.1)
one_run keeps interrupted acts seen may_leave was mean is = λ c left. ⊎_elim
    (λ before. mean c before)
    (λ holds. (subst (λ (p : List ℕ × List ℕ). IsOneOf p was) (sym holds.0) (mean seen (inr refl)).0, holds.1))
    (is.any_moment c left)
one_run (saves both) returned acts seen may_leave was mean is = λ c left. let holds = is.after.1 c left in (inl holds.0, holds.1)
one_run (saves both) interrupted acts seen may_leave was mean is = λ c left. ⊎_elim
    (λ holds. (inr (inl holds.0), holds.1))
    (λ holds. (inl holds.0, holds.1))
    (is.any_moment c left)

pub all_runs : (runs : List LogRun) (seen : Image) (may_leave : ℕ → Image → Type 0) (was : List (List ℕ × List ℕ)) → Mean was (Found seen (may_leave 0)) → AreMade runs seen may_leave
    → LeaveFiles runs seen may_leave was
all_runs [] seen may_leave was mean made = tt
all_runs (run ∷ runs) seen may_leave was mean made =
    let here : Mean (After run.task run.ending seen was) (Found run.next_seen (may_leave 1)) = λ c found. one_run run.task run.ending run.acts seen (may_leave 0) was mean made.0 c
    (found_left run.power run.ending run.acts seen (may_leave 0) run.next_seen (may_leave 1) (can_run run.task run.acts seen (may_leave 0) made.0) made.1.0 c found) in
    (here, all_runs runs run.next_seen (λ n. may_leave (suc n)) (After run.task run.ending seen was) here made.1.1)

-- a property of the image that is read and of all images that a crash may leave
both_found : (seen : Image) (may_leave : Image → Type 0) (P : Image → Type 0) → ((c : Image) → may_leave c → P c) → P seen → (c : Image) → Found seen may_leave c → P c
both_found seen may_leave P left now c found = ⊎_elim (λ l. left c l) (λ read. subst P (sym read) now) found

pub found_durable : (seen : Image) (may_leave : Image → Type 0) → IsDurable seen may_leave → IsDurable seen (Found seen may_leave)
found_durable seen may_leave durable = record {
  kept = λ c found. both_found seen may_leave _ durable.kept (kept_self seen.redo seen.redo refl) c found;
  now = durable.now;
  holds = λ c found. both_found seen may_leave (λ d. Holds (files seen) d) durable.holds durable.now c found;
}

pub found_ready : (end room count : ℕ) (seen : Image) (may_leave : Image → Type 0) → IsReady end room count seen may_leave → IsReady end room count seen (Found seen may_leave)
found_ready end room count seen may_leave ready = record {
  durable = found_durable seen may_leave ready.durable;
  file = ready.file;
  long = ready.long;
  near = ready.near;
  few = ready.few;
  none = ready.none;
  grow = ready.grow;
}

pub found_rest : (seen : Image) (may_leave : Image → Type 0) → IsAtRest seen may_leave → IsAtRest seen (Found seen may_leave)
found_rest seen may_leave rest = record {
  unmarked = rest.unmarked;
  left_unmarked = λ c found. both_found seen may_leave _ rest.left_unmarked rest.unmarked c found;
  kept = λ c found. both_found seen may_leave (λ d. files d ≡ files seen) rest.kept refl c found;
}

pub found_committed : (plan : List ℕ) (seen : Image) (may_leave : Image → Type 0) → IsCommitted plan seen may_leave → IsCommitted plan seen (Found seen may_leave)
found_committed plan seen may_leave committed = record {
  kept = λ c found. both_found seen may_leave _ committed.kept (kept_self seen.redo seen.redo refl) c found;
  some = committed.some;
  last = committed.last;
  now = committed.now;
  holds = λ c found. both_found seen may_leave (λ d. Holds (renewed_files plan seen) d) committed.holds committed.now c found;
}

-- a list of calls, and the next one from the images that the first leaves
does_on : (acts more : List Act) (seen : Image) (may_leave P : Image → Type 0) (Q R : Image → (Image → Type 0) → Type 0) → Does acts seen may_leave P Q
    → Does more (seen_after acts seen) (LeftAfter acts seen may_leave) P R → Does (acts ++ more) seen may_leave P R
does_on acts more seen may_leave P Q R first next =
    then_does acts more seen may_leave P (λ s m. Does more s m P R) R (record { can = first.can; any_moment = first.any_moment; after = next }) (λ s m is. is)

-- fewer images that a crash may leave when the calls begin
does_fewer : (acts : List Act) (seen : Image) (few many P : Image → Type 0) (both : List ℕ × List ℕ) → ((c : Image) → few c → many c) → Does acts seen many P (AllHold both) → Does acts seen few P (AllHold both)
does_fewer acts seen few many P both more is = record {
  can = is.can;
  any_moment = λ c left. is.any_moment c (moment_more acts seen few many more c left);
  after = (is.after.0, λ c left. is.after.1 c (after_more acts seen few many more c left));
}

-- images that are left after a run, if the calls do not change its files
both_then : (both : List ℕ × List ℕ) (seen : Image) (may_leave : Image → Type 0) → AllHold both seen may_leave → (c : Image) → Found seen may_leave c ⊎ Holds (files_of seen) c → Holds both c
both_then both seen may_leave holds c is = ⊎_elim
    (λ found. both_found seen may_leave (λ d. Holds both d) holds.1 holds.0 c found)
    (λ now. subst (λ (p : List ℕ × List ℕ). Holds p c) holds.0.0 now)
    is

-- A run and later calls that do not change its files are one run. So a save may be counted as one run, or as its commit and the remaining
-- calls.
pub then_keeps : (task : Task) (acts more : List Act) (seen : Image) (may_leave : Image → Type 0) → IsRun task acts seen may_leave
    → IsRun keeps more (seen_after acts seen) (LeftAfter acts seen (Found seen may_leave)) → IsRun task (acts ++ more) seen may_leave
then_keeps keeps acts more seen may_leave first next =
    let s : Image = seen_after acts seen in
    let m : Image → Type 0 = LeftAfter acts seen (Found seen may_leave) in
    let holds : AllHold (files_of seen) s m = first.after in
    does_on acts more seen (Found seen may_leave) _ (AllHold (files_of seen)) (AllHold (files_of seen)) first
    (weaker_does more s m _ _ (AllHold (files_of s)) _
    (λ c is. inr (both_then (files_of seen) s m holds c is))
    (λ t n is. subst (λ (p : List ℕ × List ℕ). AllHold p t n) holds.0.0 is)
    (does_fewer more s m (Found s m) _ (files_of s) (λ c now. inl now) next))
then_keeps (saves both) acts more seen may_leave first next =
    let s : Image = seen_after acts seen in
    let m : Image → Type 0 = LeftAfter acts seen (Found seen may_leave) in
    let holds : AllHold both s m = first.after in
    does_on acts more seen (Found seen may_leave) _ (AllHold both) (AllHold both) first
    (weaker_does more s m _ _ (AllHold (files_of s)) _
    (λ c is. inr (both_then both s m holds c is))
    (λ t n is. subst (λ (p : List ℕ × List ℕ). AllHold p t n) holds.0.0 is)
    (does_fewer more s m (Found s m) _ (files_of s) (λ c now. inl now) next))

-- The files that are represented if a log is durable, at rest, or has a committed save.
pub durable_holds : (both : List ℕ × List ℕ) (seen : Image) (may_leave : Image → Type 0) → IsDurable seen may_leave → files seen ≡ both → AllHold both seen may_leave
durable_holds both seen may_leave durable is =
    (subst (λ (p : List ℕ × List ℕ). Holds p seen) is durable.now, λ c left. subst (λ (p : List ℕ × List ℕ). Holds p c) is (durable.holds c left))

pub rest_holds : (both : List ℕ × List ℕ) (seen : Image) (may_leave : Image → Type 0) → IsAtRest seen may_leave → files seen ≡ both → AllHold both seen may_leave
rest_holds both seen may_leave rest is =
    (unmarked_holds both seen rest.unmarked is, λ c left. unmarked_holds both c (rest.left_unmarked c left) (rest.kept c left ∙ is))

pub committed_holds : (plan : List ℕ) (both : List ℕ × List ℕ) (seen : Image) (may_leave : Image → Type 0) → IsCommitted plan seen may_leave → renewed_files plan seen ≡ both → AllHold both seen may_leave
committed_holds plan both seen may_leave committed is =
    (subst (λ (p : List ℕ × List ℕ). Holds p seen) is committed.now, λ c left. subst (λ (p : List ℕ × List ℕ). Holds p c) is (committed.holds c left))

-- promises of a run, from the calls that it makes
pub keeping_run : (both : List ℕ × List ℕ) (acts : List Act) (seen : Image) (may_leave : Image → Type 0) (Q : Image → (Image → Type 0) → Type 0) → files_of seen ≡ both
    → ((s : Image) (m : Image → Type 0) → Q s m → AllHold both s m) → Does acts seen (Found seen may_leave) (λ c. Holds both c) Q → IsRun keeps acts seen may_leave
keeping_run both acts seen may_leave Q is then does = weaker_does acts seen (Found seen may_leave) (λ c. Holds both c) _ Q _
    (λ c holds. inr (subst (λ (p : List ℕ × List ℕ). Holds p c) (sym is) holds))
    (λ s m q. subst (λ (p : List ℕ × List ℕ). AllHold p s m) (sym is) (then s m q))
    does

pub saving_run : (old both : List ℕ × List ℕ) (acts : List Act) (seen : Image) (may_leave : Image → Type 0) (Q : Image → (Image → Type 0) → Type 0) → files_of seen ≡ old
    → ((s : Image) (m : Image → Type 0) → Q s m → AllHold both s m) → Does acts seen (Found seen may_leave) (λ c. Holds old c ⊎ Holds both c) Q → IsRun (saves both) acts seen may_leave
saving_run old both acts seen may_leave Q is then does = weaker_does acts seen (Found seen may_leave) (λ c. Holds old c ⊎ Holds both c) _ Q _
    (λ c holds. ⊎_elim (λ before. inl (subst (λ (p : List ℕ × List ℕ). Holds p c) (sym is) before)) (λ new. inr new) holds)
    then does

-- the calls of specs/Protocol.antt are runs
pub settle_run : (seen : Image) (may_leave : Image → Type 0) → CanRecover seen → IsRun keeps settle_acts seen may_leave
settle_run seen may_leave can = weaker_does settle_acts seen (Found seen may_leave) (Found seen may_leave) _ _ _
    (λ c found. inl found)
    (λ s m is. (
      subst (λ (o : Image). Holds (files_of seen) o) (sym is.0) (refl, can),
      λ c left. subst (λ (o : Image). Holds (files_of seen) o) (sym (is.1 c left)) (refl, can),
    ))
    (settle_does seen (Found seen may_leave))

pub start_run : (seen : Image) (may_leave : Image → Type 0) (len : ℕ) → IsAtRest seen may_leave → 4096 ≤ len → len ≤ 4000000000 → IsRun keeps (start_acts len) seen may_leave
start_run seen may_leave len rest long near = keeping_run (files seen) (start_acts len) seen may_leave _ (rest_holds (files seen) seen may_leave rest refl).0.0
    (λ s m is. durable_holds (files seen) s m is.0.durable is.1)
    (start_does seen (Found seen may_leave) len (found_rest seen may_leave rest) long near)

pub clear_run : (seen : Image) (may_leave : Image → Type 0) (room n : ℕ) → IsAtRest seen may_leave → get_or seen.redo 0 0 ≡ 0 → is_signed seen.redo ≡ true → length seen.redo ≡ 4096 + room → room ≤ 4000000000 → n ≤ room
    → nonzero (drop n (records_of seen.redo)) ≡ 0 → IsRun keeps (clear_acts n) seen may_leave
clear_run seen may_leave room n rest unmarked signed long near inside none = keeping_run (files seen) (clear_acts n) seen may_leave _ (rest_holds (files seen) seen may_leave rest refl).0.0
    (λ s m is. durable_holds (files seen) s m is.0.durable is.1)
    (clear_does seen (Found seen may_leave) room n (found_rest seen may_leave rest) unmarked signed long near inside none)

pub close_run : (seen : Image) (may_leave : Image → Type 0) → IsDurable seen may_leave → is_signed seen.redo ≡ true → IsRun keeps close_acts seen may_leave
close_run seen may_leave durable signed = keeping_run (files seen) close_acts seen may_leave _ durable.now.0
    (λ s m is. rest_holds (files seen) s m is.1.0 (ap (λ (o : Image). files o) is.0))
    (close_does seen (Found seen may_leave) (found_durable seen may_leave durable) signed)

pub apply_run : (plan : List ℕ) → IsPlan plan → (seen : Image) (may_leave : Image → Type 0) → IsCommitted plan seen may_leave → IsRun keeps (apply_acts plan) seen may_leave
apply_run plan is_plan seen may_leave committed = keeping_run (renewed_files plan seen) (apply_acts plan) seen may_leave _ committed.now.0
    (λ s m is. durable_holds (renewed_files plan seen) s m is.0 is.1.0)
    (apply_does plan is_plan seen (Found seen may_leave) (found_committed plan seen may_leave committed))

module _ (end : ℕ) (plan bytes : List ℕ) (bytes_are : bytes ≡ record_of plan) (is_plan : IsPlan plan) (short : length plan < 4000000000) (seen : Image) (may_leave : Image → Type 0)
    (knows : Knows plan (files seen)) (durable : IsDurable seen may_leave) (file : IsLogFile end seen.redo) (follows : CanFollow (number_of seen) (plan_of seen) plan) (room : 4096 + end + length bytes ≤ length seen.redo) where
  commits : Does (commit_acts end bytes) seen (Found seen may_leave) (λ c. Holds (files seen) c ⊎ Holds (renewed_files plan seen) c) (IsAppended end plan bytes seen)
  commits = commit_does end plan bytes bytes_are is_plan short seen (Found seen may_leave) knows (found_durable seen may_leave durable) file follows room

  pub commit_run : IsRun (saves (renewed_files plan seen)) (commit_acts end bytes) seen may_leave
  commit_run = saving_run (files seen) (renewed_files plan seen) (commit_acts end bytes) seen may_leave _ durable.now.0
      (λ s m is. committed_holds plan (renewed_files plan seen) s m is.committed (ap (λ (p : List ℕ × List ℕ). both_renewed plan p) is.same))
      commits

  -- a save, which commits and then applies its plan, as one run
  pub save_run : IsRun (saves (renewed_files plan seen)) (commit_acts end bytes ++ apply_acts plan) seen may_leave
  save_run = then_keeps (saves (renewed_files plan seen)) (commit_acts end bytes) (apply_acts plan) seen may_leave commit_run
      (apply_run plan is_plan (seen_after (commit_acts end bytes) seen) (LeftAfter (commit_acts end bytes) seen (Found seen may_leave)) commits.after.committed)
