-- Saves in a log, from one ready log to the next.
use Rattle.std.proofs.Common.{◌≡◌, ◌⊎◌, inl, inr, ⊎_elim, ℕ, suc, ◌+◌, ◌-◌, ◌<◌, ◌≤◌, ◌^◌, List, ◌∷◌, ◌++◌, length, drop, get_or, true, refl, sym, ◌∙◌, ap, subst, arith, length-append, length-drop}
use Rattle.std.proofs.lemmas.List.{drop-append-le, drop_all}
use Rattle.sdbm_saves.specs.Acts.{Act, seen_after, LeftAfter}
use Rattle.sdbm_saves.specs.Disk.{Image, put, IsKept}
use Rattle.sdbm_saves.specs.declared.disk.DiskFile.TheVariants.{Redo}
use Rattle.sdbm_saves.specs.Redo.{count_of, files, renewed_files, IsPlan, Knows}
use Rattle.sdbm_log.specs.Log.{nonzero, is_log, is_signed, records_of, record_of, number_by, number_of, plan_of, log_plan, files_of, Holds, HasRecords, IsLogFile, IsAtRest, IsDurable, IsCommitted, CanFollow, IsGrowing, MayGrow, IsReady}
use Rattle.sdbm_log.specs.Doing.{Does}
use Rattle.sdbm_log.specs.Protocol.{commit_acts, apply_acts, close_acts, clear_acts, start_acts}
use Rattle.sdbm_log.specs.Saving.{MakesRoom, AreSaveCalls}
use Rattle.sdbm_log.specs.Steps.{IsSave}
use Rattle.sdbm_log.specs.LogRuns.{saves, keeps, Found, IsRun}
use Rattle.sdbm_log.specs.declared.log.Log.{Log}
use Rattle.sdbm_log.proofs.Committing.{IsAppended, commit_does, apply_does}
use Rattle.sdbm_log.proofs.Doing.{after_more, moment_more, then_does, then_at, weaker_does, nothing_does}
use Rattle.sdbm_log.proofs.LogRuns.{after_left, found_ready, durable_holds, keeping_run}
use Rattle.sdbm_log.proofs.Ending.{close_does, clear_does, start_does}
use Rattle.sdbm_log.proofs.Header.{mark_signed, marked_records, signed_long}
use Rattle.sdbm_log.proofs.Logs.{both_renewed, can_follow, goes_on, each_growing, known_some, number_first}

-- the bytes after the records of a log are zeros
rest_zero : (end : ℕ) (log : List ℕ) → HasRecords end log → nonzero (drop end log) ≡ 0
rest_zero end log place =
    let all : end ≡ length place.records = place.ends in
    let is : drop end log ≡ place.slack =
    ap (λ (l : List ℕ). drop end l) place.is
    ∙ drop-append-le end place.records place.slack (omega (arith, all))
    ∙ ap (λ (l : List ℕ). l ++ place.slack) (drop_all end place.records (omega (arith, all))) in
    ap (λ (l : List ℕ). nonzero l) is ∙ place.zeros

records_within : (end room : ℕ) (redo : List ℕ) → HasRecords end (records_of redo) → length redo ≡ 4096 + room → end ≤ room
records_within end room redo place long =
    let all : length (records_of redo) ≡ length place.records + length place.slack = ap (λ (l : List ℕ). length l) place.is ∙ length-append place.records place.slack in
    omega (arith, all, place.ends, long, length-drop 4096 redo)

-- a log that is emptied by a checkpoint
module _ (end room : ℕ) (first : Image) (may_leave : Image → Type 0) (durable : IsDurable first may_leave) (file : IsLogFile end first.redo) (long : length first.redo ≡ 4096 + room) where
  closed_signed : is_signed (0 ∷ drop 1 first.redo) ≡ true
  closed_signed = mark_signed 0 first.redo ∙ file.signed

  closed_long : length (0 ∷ drop 1 first.redo) ≡ 4096 + room
  closed_long = omega (arith, signed_long first.redo file.signed, length-drop 1 first.redo, long)

  pub clear_all : room ≤ 4000000000 → Does (close_acts ++ clear_acts end) first may_leave (λ c. Holds (files first) c) (λ s m. IsReady 0 room 0 s m × (files s ≡ files first))
  clear_all near = then_does close_acts (clear_acts end) first may_leave (λ c. Holds (files first) c) (λ s m. (s ≡ put Redo (0 ∷ drop 1 first.redo) first) × (IsAtRest s m × IsKept Redo s m)) _
      (close_does first may_leave durable file.signed)
      (λ s m closed.
      let same : files s ≡ files first = ap (λ (o : Image). files o) closed.0 in
      let redo : s.redo ≡ 0 ∷ drop 1 first.redo = ap (λ (o : Image). o.redo) closed.0 in
      let records : records_of s.redo ≡ records_of first.redo = ap records_of redo ∙ marked_records 0 first.redo in
      weaker_does (clear_acts end) s m _ _ _ _
      (λ c holds. subst (λ (p : List ℕ × List ℕ). Holds p c) same holds)
      (λ t n is. (is.0, is.1 ∙ same))
      (clear_does s m room end closed.1.0 (ap (λ (l : List ℕ). get_or l 0 0) redo) (ap is_signed redo ∙ closed_signed) (ap (λ (l : List ℕ). length l) redo ∙ closed_long) near
      (records_within end room first.redo file.place long)
      (ap (λ (l : List ℕ). nonzero (drop end l)) records ∙ rest_zero end (records_of first.redo) file.place)))

  pub start_anew : (len : ℕ) → 4096 ≤ len → len ≤ 4000000000 → Does (close_acts ++ start_acts len) first may_leave (λ c. Holds (files first) c) (λ s m. IsReady 0 (len - 4096) 0 s m × (files s ≡ files first))
  start_anew len some near = then_does close_acts (start_acts len) first may_leave (λ c. Holds (files first) c) (λ s m. (s ≡ put Redo (0 ∷ drop 1 first.redo) first) × (IsAtRest s m × IsKept Redo s m)) _
      (close_does first may_leave durable file.signed)
      (λ s m closed.
      let same : files s ≡ files first = ap (λ (o : Image). files o) closed.0 in
      weaker_does (start_acts len) s m _ _ _ _
      (λ c holds. subst (λ (p : List ℕ × List ℕ). Holds p c) same holds)
      (λ t n is. (is.0, is.1 ∙ same))
      (start_does s m len closed.1.0 some near))

-- A save is committed, and its plan is not applied. The records end here, in this room, and have this number of changes.
pub record IsWaiting (plan : List ℕ) (end room count : ℕ) (both : List ℕ × List ℕ) (seen : Image) (may_leave : Image → Type 0) : Type 0 where
  pub committed : IsCommitted plan seen may_leave
  pub file : IsLogFile end seen.redo
  pub long : length seen.redo ≡ 4096 + room
  pub near : room ≤ 4000000000
  pub few : count < 2 ^ 32
  pub grow : IsGrowing plan → MayGrow (number_of seen) (plan_of seen) count
  pub same : files seen ≡ both

module _ (plan bytes : List ℕ) (bytes_are : bytes ≡ record_of plan) (is_plan : IsPlan plan) (short : length plan < 4000000000) where
  -- commits a save in a log that has room
  pub commit_ready : (end room count : ℕ) (seen : Image) (may_leave : Image → Type 0) → IsReady end room count seen may_leave → Knows plan (files seen) → CanFollow (number_of seen) (plan_of seen) plan
      → end + length bytes ≤ room → count + count_of plan < 2 ^ 32
      → Does (commit_acts end bytes) seen may_leave (λ c. Holds (files seen) c ⊎ Holds (renewed_files plan seen) c) (IsWaiting plan (end + length bytes) room (count + count_of plan) (files seen))
  commit_ready end room count seen may_leave ready knows follows inside few =
      weaker_does (commit_acts end bytes) seen may_leave _ _ _ _ (λ c is. is) on
      (commit_does end plan bytes bytes_are is_plan short seen may_leave knows ready.durable ready.file follows (omega (arith, inside, ready.long)))
    where
      on : (s : Image) (m : Image → Type 0) → IsAppended end plan bytes seen s m → IsWaiting plan (end + length bytes) room (count + count_of plan) (files seen) s m
      on s m is =
          let number : number_of s ≡ suc (number_of seen) = omega (arith, is.number) in
          let is_first : 1 ≤ number_of seen → IsPlan (plan_of seen) = λ some. (known_some seen some ready.durable.now.1).0 in
          record {
            committed = is.committed;
            file = is.file;
            long = is.long ∙ ready.long;
            near = ready.near;
            few = few;
            grow = λ growing.
                let on = goes_on (number_of seen) count (plan_of seen) plan is_first is_plan follows ready.grow (each_growing plan growing) ready.none in
                subst (λ k. MayGrow k (plan_of s) (count + count_of plan)) (sym number) (subst (λ (l : List ℕ). MayGrow (suc (number_of seen)) l (count + count_of plan)) (sym is.plan_is) on);
            same = is.same;
          }

  -- applies a plan that shortens no file
  pub apply_growing : (end room count : ℕ) (first seen : Image) (may_leave : Image → Type 0) → IsWaiting plan end room count (files first) seen may_leave → IsGrowing plan
      → Does (apply_acts plan) seen may_leave (λ c. Holds (renewed_files plan first) c) (λ s m. IsReady end room count s m × (files s ≡ renewed_files plan first))
  apply_growing end room count first seen may_leave waiting growing =
      let new : renewed_files plan seen ≡ renewed_files plan first = ap (λ (p : List ℕ × List ℕ). both_renewed plan p) waiting.same in
      weaker_does (apply_acts plan) seen may_leave _ _ _ _
      (λ c holds. subst (λ (p : List ℕ × List ℕ). Holds p c) new holds)
      (λ s m is.
      let number : number_of s ≡ number_of seen = ap (λ (l : List ℕ). number_by (is_log l) l) is.1.1 in
      let plan_is : plan_of s ≡ plan_of seen = ap (λ (l : List ℕ). log_plan (number_by (is_log l) l) (records_of l)) is.1.1 in (
        record {
          durable = is.0;
          file = subst (λ (l : List ℕ). IsLogFile end l) (sym is.1.1) waiting.file;
          long = ap (λ (l : List ℕ). length l) is.1.1 ∙ waiting.long;
          near = waiting.near;
          few = waiting.few;
          none = λ none. absurd (omega (arith, none, number, waiting.committed.some));
          grow = subst (λ k. MayGrow k (plan_of s) count) (sym number) (subst (λ (l : List ℕ). MayGrow (number_of seen) l count) (sym plan_is) (waiting.grow growing));
        },
        is.1.0 ∙ new,
      ))
      (apply_does plan is_plan seen may_leave waiting.committed)

  -- applies a plan that shortens a file, and empties the log
  pub apply_shrinking : (end room count : ℕ) (first seen : Image) (may_leave : Image → Type 0) → IsWaiting plan end room count (files first) seen may_leave
      → Does (apply_acts plan ++ (close_acts ++ clear_acts end)) seen may_leave (λ c. Holds (renewed_files plan first) c) (λ s m. IsReady 0 room 0 s m × (files s ≡ renewed_files plan first))
  apply_shrinking end room count first seen may_leave waiting =
      let new : renewed_files plan seen ≡ renewed_files plan first = ap (λ (p : List ℕ × List ℕ). both_renewed plan p) waiting.same in
      then_does (apply_acts plan) (close_acts ++ clear_acts end) seen may_leave (λ c. Holds (renewed_files plan first) c) (λ s m. IsDurable s m × ((files s ≡ renewed_files plan seen) × (s.redo ≡ seen.redo))) _
      (weaker_does (apply_acts plan) seen may_leave _ _ _ _ (λ c holds. subst (λ (p : List ℕ × List ℕ). Holds p c) new holds) (λ s m is. is) (apply_does plan is_plan seen may_leave waiting.committed))
      (λ s m is.
      let same : files s ≡ renewed_files plan first = is.1.0 ∙ new in
      weaker_does (close_acts ++ clear_acts end) s m _ _ _ _
      (λ c holds. subst (λ (p : List ℕ × List ℕ). Holds p c) same holds)
      (λ t n done. (done.0, done.1 ∙ same))
      (clear_all end room s m is.0 (subst (λ (l : List ℕ). IsLogFile end l) (sym is.1.1) waiting.file) (ap (λ (l : List ℕ). length l) is.1.1 ∙ waiting.long) waiting.near))

  -- the promises of a save
  pub growing_save : (commit : List Act) (end room count : ℕ) (seen : Image) (may_leave : Image → Type 0)
      → Does commit seen may_leave (λ c. Holds (files seen) c ⊎ Holds (renewed_files plan seen) c) (IsWaiting plan end room count (files seen)) → IsGrowing plan
      → IsSave plan commit (apply_acts plan) end room count seen may_leave
  growing_save commit end room count seen may_leave does growing = record {
    commits = weaker_does commit seen may_leave _ _ _ _ (λ c is. is) (λ s m waiting. now_new s m waiting.committed waiting.same) does;
    applies = apply_growing end room count seen (seen_after commit seen) (LeftAfter commit seen may_leave) does.after growing;
  }
    where
      now_new : (s : Image) (m : Image → Type 0) → IsCommitted plan s m → files s ≡ files seen → Holds (renewed_files plan seen) s × ((c : Image) → m c → Holds (renewed_files plan seen) c)
      now_new s m committed same =
          let new : renewed_files plan s ≡ renewed_files plan seen = ap (λ (p : List ℕ × List ℕ). both_renewed plan p) same in
          (subst (λ (p : List ℕ × List ℕ). Holds p s) new committed.now, λ c l. subst (λ (p : List ℕ × List ℕ). Holds p c) new (committed.holds c l))

  pub shrinking_save : (commit : List Act) (end room count : ℕ) (seen : Image) (may_leave : Image → Type 0)
      → Does commit seen may_leave (λ c. Holds (files seen) c ⊎ Holds (renewed_files plan seen) c) (IsWaiting plan end room count (files seen))
      → IsSave plan commit (apply_acts plan ++ (close_acts ++ clear_acts end)) 0 room 0 seen may_leave
  shrinking_save commit end room count seen may_leave does = record {
    commits = weaker_does commit seen may_leave _ _ _ _ (λ c is. is) (λ s m waiting. now_new s m waiting.committed waiting.same) does;
    applies = apply_shrinking end room count seen (seen_after commit seen) (LeftAfter commit seen may_leave) does.after;
  }
    where
      now_new : (s : Image) (m : Image → Type 0) → IsCommitted plan s m → files s ≡ files seen → Holds (renewed_files plan seen) s × ((c : Image) → m c → Holds (renewed_files plan seen) c)
      now_new s m committed same =
          let new : renewed_files plan s ≡ renewed_files plan seen = ap (λ (p : List ℕ × List ℕ). both_renewed plan p) same in
          (subst (λ (p : List ℕ × List ℕ). Holds p s) new committed.now, λ c l. subst (λ (p : List ℕ × List ℕ). Holds p c) new (committed.holds c l))

  -- commits a save after other calls
  pub commit_after : (acts : List Act) (end room count : ℕ) (seen : Image) (may_leave : Image → Type 0) → Does acts seen may_leave (λ c. Holds (files seen) c) (λ s m. IsReady end room count s m × (files s ≡ files seen))
      → Knows plan (files seen) → (end ≡ 0) ⊎ IsGrowing plan → end + length bytes ≤ room → count + count_of plan < 2 ^ 32
      → Does (acts ++ commit_acts end bytes) seen may_leave (λ c. Holds (files seen) c ⊎ Holds (renewed_files plan seen) c) (IsWaiting plan (end + length bytes) room (count + count_of plan) (files seen))
  commit_after acts end room count seen may_leave first knows which inside few =
      then_does acts (commit_acts end bytes) seen may_leave _ (λ s m. IsReady end room count s m × (files s ≡ files seen)) _
      (weaker_does acts seen may_leave _ _ _ _ (λ c holds. inl holds) (λ s m is. is) first)
      (λ s m ready.
      let same = ready.1 in
      let new : renewed_files plan s ≡ renewed_files plan seen = ap (λ (p : List ℕ × List ℕ). both_renewed plan p) same in
      let known : Knows plan (files s) = subst (λ (p : List ℕ × List ℕ). Knows plan p) (sym same) knows in
      weaker_does (commit_acts end bytes) s m _ _ _ _
      (λ c is. ⊎_elim (λ old. inl (subst (λ (p : List ℕ × List ℕ). Holds p c) same old)) (λ next. inr (subst (λ (p : List ℕ × List ℕ). Holds p c) new next)) is)
      (λ t n is. subst (λ (p : List ℕ × List ℕ). IsWaiting plan (end + length bytes) room (count + count_of plan) p t n) same is)
      (commit_ready end room count s m ready.0 known (follows end room count s m ready.0 known which few) inside few))
    where
      follows : (end room count : ℕ) (s : Image) (m : Image → Type 0) → IsReady end room count s m → Knows plan (files s) → (end ≡ 0) ⊎ IsGrowing plan → count + count_of plan < 2 ^ 32 → CanFollow (number_of s) (plan_of s) plan
      follows end room count s m ready known which few = ⊎_elim
          (λ none. subst (λ k. CanFollow k (plan_of s) plan) (sym (number_first s (subst (λ k. IsLogFile k s.redo) none ready.file))) tt)
          (λ growing. can_follow (number_of s) count s plan refl ready.durable.now ready.grow known (each_growing plan growing) few)
          which

-- a log that is ready for all images that a crash may leave is ready for fewer images
pub ready_less : (end room count : ℕ) (seen : Image) (few many : Image → Type 0) → ((c : Image) → few c → many c) → IsReady end room count seen many → IsReady end room count seen few
ready_less end room count seen few many more ready = record {
  durable = record { kept = λ c l. ready.durable.kept c (more c l); now = ready.durable.now; holds = λ c l. ready.durable.holds c (more c l) };
  file = ready.file;
  long = ready.long;
  near = ready.near;
  few = ready.few;
  none = ready.none;
  grow = ready.grow;
}

-- calls that make room leave a log that can take the record
made_room : (log next : Log) (plan : List ℕ) (making : List Act) → MakesRoom log next plan making → (seen : Image) (may_leave : Image → Type 0) → IsReady log.end log.room log.count seen may_leave
    → Does making seen may_leave (λ c. Holds (files seen) c) (λ s m. IsReady next.end next.room next.count s m × (files s ≡ files seen))
made_room log next plan making makes seen may_leave ready = ⊎_elim
    (λ before. subst (λ (l : List Act). Does l seen may_leave (λ c. Holds (files seen) c) (λ s m. IsReady next.end next.room next.count s m × (files s ≡ files seen))) (sym before.nothing)
    (nothing_does seen may_leave _ _ ready.durable.holds (subst (λ (l : Log). IsReady l.end l.room l.count seen may_leave) (sym before.same) ready, refl)))
    (λ emptied. ⊎_elim
    (λ cleared. subst (λ (l : List Act). Does l seen may_leave (λ c. Holds (files seen) c) (λ s m. IsReady next.end next.room next.count s m × (files s ≡ files seen))) (sym cleared.cleared)
    (weaker_does (close_acts ++ clear_acts log.end) seen may_leave _ _ _ _ (λ c holds. holds)
    (λ s m is. (subst (λ k. IsReady k next.room next.count s m) (sym cleared.end) (subst (λ k. IsReady 0 k next.count s m) (sym cleared.room) (subst (λ k. IsReady 0 log.room k s m) (sym cleared.count) is.0)), is.1))
    (clear_all log.end log.room seen may_leave ready.durable ready.file ready.long ready.near)))
    (λ started. let sum : 4096 + next.room - 4096 ≡ next.room = omega arith in
    subst (λ (l : List Act). Does l seen may_leave (λ c. Holds (files seen) c) (λ s m. IsReady next.end next.room next.count s m × (files s ≡ files seen))) (sym started.started)
    (weaker_does (close_acts ++ start_acts (4096 + next.room)) seen may_leave _ _ _ _ (λ c holds. holds)
    (λ s m is. (subst (λ k. IsReady k next.room next.count s m) (sym started.end) (subst (λ k. IsReady 0 k next.count s m) sum (subst (λ k. IsReady 0 (4096 + next.room - 4096) k s m) (sym started.count) is.0)), is.1))
    (start_anew log.end log.room seen may_leave ready.durable ready.file ready.long (4096 + next.room) (omega arith) started.near)))
    emptied)
    makes.how

-- the save after them follows a log of plans that shorten no file, or an empty one
room_follows : (log next : Log) (plan : List ℕ) (making : List Act) → MakesRoom log next plan making → (next.end ≡ 0) ⊎ IsGrowing plan
room_follows log next plan making makes = ⊎_elim (λ before. inr before.growing) (λ emptied. ⊎_elim (λ cleared. inl cleared.end) (λ started. inl started.end) emptied) makes.how

pub save_does : (log next : Log) (plan : List ℕ) (commit apply : List Act) → IsPlan plan → length plan < 4000000000 → AreSaveCalls log next plan commit apply → (seen : Image) (may_leave : Image → Type 0)
    → IsReady log.end log.room log.count seen may_leave → Knows plan (files seen) → IsSave plan commit apply next.end next.room next.count seen may_leave
save_does log next plan commit apply is_plan short calls seen may_leave ready knows =
    let mid = calls.mid in
    let long : length (record_of plan) ≡ 8 + length plan = omega arith in
    let end : mid.end + length (record_of plan) ≡ mid.end + (8 + length plan) = omega (arith, long) in
    let commits = commit_after plan (record_of plan) refl is_plan short calls.making mid.end mid.room mid.count seen may_leave (made_room log mid plan calls.making calls.room seen may_leave ready) knows
    (room_follows log mid plan calls.making calls.room) (omega (arith, calls.room.fits, long)) calls.room.few in
    let here = subst (λ (l : List Act). Does l seen may_leave (λ c. Holds (files seen) c ⊎ Holds (renewed_files plan seen) c) (IsWaiting plan (mid.end + (8 + length plan)) mid.room (mid.count + count_of plan) (files seen))) (sym calls.commits)
    (subst (λ k. Does (calls.making ++ commit_acts mid.end (record_of plan)) seen may_leave (λ c. Holds (files seen) c ⊎ Holds (renewed_files plan seen) c) (IsWaiting plan k mid.room (mid.count + count_of plan) (files seen))) end commits) in
    ⊎_elim
    (λ growing. subst (λ (l : List Act). IsSave plan commit l next.end next.room next.count seen may_leave) (sym growing.1.0)
    (subst (λ (l : Log). IsSave plan commit (apply_acts plan) l.end l.room l.count seen may_leave) (sym growing.1.1)
    (growing_save plan (record_of plan) refl is_plan short commit (mid.end + (8 + length plan)) mid.room (mid.count + count_of plan) seen may_leave here growing.0)))
    (λ shrinking. subst (λ (l : List Act). IsSave plan commit l next.end next.room next.count seen may_leave) (sym shrinking.1.0)
    (subst (λ (l : Log). IsSave plan commit (apply_acts plan ++ (close_acts ++ clear_acts (mid.end + (8 + length plan)))) l.end l.room l.count seen may_leave) (sym shrinking.1.1)
    (shrinking_save plan (record_of plan) refl is_plan short commit (mid.end + (8 + length plan)) mid.room (mid.count + count_of plan) seen may_leave here)))
    calls.applies

pub save_is_run : (log next : Log) (plan : List ℕ) (commit apply : List Act) → IsPlan plan → length plan < 4000000000 → AreSaveCalls log next plan commit apply → (seen : Image) (may_leave : Image → Type 0)
    → IsReady log.end log.room log.count seen may_leave → Knows plan (files seen) → IsRun (saves (renewed_files plan seen)) (commit ++ apply) seen may_leave
save_is_run log next plan commit apply is_plan short calls seen may_leave ready knows =
    let is = save_does log next plan commit apply is_plan short calls seen (Found seen may_leave) (found_ready log.end log.room log.count seen may_leave ready) knows in
    let both = renewed_files plan seen in
    let old : files_of seen ≡ files seen = ready.durable.now.0 in
    then_at commit apply seen (Found seen may_leave) _ _ _
    (weaker_does commit seen (Found seen may_leave) _ (λ c. Holds (files_of seen) c ⊎ Holds both c) _ _ (λ c which. ⊎_elim (λ before. inl (subst (λ (p : List ℕ × List ℕ). Holds p c) (sym old) before)) (λ new. inr new) which) (λ s m q. q) is.commits)
    (weaker_does apply (seen_after commit seen) (LeftAfter commit seen (Found seen may_leave)) _ _ _ _ (λ c holds. inr holds) (λ s m q. durable_holds both s m q.0.durable q.1) is.applies)

-- the two parts of a save are separate runs
module _ (log next : Log) (plan : List ℕ) (commit apply : List Act) (is_plan : IsPlan plan) (short : length plan < 4000000000) (calls : AreSaveCalls log next plan commit apply) (seen : Image) (may_leave : Image → Type 0)
    (ready : IsReady log.end log.room log.count seen may_leave) (knows : Knows plan (files seen)) where
  abbrev both : List ℕ × List ℕ
  both = renewed_files plan seen

  pub save_found : IsSave plan commit apply next.end next.room next.count seen (Found seen may_leave)
  save_found = save_does log next plan commit apply is_plan short calls seen (Found seen may_leave) (found_ready log.end log.room log.count seen may_leave ready) knows

  pub commit_alone : IsRun (saves (renewed_files plan seen)) commit seen may_leave
  commit_alone = weaker_does commit seen (Found seen may_leave) _ (λ c. Holds (files_of seen) c ⊎ Holds both c) _ _
      (λ c which. ⊎_elim (λ before. inl (subst (λ (p : List ℕ × List ℕ). Holds p c) (sym ready.durable.now.0) before)) (λ new. inr new) which) (λ s m q. q) save_found.commits

  abbrev after_seen : Image
  after_seen = seen_after commit seen

  abbrev after_left_by : Image → Type 0
  after_left_by c = LeftAfter commit seen (Found seen may_leave) c

  pub apply_alone : IsRun keeps apply (seen_after commit seen) (LeftAfter commit seen (Found seen may_leave))
  apply_alone =
      let there : after_left_by after_seen = after_left commit seen (Found seen may_leave) save_found.commits.can (inr refl) in
      let after : Holds both after_seen × ((c : Image) → after_left_by c → Holds both c) = save_found.commits.after in
      let held : files_of after_seen ≡ both = after.0.0 in
      keeping_run both apply after_seen after_left_by (λ s m. IsReady next.end next.room next.count s m × (files s ≡ both)) held
      (λ s m q. durable_holds both s m q.0.durable q.1)
      (record {
        can = save_found.applies.can;
        any_moment = λ c left. save_found.applies.any_moment c (moment_more apply after_seen (Found after_seen after_left_by) after_left_by (λ d is. found_in d is there) c left);
        after = (
          ready_less next.end next.room next.count (seen_after apply after_seen) (LeftAfter apply after_seen (Found after_seen after_left_by)) (LeftAfter apply after_seen after_left_by)
              (λ c left. after_more apply after_seen (Found after_seen after_left_by) after_left_by (λ d is. found_in d is there) c left) save_found.applies.after.0,
          save_found.applies.after.1,
        );
      })
    where
      found_in : (d : Image) → Found after_seen after_left_by d → after_left_by after_seen → after_left_by d
      found_in d is there = ⊎_elim (λ left. left) (λ same. subst (λ (o : Image). after_left_by o) (sym same) there) is
