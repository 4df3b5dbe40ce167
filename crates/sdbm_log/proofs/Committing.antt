-- The calls that commit a save, and those that apply its plan.
use Rattle.std.proofs.Common.{◌≡◌, ◌⊎◌, inl, inr, ⊎_elim, ℕ, zero, suc, ◌+◌, ◌<◌, ◌≤◌, List, [], ◌∷◌, length, drop, get_or, true, refl, sym, ◌∙◌, ap, subst, arith}
use Rattle.sdbm_saves.specs.declared.disk.DiskFile.TheVariants.{Pages, Directory, Redo}
use Rattle.sdbm_saves.specs.Disk.{Image, content, put, written, resized, Torn, Within}
use Rattle.sdbm_saves.specs.Redo.{data_file, file_of, offset_of, data_of, rest_after, new_length, count_of, changes_of, files, replayed_image, renewed_image, renewed_files, Fits, IsPlan, Knows, AlikeFor}
use Rattle.sdbm_saves.specs.Acts.{write, resize, acted, LeftBy}
use Rattle.sdbm_log.specs.Log.{is_log, records_of, record_of, number_of, plan_of, next_plan, Holds, HasRecords, IsLogFile, IsKeptLog, IsDurable, IsCommitted, CanFollow}
use Rattle.sdbm_log.specs.Doing.{Does}
use Rattle.sdbm_log.specs.Protocol.{mark_acts, record_acts, commit_acts, change_acts, apply_acts}
use Rattle.sdbm_saves.proofs.Lists.{length-resized, length-written}
use Rattle.sdbm_saves.proofs.Replays.{for_self, for_joins, for_change, for_length, image_next, image_sized, rest_next}
use Rattle.sdbm_log.proofs.Doing.{then_does, weaker_does, nothing_does}
use Rattle.sdbm_log.proofs.Header.{log_marked, kept_self, marked_records, signed_long}
use Rattle.sdbm_log.proofs.Joins.{for_done}
use Rattle.sdbm_log.proofs.Logs.{appending, appended, file_after, number_after, plan_after, both_renewed, mark_set, marking, marked_durable, marked_number, marked_plan, half_left, log_left}

-- a log whose commit byte was set to 1, otherwise unchanged
pub record IsMarked (first : Image) (seen : Image) (may_leave : Image → Type 0) : Type 0 where
  pub durable : IsDurable seen may_leave
  pub log : is_log seen.redo ≡ true
  pub records : records_of seen.redo ≡ records_of first.redo
  pub number : number_of seen ≡ number_of first
  pub plan : plan_of seen ≡ plan_of first
  pub long : length seen.redo ≡ length first.redo
  pub same : files seen ≡ files first

pub mark_does : (end : ℕ) (first : Image) (may_leave : Image → Type 0) → IsLogFile end first.redo → IsDurable first may_leave → Does (mark_acts end) first may_leave (λ c. Holds (files first) c) (IsMarked first)
mark_does zero first may_leave file durable =
    let last : Image = put Redo (1 ∷ drop 1 first.redo) first in
    let Left : Image → Type 0 = λ c. (d : Image) × may_leave d × Within Redo (Torn 0 (1 ∷ [])) d c in
    let long : 1 ≤ length first.redo = signed_long first.redo file.signed in
    record {
      can = (omega arith, tt);
      any_moment = λ c left. ⊎_elim (λ l. durable.holds c l) (λ l. marking first file l.0 c (durable.kept l.0 l.1) (durable.holds l.0 l.1) l.2) left;
      after = record {
        durable = marked_durable first last may_leave Left file durable refl (λ c l. l);
        log = mark_set first file;
        records = marked_records 1 first.redo;
        number = marked_number first last file refl;
        plan = marked_plan first last file refl;
        long = length-written 0 (1 ∷ []) first.redo (omega (arith, long));
        same = refl;
      };
    }
mark_does (suc end) first may_leave file durable = nothing_does first may_leave _ _ durable.holds (record {
  durable = durable;
  log = ⊎_elim (λ none. absurd (omega (arith, none.0))) (λ one. log_marked first.redo one file.signed) file.mark;
  records = refl;
  number = refl;
  plan = refl;
  long = refl;
  same = refl;
})

-- a save that is committed in a log and not yet applied
pub record IsAppended (end : ℕ) (plan bytes : List ℕ) (first : Image) (seen : Image) (may_leave : Image → Type 0) : Type 0 where
  pub committed : IsCommitted plan seen may_leave
  pub file : IsLogFile (end + length bytes) seen.redo
  pub number : number_of seen ≡ number_of first + 1
  pub plan_is : plan_of seen ≡ next_plan (number_of first) (plan_of first) plan
  pub long : length seen.redo ≡ length first.redo
  pub same : files seen ≡ files first

module _ (end : ℕ) (plan bytes : List ℕ) (bytes_are : bytes ≡ record_of plan) (is_plan : IsPlan plan) (short : length plan < 4000000000) where
  pub record_does : (first : Image) (may_leave : Image → Type 0) → Knows plan (files first) → IsDurable first may_leave → is_log first.redo ≡ true → HasRecords end (records_of first.redo) → CanFollow (number_of first) (plan_of first) plan
      → 4096 + end + length bytes ≤ length first.redo → Does (record_acts end bytes) first may_leave (λ c. Holds (files first) c ⊎ Holds (renewed_files plan first) c) (IsAppended end plan bytes first)
  record_does first may_leave knows durable log place follows room =
      let last : Image = put Redo (written (4096 + end) bytes first.redo) first in
      let One : Image → Type 0 = λ c. (d : Image) × may_leave d × Within Redo (Torn (4096 + end) bytes) d c in
      let one : (c : Image) → One c → Holds (files first) c ⊎ Holds (renewed_files plan first) c = λ c l.
      appending end bytes plan first bytes_are is_plan knows short log place follows room l.0 c (durable.kept l.0 l.1) (durable.holds l.0 l.1) l.2 in
      let after = appended end bytes plan first bytes_are is_plan knows short log place follows room in
      let now = after first last (kept_self first.redo first.redo refl) durable.now refl refl in
      record {
        can = (omega (arith, room), (tt, tt));
        any_moment = λ c left. ⊎_elim (λ l. inl (durable.holds c l)) (λ more. ⊎_elim (λ l. one c l) (λ l. one c l.0) more) left;
        after = record {
          committed = record {
            kept = λ c l. kept_self last.redo c.redo l.1;
            some = now.1.0;
            last = now.1.1;
            now = now.0;
            holds = λ c l. let from = l.0 in (after from.0 c (durable.kept from.0 from.1) (durable.holds from.0 from.1) (ap (λ (o : Image). files o) from.2.others) l.1).0;
          };
          file = file_after end bytes plan first bytes_are is_plan knows short log place follows room last.redo refl;
          number = number_after end bytes plan first bytes_are is_plan knows short log place follows room last refl;
          plan_is = plan_after end bytes plan first bytes_are is_plan knows short log place follows room last refl;
          long = length-written (4096 + end) bytes first.redo room;
          same = refl;
        };
      }

  pub commit_does : (first : Image) (may_leave : Image → Type 0) → Knows plan (files first) → IsDurable first may_leave → IsLogFile end first.redo → CanFollow (number_of first) (plan_of first) plan
      → 4096 + end + length bytes ≤ length first.redo → Does (commit_acts end bytes) first may_leave (λ c. Holds (files first) c ⊎ Holds (renewed_files plan first) c) (IsAppended end plan bytes first)
  commit_does first may_leave knows durable file follows room =
      let P : Image → Type 0 = λ c. Holds (files first) c ⊎ Holds (renewed_files plan first) c in
      then_does (mark_acts end) (record_acts end bytes) first may_leave P (IsMarked first) (IsAppended end plan bytes first)
      (weaker_does (mark_acts end) first may_leave (λ c. Holds (files first) c) P (IsMarked first) (IsMarked first) (λ c holds. inl holds) (λ s m is. is) (mark_does end first may_leave file durable))
      (λ s m marked. on s m marked)
    where
      on : (s : Image) (m : Image → Type 0) → IsMarked first s m → Does (record_acts end bytes) s m (λ c. Holds (files first) c ⊎ Holds (renewed_files plan first) c) (IsAppended end plan bytes first)
      on s m marked =
          let renewed : renewed_files plan s ≡ renewed_files plan first = ap (λ (p : List ℕ × List ℕ). both_renewed plan p) marked.same in
          weaker_does (record_acts end bytes) s m _ _ _ _
          (λ c is. ⊎_elim (λ old. inl (subst (λ (p : List ℕ × List ℕ). Holds p c) marked.same old)) (λ new. inr (subst (λ (p : List ℕ × List ℕ). Holds p c) renewed new)) is)
          (λ t n is. record {
            committed = is.committed;
            file = is.file;
            number = is.number ∙ ap (λ k. k + 1) marked.number;
            plan_is = is.plan_is ∙ ap (λ k. next_plan k (plan_of s) plan) marked.number ∙ ap (λ (l : List ℕ). next_plan (number_of first) l plan) marked.plan;
            long = is.long ∙ marked.long;
            same = is.same ∙ marked.same;
          })
          (record_does s m (subst (λ (p : List ℕ × List ℕ). Knows plan p) (sym marked.same) knows) marked.durable marked.log
          (subst (λ (l : List ℕ). HasRecords end l) (sym marked.records) file.place)
          (subst (λ k. CanFollow k (plan_of s) plan) (sym marked.number) (subst (λ (l : List ℕ). CanFollow (number_of first) l plan) (sym marked.plan) follows))
          (omega (arith, room, marked.long)))

-- images that are alike, for all plans that end with this one, to those left before
abbrev pub Alikes : List ℕ → (Image → Type 0) → Image → Type 0
Alikes plan may_leave c = (d : Image) × may_leave d × AlikeFor plan d c

module _ (plan : List ℕ) (is_plan : IsPlan plan) (first : Image) (sized : (g : ℕ) → length (content (data_file g) first) ≡ new_length (data_file g) plan) (may_leave : Image → Type 0) where
  -- k changes are done, and n remain
  changes_do : (n k : ℕ) → k + n ≡ count_of plan → (seen : Image) (left : Image → Type 0) → seen ≡ replayed_image k plan first → ((c : Image) → left c → Alikes plan may_leave c)
      → Does (change_acts n (rest_after k (changes_of plan))) seen left (Alikes plan may_leave) (λ s m. (s ≡ replayed_image (count_of plan) plan first) × ((c : Image) → m c → Alikes plan may_leave c))
  changes_do zero k all seen left is alike =
      let every : k ≡ count_of plan = omega (arith, all) in
      nothing_does seen left _ _ alike (is ∙ ap (λ i. replayed_image i plan first) every, alike)
  changes_do (suc n) k all seen left is alike =
      let change : List ℕ = rest_after k (changes_of plan) in
      let lt : k < count_of plan = omega (arith, all) in
      let Next : Image → Type 0 = LeftBy (write (file_of change) (offset_of change) (data_of change)) seen left in
      let next : (c : Image) → Next c → Alikes plan may_leave c = λ c l. let old = alike l.0 l.1 in (old.0, old.1, for_joins plan old.0 l.0 c old.2 (for_change plan k lt change refl l.0 c l.2)) in
      let fit : Fits plan change = is_plan.fits k lt in
      let long : length (content (file_of change) seen) ≡ new_length (file_of change) plan =
      ap (λ (o : Image). length (content (file_of change) o)) is ∙ image_sized plan is_plan k (omega (arith, lt)) first sized (get_or change 0 0) in
      let done : acted (write (file_of change) (offset_of change) (data_of change)) seen ≡ replayed_image (k + 1) plan first =
      ap (λ (o : Image). put (file_of change) (written (offset_of change) (data_of change) (content (file_of change) o)) o) is ∙ image_next plan k first change refl in
      let rest = changes_do n (k + 1) (omega (arith, all)) (acted (write (file_of change) (offset_of change) (data_of change)) seen) Next done next in
      let there = subst (λ (l : List ℕ). Does (change_acts n l) (acted (write (file_of change) (offset_of change) (data_of change)) seen) Next (Alikes plan may_leave) (λ s m. (s ≡ replayed_image (count_of plan) plan first) × ((c : Image) → m c → Alikes plan may_leave c)))
      (rest_next k (changes_of plan)) rest in
      record {
        can = (omega (arith, fit.inside, long), there.can);
        any_moment = λ c l. ⊎_elim (λ here. alike c here) (λ later. there.any_moment c later) l;
        after = there.after;
      }

pub alike_does : (plan : List ℕ) → IsPlan plan → (first : Image) (may_leave : Image → Type 0)
    → Does (apply_acts plan) first may_leave (Alikes plan may_leave) (λ s m. (s ≡ renewed_image plan first) × ((c : Image) → m c → Alikes plan may_leave c))
alike_does plan is_plan first may_leave =
    let pages : ℕ = new_length Pages plan in
    let directory : ℕ = new_length Directory plan in
    let mid : Image = put Directory (resized directory first.directory) (put Pages (resized pages first.pages) first) in
    let One : Image → Type 0 = LeftBy (resize Pages pages) first may_leave in
    let Two : Image → Type 0 = LeftBy (resize Directory directory) (put Pages (resized pages first.pages) first) One in
    let none : (c : Image) → may_leave c → Alikes plan may_leave c = λ c l. (c, l, for_self plan c) in
    let one : (c : Image) → One c → Alikes plan may_leave c = λ c l. (l.0, l.1, for_length plan 0 pages refl l.0 c l.2) in
    let two : (c : Image) → Two c → Alikes plan may_leave c = λ c l. let old = one l.0 l.1 in (old.0, old.1, for_joins plan old.0 l.0 c old.2 (for_length plan 1 directory refl l.0 c l.2)) in
    let sized : (g : ℕ) → length (content (data_file g) mid) ≡ new_length (data_file g) plan = both_sized in
    let rest = changes_do plan is_plan mid sized may_leave (count_of plan) 0 (omega arith) mid Two refl two in
    record {
      can = (tt, (tt, rest.can));
      any_moment = λ c left. ⊎_elim (λ l. none c l) (λ more. ⊎_elim (λ l. one c l) (λ l. rest.any_moment c l) more) left;
      after = rest.after;
    }
  where
    both_sized : (g : ℕ) → length (content (data_file g) (put Directory (resized (new_length Directory plan) first.directory) (put Pages (resized (new_length Pages plan) first.pages) first))) ≡ new_length (data_file g) plan
    both_sized zero = length-resized (new_length Pages plan) first.pages
    both_sized (suc g) = length-resized (new_length Directory plan) first.directory

pub apply_does : (plan : List ℕ) → IsPlan plan → (first : Image) (may_leave : Image → Type 0) → IsCommitted plan first may_leave
    → Does (apply_acts plan) first may_leave (λ c. Holds (renewed_files plan first) c) (λ s m. IsDurable s m × ((files s ≡ renewed_files plan first) × (s.redo ≡ first.redo)))
apply_does plan is_plan first may_leave committed =
    let both : List ℕ × List ℕ = renewed_files plan first in
    weaker_does (apply_acts plan) first may_leave _ _ _ _
    (λ c is. half_left plan both first is.0 c committed.some committed.last (committed.kept is.0 is.1) (committed.holds is.0 is.1) is.2)
    (λ s m is.
    let same : files s ≡ both = ap (λ (o : Image). files o) is.0 in
    let redo : s.redo ≡ first.redo = ap (λ (o : Image). o.redo) is.0 in (
      record {
        kept = λ c l. let from = is.1 c l in subst (λ (r : List ℕ). IsKeptLog r c.redo) (sym redo) (log_left plan first from.0 c committed.last (committed.kept from.0 from.1) from.2);
        now = subst (λ (p : List ℕ × List ℕ). Holds p s) (sym same)
            (half_left plan both first first s committed.some committed.last (kept_self first.redo first.redo refl) committed.now (subst (λ (o : Image). AlikeFor plan first o) (sym is.0) (for_done plan is_plan first)));
        holds = λ c l. let from = is.1 c l in
            subst (λ (p : List ℕ × List ℕ). Holds p c) (sym same) (half_left plan both first from.0 c committed.some committed.last (committed.kept from.0 from.1) (committed.holds from.0 from.1) from.2);
      },
      (same, redo),
    ))
    (alike_does plan is_plan first may_leave)
