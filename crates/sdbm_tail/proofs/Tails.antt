-- Saves that share a sync: their records are appended without a sync, then synced, then applied.
use Rattle.std.proofs.Common.{true, false, if◌then◌else◌, ◌==◌, ◌≡◌, ◌⊎◌, inl, inr, ⊎_elim, ℕ, zero, suc, ◌+◌, ◌-◌, ◌<◌, ◌≤◌, ◌^◌, List, [], ◌∷◌, ◌++◌, length, get_or, refl, sym, ◌∙◌, ap, subst, arith, length-append, length-drop, append_assoc}
use Rattle.std.proofs.lemmas.Bool.{cases_lt}
use Rattle.std.proofs.lemmas.List.{append-nil, ext_get_or, get_or-append_right}
use Rattle.sdbm_saves.specs.declared.disk.DiskFile.TheVariants.{Redo}
use Rattle.sdbm_saves.specs.Disk.{Image, put, written, resized, Torn, Within}
use Rattle.sdbm_saves.specs.Redo.{data_file, data_in, count_of, changes_of, new_length, old_length, renewed, renewed_files, files, IsBetween, IsPlan, Knows, EndsWith}
use Rattle.sdbm_saves.proofs.Lists.{length-resized, length-written, written_before, written_inside, written_after}
use Rattle.sdbm_saves.proofs.Replays.{length-replayed}
use Rattle.sdbm_log.specs.Log.{first_plan, later_records, AreRecords, ArePlans, Stands, joined, joined_all, next_plan, log_plan, record_of, is_log, is_shared, records_of, number_by, number_in, number_of, plan_of, with_plan, KnownBy, Holds, HasRecords, CanFollow, IsGrowing, MayGrow, IsKeptLog, IsCommitted, IsLogFile, IsReady}
use Rattle.sdbm_log.specs.Doing.{Does, Killed}
use Rattle.sdbm_log.specs.Protocol.{apply_acts}
use Rattle.sdbm_log.proofs.Header.{never_both, signed_same, log_same, log_mark, log_signed, kept_self, torn_records, written_records}
use Rattle.sdbm_log.proofs.Weights.{number_more, first_more, later_more, number_log, plans_long, zeros_no, zero_at}
use Rattle.sdbm_log.proofs.Logs.{plans_more, whole_front, whole_next, log_more, number_is, plan_is, files_are, can_recover, with_same, known_same, next_done, next_known, next_ends, written_record, goes_on, each_growing, log_some, stands_read}
use Rattle.sdbm_log.proofs.Joins.{joined_new, joined_old, ends_joined, torn_written}
use Rattle.sdbm_log.proofs.Noting.{shared_same, head_noted, records_noted, holds_noted, number_noted, plan_noted}
use Rattle.sdbm_log.proofs.Doing.{weaker_does}
use Rattle.sdbm_log.proofs.Committing.{apply_does as committed_does}
use Rattle.sdbm_tail.specs.Tail.{share_acts, append_acts, sync_acts, renewed_both, IsLeftOf, HasTail, HoldsSome, IsTailPlan}
use Rattle.sdbm_tail.proofs.Cuts.{CutAfter, cut_after, are_append}

-- n plans, followed by any bytes
pub plans_slack : (n : ℕ) (xs ys : List ℕ) → ArePlans n xs → ArePlans n (xs ++ ys)
plans_slack zero xs ys plans = tt
plans_slack (suc n) xs ys plans = (
  omega (arith, plans.0, number_more xs ys plans.0, length-append xs ys),
  (
    subst (λ (l : List ℕ). IsPlan l) (sym (first_more xs ys plans.0)) plans.1.0,
    subst (λ (l : List ℕ). ArePlans n l) (sym (later_more xs ys plans.0)) (plans_slack n (later_records xs) ys plans.1.1),
  ),
)

joined_slack : (plan : List ℕ) (n : ℕ) (xs ys : List ℕ) → ArePlans n xs → joined_all plan n (xs ++ ys) ≡ joined_all plan n xs
joined_slack plan zero xs ys plans = refl
joined_slack plan (suc n) xs ys plans =
    ap (λ (l : List ℕ). joined_all (joined plan l) n (later_records (xs ++ ys))) (first_more xs ys plans.0)
    ∙ ap (λ (l : List ℕ). joined_all (joined plan (first_plan xs)) n l) (later_more xs ys plans.0)
    ∙ joined_slack (joined plan (first_plan xs)) n (later_records xs) ys plans.1.1

pub plan_slack : (n : ℕ) (xs ys : List ℕ) → ArePlans n xs → log_plan n (xs ++ ys) ≡ log_plan n xs
plan_slack zero xs ys plans = refl
plan_slack (suc n) xs ys plans =
    ap (λ (l : List ℕ). joined_all l n (later_records (xs ++ ys))) (first_more xs ys plans.0)
    ∙ ap (λ (l : List ℕ). joined_all (first_plan xs) n l) (later_more xs ys plans.0)
    ∙ joined_slack (first_plan xs) n (later_records xs) ys plans.1.1

-- more records after those of a log that is read
pub stands_slack : (n : ℕ) (xs ys : List ℕ) (both : List ℕ × List ℕ) (d c : Image) → files c ≡ files d → Stands n xs both d → Stands n (xs ++ ys) both c
stands_slack n xs ys both d c same stands =
    let is : log_plan n (xs ++ ys) ≡ log_plan n xs = plan_slack n xs ys stands.plans in
    record {
      plans = plans_slack n xs ys stands.plans;
      known = subst (λ (l : List ℕ). KnownBy n l c) (sym is) (known_same n (log_plan n xs) c d same stands.known);
      made = ap (λ (l : List ℕ). with_plan n l c) is ∙ with_same n (log_plan n xs) c d same ∙ stands.made;
    }

-- fewer records
pub stands_front : (n : ℕ) (xs ys all : List ℕ) (both : List ℕ × List ℕ) (c : Image) → all ≡ xs ++ ys → AreRecords n xs → Stands n all both c → Stands n xs both c
stands_front n xs ys all both c is are stands =
    let plans : ArePlans n xs = whole_front n xs ys are (subst (λ (l : List ℕ). ArePlans n l) is stands.plans) in
    let same : log_plan n all ≡ log_plan n xs = ap (λ (l : List ℕ). log_plan n l) is ∙ plan_slack n xs ys plans in
    record {
      plans = plans;
      known = subst (λ (l : List ℕ). KnownBy n l c) same stands.known;
      made = sym (ap (λ (l : List ℕ). with_plan n l c) same) ∙ stands.made;
    }

-- an image with these data files
abbrev image_of : List ℕ × List ℕ → Image
image_of both = record { pages = both.0; directory = both.1; redo = [] }

-- one more record
pub stands_next : (plan : List ℕ) → IsPlan plan → length plan < 4000000000 → (n : ℕ) (xs : List ℕ) (both : List ℕ × List ℕ) (d c : Image) → Knows plan both → AreRecords n xs → CanFollow n (log_plan n xs) plan → files c ≡ files d → Stands n xs both d
    → Stands (suc n) (xs ++ record_of plan) (renewed_both plan both) c
stands_next plan is_plan short n xs both d c knows are follows same stands =
    let s : Image = image_of both in
    let is : log_plan (suc n) (xs ++ record_of plan) ≡ next_plan n (log_plan n xs) plan = log_more plan short n xs are in
    record {
      plans = whole_next plan short is_plan n xs are stands.plans;
      known = subst (λ (l : List ℕ). KnownBy (suc n) l c) (sym is)
          (known_same (suc n) (next_plan n (log_plan n xs) plan) c d same (next_known plan is_plan d s knows n (log_plan n xs) follows stands.known stands.made));
      made = ap (λ (l : List ℕ). with_plan (suc n) l c) is
          ∙ with_same (suc n) (next_plan n (log_plan n xs) plan) c d same
          ∙ next_done plan is_plan d s knows n (log_plan n xs) follows stands.known stands.made;
    }

-- a crash leaves the files after some of the unsynced saves
pub tail_left : (made : ℕ → List ℕ × List ℕ) (synced unsynced end room count : ℕ) (seen : Image) (may_leave : Image → Type 0) → HasTail made synced unsynced end room count seen may_leave → (c : Image) → may_leave c → HoldsSome made unsynced c
tail_left made synced unsynced end room count seen may_leave tail c l =
    let is_left = (tail.left c l).0 in
    let stands = (tail.left c l).1 in
    let cut : CutAfter synced unsynced (tail.first ++ tail.later) (records_of c.redo) =
    cut_after synced unsynced tail.first tail.later tail.slack (records_of c.redo) tail.first_are tail.later_are tail.zeros
    (omega (arith, is_left.long, length-drop 4096 c.redo, length-drop 4096 seen.redo, ap (λ (x : List ℕ). length x) tail.is))
    (λ i lt. is_left.same i lt ∙ ap (λ (x : List ℕ). get_or x i 0) tail.is)
    (λ i. ⊎_elim (λ none. inl none) (λ same. inr (same ∙ ap (λ (x : List ℕ). get_or x i 0) tail.is)) (is_left.behind i)) in
    let n : ℕ = synced + cut.number in
    let log : is_log c.redo ≡ true = log_same seen.redo c.redo (λ i lt. is_left.head i (omega (arith, lt))) ∙ tail.log in
    let here : Stands n cut.first (made cut.number) c = stands_front n cut.first cut.gone (tail.first ++ tail.later) (made cut.number) c cut.was cut.are (stands cut.number n cut.few refl) in
    let shared : is_shared c.redo ≡ true = ap (λ k. if k == 0 then false else true) (is_left.head 9 (omega arith)) ∙ tail.shared in
    record {
      number = cut.number;
      few = cut.few;
      holds = (
        files_are n cut.first cut.rest c cut.is cut.are cut.ends log ∙ here.made,
        can_recover n cut.first cut.rest c cut.is cut.are cut.ends log here.plans here.known (λ single. absurd (never_both (is_shared c.redo) shared single)),
      );
    }

-- the files that are read are those after all saves
pub tail_now : (made : ℕ → List ℕ × List ℕ) (synced unsynced end room count : ℕ) (seen : Image) (may_leave : Image → Type 0) → HasTail made synced unsynced end room count seen may_leave → Holds (made unsynced) seen
tail_now made synced unsynced end room count seen may_leave tail =
    let n : ℕ = synced + unsynced in
    let all : List ℕ = tail.first ++ tail.later in
    let are : AreRecords n all = are_append synced unsynced n tail.first tail.later refl tail.first_are tail.later_are in
    let none = zeros_no tail.slack tail.zeros in (
      files_are n all tail.slack seen tail.is are none tail.log ∙ tail.now.made,
      can_recover n all tail.slack seen tail.is are none tail.log tail.now.plans tail.now.known (λ single. absurd (never_both (is_shared seen.redo) tail.shared single)),
    )

-- the joined plan of all records
pub tail_plan_of : (made : ℕ → List ℕ × List ℕ) (synced unsynced end room count : ℕ) (seen : Image) (may_leave : Image → Type 0) (tail : HasTail made synced unsynced end room count seen may_leave) → plan_of seen ≡ log_plan (synced + unsynced) (tail.first ++ tail.later)
tail_plan_of made synced unsynced end room count seen may_leave tail =
    let n : ℕ = synced + unsynced in
    plan_is n (tail.first ++ tail.later) tail.slack seen tail.is (are_append synced unsynced n tail.first tail.later refl tail.first_are tail.later_are) (zeros_no tail.slack tail.zeros) tail.log

-- the bytes of a redo file after a record was added, and those that a crash leaves of them
module _ (end synced : ℕ) (bytes read next left later : List ℕ) (next_is : next ≡ written (4096 + end) bytes read) (inside : 4096 + end + length bytes ≤ length read)
    (zeros : (i : ℕ) → end ≤ i → get_or (records_of read) i 0 ≡ 0) (before_end : synced ≤ end) (was : IsLeftOf synced read left) (torn : Torn (4096 + end) bytes left later) where
  records_next : records_of next ≡ written end bytes (records_of read)
  records_next = ap records_of next_is ∙ written_records end bytes read (omega (arith, inside))

  fits : end + length bytes ≤ length (records_of read)
  fits = omega (arith, inside, length-drop 4096 read)

  torn_after : Torn end bytes (records_of left) (records_of later)
  torn_after = torn_records end bytes left later torn

  head_next : (i : ℕ) → i < 10 → get_or next i 0 ≡ get_or read i 0
  head_next i lt = ap (λ (x : List ℕ). get_or x i 0) next_is ∙ written_before (4096 + end) bytes read i (omega (arith, inside)) (omega (arith, lt))

  next_before : (i : ℕ) → i < end → get_or (records_of next) i 0 ≡ get_or (records_of read) i 0
  next_before i lt = ap (λ (x : List ℕ). get_or x i 0) records_next ∙ written_before end bytes (records_of read) i (omega (arith, fits)) lt

  next_inside : (j : ℕ) → j < length bytes → get_or (records_of next) (end + j) 0 ≡ get_or bytes j 0
  next_inside j lt =
      let less : end + j - end ≡ j = omega arith in
      ap (λ (x : List ℕ). get_or x (end + j) 0) records_next ∙ written_inside end bytes (records_of read) (end + j) (omega (arith, fits)) (omega arith) (omega (arith, lt)) ∙ ap (λ k. get_or bytes k 0) less

  next_after : (i : ℕ) → end + length bytes ≤ i → get_or (records_of next) i 0 ≡ get_or (records_of read) i 0
  next_after i le = ap (λ (x : List ℕ). get_or x i 0) records_next ∙ written_after end bytes (records_of read) i (omega (arith, fits)) le

  zero_left : (i : ℕ) → end ≤ i → get_or (records_of left) i 0 ≡ 0
  zero_left i le = ⊎_elim (λ none. none) (λ same. same ∙ zeros i le) (was.behind i)

  within : (j : ℕ) → j < length bytes → (get_or (records_of later) (end + j) 0 ≡ 0) ⊎ (get_or (records_of later) (end + j) 0 ≡ get_or (records_of next) (end + j) 0)
  within j lt = ⊎_elim (λ old. inl (old ∙ zero_left (end + j) (omega arith))) (λ new. inr (new ∙ sym (next_inside j lt))) (torn_after.within j lt)

  pub left_next : IsLeftOf synced next later
  left_next = record {
    long = omega (arith, torn.no_shorter, torn.no_longer, inside, was.long, ap (λ (x : List ℕ). length x) next_is, length-written (4096 + end) bytes read inside);
    head = λ i lt. torn.before i (omega (arith, lt)) ∙ was.head i lt ∙ sym (head_next i lt);
    same = λ i lt. torn_after.before i (omega (arith, lt, before_end)) ∙ was.same i lt ∙ sym (next_before i (omega (arith, lt, before_end)));
    behind = λ i. ⊎_elim
        (λ before. ⊎_elim (λ none. inl (torn_after.before i before ∙ none)) (λ same. inr (torn_after.before i before ∙ same ∙ sym (next_before i before))) (was.behind i))
        (λ from. ⊎_elim
        (λ in_it. let on : end + (i - end) ≡ i = omega (arith, from) in
        subst (λ k. (get_or (records_of later) k 0 ≡ 0) ⊎ (get_or (records_of later) k 0 ≡ get_or (records_of next) k 0)) on (within (i - end) (omega (arith, from, in_it))))
        (λ past. inl (torn_after.after i past ∙ zero_left i from))
        (cases_lt i (end + length bytes)))
        (cases_lt i end);
  }

-- the length of a file to which a plan was applied
length_renewed : (plan : List ℕ) → IsPlan plan → (g : ℕ) (x : List ℕ) → length (renewed (data_file g) plan x) ≡ new_length (data_file g) plan
length_renewed plan is_plan g x = length-replayed (data_file g) plan (count_of plan) (changes_of plan) (resized (new_length (data_file g) plan) x) is_plan.fits (length-resized (new_length (data_file g) plan) x)

-- the lengths of the files that plans made
length_made : (n : ℕ) (plan : List ℕ) (both : List ℕ × List ℕ) (seen : Image) → 1 ≤ n → KnownBy n plan seen → with_plan n plan seen ≡ both → (g : ℕ) → length (data_in both (data_file g)) ≡ new_length (data_file g) plan
length_made zero plan both seen some known made g = absurd (omega (arith, some))
length_made (suc n) plan both seen some known made zero = ap (λ (p : List ℕ × List ℕ). length p.0) (sym made) ∙ length_renewed plan known.0 0 seen.pages
length_made (suc n) plan both seen some known made (suc g) = ap (λ (p : List ℕ × List ℕ). length p.1) (sym made) ∙ length_renewed plan known.0 1 seen.directory

between : (plan : List ℕ) (both : List ℕ × List ℕ) → Knows plan both → (g : ℕ) → IsBetween (old_length (data_file g) plan) (new_length (data_file g) plan) (length (data_in both (data_file g)))
between plan both knows zero = knows.pages
between plan both knows (suc g) = knows.directory

-- a plan that shortens no file may follow n plans that made the files that it knows
can_follow : (n : ℕ) (first plan : List ℕ) (both : List ℕ × List ℕ) (seen : Image) → KnownBy n first seen → with_plan n first seen ≡ both → Knows plan both → IsGrowing plan
    → (1 ≤ n → (g : ℕ) → old_length (data_file g) first ≤ new_length (data_file g) first) → (1 ≤ n → count_of first + count_of plan < 2 ^ 32) → CanFollow n first plan
can_follow zero first plan both seen known made knows growing grows few = tt
can_follow (suc n) first plan both seen known made knows growing grows few = record {
  so_far = grows (omega arith);
  on = λ g. omega (arith, length_made (suc n) first both seen (omega arith) known made g, (between plan both knows g).no_longer, each_growing plan growing g);
  few = few (omega arith);
}

may_grow : (n : ℕ) (first : List ℕ) (count : ℕ) → MayGrow n first count → 1 ≤ n → ((g : ℕ) → old_length (data_file g) first ≤ new_length (data_file g) first) × (count_of first ≡ count)
may_grow zero first count grow some = absurd (omega (arith, some))
may_grow (suc n) first count grow some = grow

is_plan_of : (n : ℕ) (plan : List ℕ) (seen : Image) → 1 ≤ n → KnownBy n plan seen → IsPlan plan
is_plan_of zero plan seen some known = absurd (omega (arith, some))
is_plan_of (suc n) plan seen some known = known.0

-- adds the record of a save without a sync
module _ (plan : List ℕ) (is_plan : IsPlan plan) (short : length plan < 4000000000) (growing : IsGrowing plan) (made : ℕ → List ℕ × List ℕ) (synced unsynced end room count : ℕ) (seen : Image) (may_leave : Image → Type 0)
    (tail : HasTail made synced unsynced end room count seen may_leave) (knows : Knows plan (made unsynced)) (next_is : made (suc unsynced) ≡ renewed_both plan (made unsynced)) (inside : end + length (record_of plan) ≤ room) (few : count + count_of plan < 2 ^ 32) where
  abbrev bytes : List ℕ
  bytes = record_of plan

  abbrev all : List ℕ
  all = tail.first ++ tail.later

  abbrev last : Image
  last = put Redo (written (4096 + end) bytes seen.redo) seen

  abbrev Left : Image → Type 0
  Left c = (d : Image) × may_leave d × Within Redo (Torn (4096 + end) bytes) d c

  some_all : 1 ≤ synced + unsynced
  some_all = omega (arith, tail.some)

  all_are : AreRecords (synced + unsynced) all
  all_are = are_append synced unsynced (synced + unsynced) tail.first tail.later refl tail.first_are tail.later_are

  pub follows : CanFollow (synced + unsynced) (log_plan (synced + unsynced) all) plan
  follows = can_follow (synced + unsynced) (log_plan (synced + unsynced) all) plan (made unsynced) seen tail.now.known tail.now.made knows growing
      (λ some. (may_grow (synced + unsynced) (log_plan (synced + unsynced) all) count tail.grow some).0)
      (λ some. omega (arith, few, (may_grow (synced + unsynced) (log_plan (synced + unsynced) all) count tail.grow some).1))

  fits_in : 4096 + end + length bytes ≤ length seen.redo
  fits_in = omega (arith, inside, tail.long)

  zeros_after : (i : ℕ) → end ≤ i → get_or (records_of seen.redo) i 0 ≡ 0
  zeros_after i le = ap (λ (x : List ℕ). get_or x i 0) tail.is ∙ get_or-append_right all tail.slack end i 0 (sym tail.ends) le ∙ zero_at tail.slack tail.zeros (i - end)

  one_more : synced + suc unsynced ≡ suc (synced + unsynced)
  one_more = omega arith

  plan_next : log_plan (suc (synced + unsynced)) (all ++ bytes) ≡ next_plan (synced + unsynced) (log_plan (synced + unsynced) all) plan
  plan_next = log_more plan short (synced + unsynced) all all_are

  grows_on : MayGrow (suc (synced + unsynced)) (log_plan (suc (synced + unsynced)) (all ++ bytes)) (count + count_of plan)
  grows_on = subst (λ (l : List ℕ). MayGrow (suc (synced + unsynced)) l (count + count_of plan)) (sym plan_next)
      (goes_on (synced + unsynced) count (log_plan (synced + unsynced) all) plan (λ some. is_plan_of (synced + unsynced) (log_plan (synced + unsynced) all) seen some tail.now.known) is_plan follows tail.grow (each_growing plan growing)
      (λ none. absurd (omega (arith, none, some_all))))

  stands_all : (d c : Image) → files c ≡ files d → Stands (synced + unsynced) all (made unsynced) d → Stands (suc (synced + unsynced)) (all ++ bytes) (made (suc unsynced)) c
  stands_all d c same stands = subst (λ (p : List ℕ × List ℕ). Stands (suc (synced + unsynced)) (all ++ bytes) p c) (sym next_is)
      (stands_next plan is_plan short (synced + unsynced) all (made unsynced) d c knows all_are follows same stands)

  moved : all ++ bytes ≡ tail.first ++ (tail.later ++ bytes)
  moved = append_assoc tail.first tail.later bytes

  synced_before : length tail.first ≤ end
  synced_before = omega (arith, tail.ends, length-append tail.first tail.later)

  pub appended : HasTail made synced (suc unsynced) (end + length bytes) room (count + count_of plan) last Left
  appended =
      let rest = written_record end bytes all tail.slack (records_of seen.redo) tail.is tail.ends tail.zeros in
      let head : (i : ℕ) → i < 10 → get_or last.redo i 0 ≡ get_or seen.redo i 0 = λ i lt. written_before (4096 + end) bytes seen.redo i (omega (arith, fits_in)) (omega (arith, lt)) in
      record {
        first = tail.first;
        later = tail.later ++ bytes;
        slack = rest.0;
        log = log_same seen.redo last.redo (λ i lt. head i (omega (arith, lt))) ∙ tail.log;
        shared = ap (λ k. if k == 0 then false else true) (head 9 (omega arith)) ∙ tail.shared;
        is = written_records end bytes seen.redo (omega (arith, fits_in)) ∙ rest.1.0 ∙ sym (append_assoc all bytes rest.0) ∙ ap (λ (l : List ℕ). l ++ rest.0) moved;
        some = tail.some;
        first_are = tail.first_are;
        later_are = plans_more plan short unsynced tail.later tail.later_are;
        zeros = rest.1.1;
        ends = omega (arith, tail.ends, ap (λ (l : List ℕ). length l) moved, length-append all bytes);
        long = length-written (4096 + end) bytes seen.redo fits_in ∙ tail.long;
        near = tail.near;
        few = few;
        grow = subst (λ k. MayGrow k (log_plan k (tail.first ++ (tail.later ++ bytes))) (count + count_of plan)) (sym one_more)
            (subst (λ (l : List ℕ). MayGrow (suc (synced + unsynced)) (log_plan (suc (synced + unsynced)) l) (count + count_of plan)) moved grows_on);
        now = subst (λ k. Stands k (tail.first ++ (tail.later ++ bytes)) (made (suc unsynced)) last) (sym one_more)
            (subst (λ (l : List ℕ). Stands (suc (synced + unsynced)) l (made (suc unsynced)) last) moved (stands_all seen last refl tail.now));
        left = λ c l.
            let d : Image = l.0 in
            let old = tail.left d l.1 in
            let same : files c ≡ files d = ap (λ (o : Image). files o) l.2.others in (
              left_next end (length tail.first) bytes seen.redo last.redo d.redo c.redo refl fits_in zeros_after synced_before old.0 l.2.stepped,
              λ k n le is. ⊎_elim
                  (λ fewer. subst (λ (x : List ℕ). Stands n x (made k) c) moved (stands_slack n all bytes (made k) d c same (old.1 k n (omega (arith, fewer)) is)))
                  (λ from.
                  let last_one : k ≡ suc unsynced = omega (arith, le, from) in
                  let number : n ≡ suc (synced + unsynced) = omega (arith, is, last_one) in
                  subst (λ j. Stands n (tail.first ++ (tail.later ++ bytes)) (made j) c) (sym last_one)
                  (subst (λ j. Stands j (tail.first ++ (tail.later ++ bytes)) (made (suc unsynced)) c) (sym number)
                  (subst (λ (x : List ℕ). Stands (suc (synced + unsynced)) x (made (suc unsynced)) c) moved (stands_all d c same (old.1 unsynced (synced + unsynced) (omega arith) refl)))))
                  (cases_lt k (suc unsynced)),
            );
      }

  pub append_does : Does (append_acts end bytes) seen may_leave (HoldsSome made (suc unsynced)) (HasTail made synced (suc unsynced) (end + length bytes) room (count + count_of plan))
  append_does = record {
    can = (omega (arith, fits_in), tt);
    any_moment = λ c left. ⊎_elim
        (λ l. let some = tail_left made synced unsynced end room count seen may_leave tail c l in record { number = some.number; few = omega (arith, some.few); holds = some.holds })
        (λ l. tail_left made synced (suc unsynced) (end + length bytes) room (count + count_of plan) last Left appended c l)
        left;
    after = appended;
  }

  plan_seen : plan_of seen ≡ log_plan (synced + unsynced) all
  plan_seen = tail_plan_of made synced unsynced end room count seen may_leave tail

  plan_last : plan_of last ≡ next_plan (synced + unsynced) (log_plan (synced + unsynced) all) plan
  unfolding appended
  plan_last = tail_plan_of made synced (suc unsynced) (end + length bytes) room (count + count_of plan) last Left appended
      ∙ ap (λ k. log_plan k (tail.first ++ (tail.later ++ bytes))) one_more
      ∙ ap (λ (l : List ℕ). log_plan (suc (synced + unsynced)) l) (sym moved)
      ∙ plan_next

  -- the joined plan of the tail
  pub tail_next : (n : ℕ) (q : List ℕ) → IsTailPlan n q (made unsynced) seen → IsTailPlan (suc n) (next_plan n q plan) (made (suc unsynced)) last
  tail_next n q is =
      let s : Image = image_of (made unsynced) in
      let whole : List ℕ = log_plan (synced + unsynced) all in
      let follows_q : CanFollow n q plan = can_follow n q plan (made unsynced) seen is.known is.made knows growing is.grows
      (λ some. omega (arith, few, (is.ends some).count, ap count_of plan_seen, (may_grow (synced + unsynced) whole count tail.grow some_all).1)) in
      record {
        known = next_known plan is_plan seen s knows n q follows_q is.known is.made;
        made = next_done plan is_plan seen s knows n q follows_q is.known is.made ∙ sym next_is;
        ends = λ some. subst (λ (l : List ℕ). EndsWith l (next_plan n q plan)) (sym plan_last) (ends_next n q is);
        grows = λ some. grows_next n q is follows_q;
      }
    where
      ends_suc : (k : ℕ) (whole q : List ℕ) → 1 ≤ k → KnownBy k whole seen → CanFollow k whole plan → EndsWith whole q → 28 ≤ length q → EndsWith (next_plan k whole plan) (joined q plan)
      ends_suc zero whole q some known may ends header = absurd (omega (arith, some))
      ends_suc (suc k) whole q some known may ends header = ends_joined whole plan known.0 is_plan may q ends header

      ends_next : (n : ℕ) (q : List ℕ) → IsTailPlan n q (made unsynced) seen → EndsWith (next_plan (synced + unsynced) (log_plan (synced + unsynced) all) plan) (next_plan n q plan)
      ends_next zero q is = next_ends plan is_plan seen (image_of (made unsynced)) knows (synced + unsynced) (log_plan (synced + unsynced) all) follows tail.now.known
      ends_next (suc n) q is = ends_suc (synced + unsynced) (log_plan (synced + unsynced) all) q some_all tail.now.known follows (subst (λ (l : List ℕ). EndsWith l q) plan_seen (is.ends (omega arith))) is.known.0.header

      grows_next : (n : ℕ) (q : List ℕ) → IsTailPlan n q (made unsynced) seen → CanFollow n q plan → (g : ℕ) → old_length (data_file g) (next_plan n q plan) ≤ new_length (data_file g) (next_plan n q plan)
      grows_next zero q is follows_q g = each_growing plan growing g
      grows_next (suc n) q is follows_q g =
          omega (arith, joined_old q plan is.known.0.header is_plan.header g, joined_new q plan is.known.0.header is_plan.header g, follows_q.so_far g, follows_q.on g)

-- all records are synced, if each image that a crash leaves has the redo file that is read
closed : (made later : ℕ → List ℕ × List ℕ) (synced unsynced end room count : ℕ) (seen : Image) (may_leave next_leave : Image → Type 0) (tail : HasTail made synced unsynced end room count seen may_leave) → later 0 ≡ made unsynced
    → ((c : Image) → next_leave c → (c.redo ≡ seen.redo) × Stands (synced + unsynced) (tail.first ++ tail.later) (made unsynced) c) → HasTail later (synced + unsynced) 0 end room count seen next_leave
closed made later synced unsynced end room count seen may_leave next_leave tail same each =
    let n : ℕ = synced + unsynced in
    let all : List ℕ = tail.first ++ tail.later in
    let none : n + 0 ≡ n = omega arith in
    let nothing : all ++ [] ≡ all = append-nil all in
    record {
      first = all;
      later = [];
      slack = tail.slack;
      log = tail.log;
      shared = tail.shared;
      is = tail.is ∙ ap (λ (l : List ℕ). l ++ tail.slack) (sym nothing);
      some = omega (arith, tail.some);
      first_are = are_append synced unsynced n tail.first tail.later refl tail.first_are tail.later_are;
      later_are = refl;
      zeros = tail.zeros;
      ends = tail.ends ∙ ap (λ (l : List ℕ). length l) (sym nothing);
      long = tail.long;
      near = tail.near;
      few = tail.few;
      grow = subst (λ k. MayGrow k (log_plan k (all ++ [])) count) (sym none) (subst (λ (l : List ℕ). MayGrow n (log_plan n l) count) (sym nothing) tail.grow);
      now = subst (λ k. Stands k (all ++ []) (later 0) seen) (sym none)
          (subst (λ (l : List ℕ). Stands n l (later 0) seen) (sym nothing) (subst (λ (p : List ℕ × List ℕ). Stands n all p seen) (sym same) tail.now));
      left = λ c l. (
        record {
          long = ap (λ (x : List ℕ). length x) (each c l).0;
          head = λ i lt. ap (λ (x : List ℕ). get_or x i 0) (each c l).0;
          same = λ i lt. ap (λ (x : List ℕ). get_or (records_of x) i 0) (each c l).0;
          behind = λ i. inr (ap (λ (x : List ℕ). get_or (records_of x) i 0) (each c l).0);
        },
        λ k j le is.
            let first_one : k ≡ 0 = omega (arith, le) in
            let number : j ≡ n = omega (arith, is, first_one) in
            subst (λ i. Stands j (all ++ []) (later i) c) (sym first_one)
            (subst (λ i. Stands i (all ++ []) (later 0) c) (sym number)
            (subst (λ (x : List ℕ). Stands n x (later 0) c) (sym nothing) (subst (λ (p : List ℕ × List ℕ). Stands n all p c) (sym same) (each c l).1))),
      );
    }

-- syncs the log
pub sync_does : (made later : ℕ → List ℕ × List ℕ) (synced unsynced end room count : ℕ) (seen : Image) (may_leave : Image → Type 0) → HasTail made synced unsynced end room count seen may_leave → later 0 ≡ made unsynced
    → Does sync_acts seen may_leave (HoldsSome made unsynced) (HasTail later (synced + unsynced) 0 end room count)
sync_does made later synced unsynced end room count seen may_leave tail same = record {
  can = (tt, tt);
  any_moment = λ c left. ⊎_elim (λ l. tail_left made synced unsynced end room count seen may_leave tail c l) (λ l. tail_left made synced unsynced end room count seen may_leave tail c l.0) left;
  after = closed made later synced unsynced end room count seen may_leave _ tail same (λ c l. (l.1, (tail.left c l.0).1 unsynced (synced + unsynced) (omega arith) refl));
}

-- a process is killed while it appends a record
two : List ℕ × List ℕ → List ℕ × List ℕ → ℕ → List ℕ × List ℕ
two a b zero = a
two a b (suc k) = b

one_of_two : (a b : List ℕ × List ℕ) (k : ℕ) (c : Image) → Holds (two a b k) c → Holds a c ⊎ Holds b c
unfolding two
one_of_two a b zero c holds = inl holds
one_of_two a b (suc k) c holds = inr holds

pub append_killed : (plan : List ℕ) → IsPlan plan → length plan < 4000000000 → IsGrowing plan → (made : ℕ → List ℕ × List ℕ) (synced unsynced end room count : ℕ) (seen : Image) (may_leave : Image → Type 0)
    → HasTail made synced unsynced end room count seen may_leave → Knows plan (made unsynced) → made (suc unsynced) ≡ renewed_both plan (made unsynced) → end + length (record_of plan) ≤ room → count + count_of plan < 2 ^ 32
    → (c : Image) → Killed (append_acts end (record_of plan)) seen c → Holds (made unsynced) c ⊎ Holds (made (suc unsynced)) c
unfolding two
append_killed plan is_plan short growing made synced unsynced end room count seen may_leave tail knows next_is inside few c killed =
    let a : List ℕ × List ℕ = made unsynced in
    let b : List ℕ × List ℕ = made (suc unsynced) in
    let n : ℕ = synced + unsynced in
    let Read : Image → Type 0 = λ d. d ≡ seen in
    let read : HasTail (two a b) n 0 end room count seen Read =
    closed made (two a b) synced unsynced end room count seen may_leave Read tail refl
    (λ d is. (ap (λ (o : Image). o.redo) is, subst (λ (o : Image). Stands n (tail.first ++ tail.later) a o) (sym is) tail.now)) in
    let does = append_does plan is_plan short growing (two a b) n 0 end room count seen Read read knows next_is inside few in
    let one : HoldsSome (two a b) 1 c → Holds a c ⊎ Holds b c = λ is. one_of_two a b is.number c is.holds in
    ⊎_elim
    (λ before. one (does.any_moment c (inl before)))
    (λ more. ⊎_elim
    (λ partly. one (does.any_moment c (inr partly)))
    (λ done. inr (subst (λ (o : Image). Holds b o) (sym done)
    (tail_now (two a b) n 1 (end + length (record_of plan)) room (count + count_of plan) (put Redo (written (4096 + end) (record_of plan) seen.redo) seen) _ does.after)))
    more)
    killed

-- a log that is ready, and has records, has a tail without unsynced records
pub tail_ready : (made : ℕ → List ℕ × List ℕ) (end room count : ℕ) (seen : Image) (may_leave : Image → Type 0) → IsReady end room count seen may_leave → is_shared seen.redo ≡ true → 1 ≤ number_of seen → made 0 ≡ files seen
    → HasTail made (number_of seen) 0 end room count seen may_leave
tail_ready made end room count seen may_leave ready shared some same =
    let place : HasRecords end (records_of seen.redo) = ready.file.place in
    let log : is_log seen.redo ≡ true = log_some seen some in
    let none = zeros_no place.slack place.zeros in
    let n : ℕ = place.number in
    let xs : List ℕ = place.records in
    let number : number_of seen ≡ n = number_is n xs place.slack seen place.is place.are none log in
    let plan : plan_of seen ≡ log_plan n xs = plan_is n xs place.slack seen place.is place.are none log in
    let nothing : xs ++ [] ≡ xs = append-nil xs in
    let alone : number_of seen + 0 ≡ n = omega (arith, number) in
    let stands : (c : Image) → records_of c.redo ≡ records_of seen.redo → is_log c.redo ≡ true → Holds (files seen) c → Stands n xs (made 0) c = λ c records is_log_c holds.
    subst (λ (p : List ℕ × List ℕ). Stands n xs p c) (sym same) (stands_read n xs place.slack (files seen) c (records ∙ place.is) place.are place.zeros is_log_c holds) in
    let long : length (records_of seen.redo) ≡ length xs + length place.slack = ap (λ (l : List ℕ). length l) place.is ∙ length-append xs place.slack in
    let marked : (c : Image) → may_leave c → get_or c.redo 0 0 ≡ get_or seen.redo 0 0 = λ c l. ⊎_elim
    (λ is. is)
    (λ missing. absurd (omega (arith, some, number, missing.1, ap (λ (l : List ℕ). number_in l) place.is ∙ number_log n xs place.slack place.are none)))
    (ready.durable.kept c l).mark in
    record {
      first = xs;
      later = [];
      slack = place.slack;
      log = log;
      shared = shared;
      is = place.is ∙ ap (λ (l : List ℕ). l ++ place.slack) (sym nothing);
      some = some;
      first_are = subst (λ k. AreRecords k xs) (sym number) place.are;
      later_are = refl;
      zeros = place.zeros;
      ends = place.ends ∙ ap (λ (l : List ℕ). length l) (sym nothing);
      long = ready.long;
      near = ready.near;
      few = ready.few;
      grow = subst (λ k. MayGrow k (log_plan k (xs ++ [])) count) (sym alone)
          (subst (λ (l : List ℕ). MayGrow n (log_plan n l) count) (sym nothing) (subst (λ k. MayGrow k (log_plan n xs) count) number (subst (λ (l : List ℕ). MayGrow (number_of seen) l count) plan ready.grow)));
      now = subst (λ k. Stands k (xs ++ []) (made 0) seen) (sym alone) (subst (λ (l : List ℕ). Stands n l (made 0) seen) (sym nothing) (stands seen refl log ready.durable.now));
      left = λ c l.
          let kept : IsKeptLog seen.redo c.redo = ready.durable.kept c l in (
            record {
              long = omega (arith, ready.long, long, some, number, plans_long n xs place.are, length-drop 4096 seen.redo, length-drop 4096 c.redo, ap (λ (x : List ℕ). length x) kept.records);
              head = head_kept seen c kept (marked c l);
              same = λ i lt. ap (λ (x : List ℕ). get_or x i 0) kept.records;
              behind = λ i. inr (ap (λ (x : List ℕ). get_or x i 0) kept.records);
            },
            λ k j le is.
                let first_one : k ≡ 0 = omega (arith, le) in
                let all : j ≡ n = omega (arith, is, first_one, number) in
                subst (λ i. Stands j (xs ++ []) (made i) c) (sym first_one)
                (subst (λ i. Stands i (xs ++ []) (made 0) c) (sym all)
                (subst (λ (x : List ℕ). Stands n x (made 0) c) (sym nothing)
                (stands c kept.records (log_same seen.redo c.redo (λ i lt. head_kept seen c kept (marked c l) i (omega (arith, lt))) ∙ log) (ready.durable.holds c l)))),
          );
    }
  where
    head_kept : (seen c : Image) → IsKeptLog seen.redo c.redo → get_or c.redo 0 0 ≡ get_or seen.redo 0 0 → (i : ℕ) → i < 10 → get_or c.redo i 0 ≡ get_or seen.redo i 0
    head_kept seen c kept mark zero lt = mark
    head_kept seen c kept mark (suc i) lt = kept.signed (suc i) (omega arith) lt

-- applies the joined plan of the tail, if all records are synced
pub apply_does : (made : ℕ → List ℕ × List ℕ) (synced end room count : ℕ) (seen : Image) (may_leave : Image → Type 0) (tail : HasTail made synced 0 end room count seen may_leave) (n : ℕ) (q : List ℕ) → 1 ≤ n
    → IsTailPlan n q (made 0) seen → Does (apply_acts q) seen may_leave (λ c. Holds (made 0) c) (λ s m. IsReady end room count s m × (files s ≡ made 0))
apply_does made synced end room count seen may_leave tail zero q some is = absurd (omega (arith, some))
apply_does made synced end room count seen may_leave tail (suc n) q some is =
    let all : List ℕ = tail.first ++ tail.later in
    let k : ℕ = synced + 0 in
    let are : AreRecords k all = are_append synced 0 k tail.first tail.later refl tail.first_are tail.later_are in
    let none = zeros_no tail.slack tail.zeros in
    let number : number_of seen ≡ k = number_is k all tail.slack seen tail.is are none tail.log in
    let plan : plan_of seen ≡ log_plan k all = plan_is k all tail.slack seen tail.is are none tail.log in
    let new : renewed_files q seen ≡ made 0 = is.made in
    let end_is : end ≡ length tail.first = tail.ends ∙ length-append tail.first tail.later ∙ ap (λ (l : List ℕ). length tail.first + length l) tail.later_are ∙ plain (length tail.first) in
    let committed : IsCommitted q seen may_leave = record {
      kept = λ c l. left_kept seen.redo c.redo (length tail.first) (tail.left c l).0
          (λ i le. ap (λ (x : List ℕ). get_or x i 0) tail.is ∙ get_or-append_right all tail.slack end i 0 (sym tail.ends) (omega (arith, le, end_is)) ∙ zero_at tail.slack tail.zeros (i - end));
      some = omega (arith, number, tail.some);
      last = is.ends some;
      now = subst (λ (p : List ℕ × List ℕ). Holds p seen) (sym new) (tail_now made synced 0 end room count seen may_leave tail);
      holds = λ c l. subst (λ (p : List ℕ × List ℕ). Holds p c) (sym new) (only_none made c (tail_left made synced 0 end room count seen may_leave tail c l));
    } in
    weaker_does (apply_acts q) seen may_leave _ _ _ _
    (λ c holds. subst (λ (p : List ℕ × List ℕ). Holds p c) new holds)
    (λ s m done.
    let redo : s.redo ≡ seen.redo = done.1.1 in
    let number_s : number_of s ≡ k = ap (λ (l : List ℕ). number_by (is_log l) l) redo ∙ number in
    let plan_s : plan_of s ≡ log_plan k all = ap (λ (l : List ℕ). log_plan (number_by (is_log l) l) (records_of l)) redo ∙ plan in (
      record {
        durable = done.0;
        file = subst (λ (l : List ℕ). IsLogFile end l) (sym redo) (record {
          signed = log_signed seen.redo tail.log;
          mark = inr (log_mark seen.redo tail.log);
          place = record { number = k; records = all; slack = tail.slack; is = tail.is; are = are; ends = tail.ends; zeros = tail.zeros };
        });
        long = ap (λ (l : List ℕ). length l) redo ∙ tail.long;
        near = tail.near;
        few = tail.few;
        none = λ nothing. absurd (omega (arith, nothing, number_s, tail.some));
        grow = subst (λ j. MayGrow j (plan_of s) count) (sym number_s) (subst (λ (l : List ℕ). MayGrow k l count) (sym plan_s) tail.grow);
      },
      done.1.0 ∙ new,
    ))
    (committed_does q is.known.0 seen may_leave committed)
  where
    plain : (n : ℕ) → n + 0 ≡ n
    plain n = omega arith

    only_none : (made : ℕ → List ℕ × List ℕ) (c : Image) → HoldsSome made 0 c → Holds (made 0) c
    only_none made c is = let first : is.number ≡ 0 = omega (arith, is.few) in subst (λ k. Holds (made k) c) first is.holds

    left_kept : (read left : List ℕ) (synced : ℕ) → IsLeftOf synced read left → ((i : ℕ) → synced ≤ i → get_or (records_of read) i 0 ≡ 0) → IsKeptLog read left
    left_kept read left synced is zeros = record {
      records = ext_get_or 0 (records_of left) (records_of read) (omega (arith, is.long, length-drop 4096 left, length-drop 4096 read))
          (λ i below. ⊎_elim (λ before. is.same i before) (λ from. ⊎_elim (λ nothing. nothing ∙ sym (zeros i from)) (λ same. same) (is.behind i)) (cases_lt i synced));
      signed = λ i one ten. is.head i ten;
      mark = inl (is.head 0 (omega arith));
    }

-- makes a log shared
pub share_does : (end room count : ℕ) (first : Image) (may_leave : Image → Type 0) → IsReady end room count first may_leave
    → Does share_acts first may_leave (λ c. Holds (files first) c) (λ s m. IsReady end room count s m × ((is_shared s.redo ≡ true) × (files s ≡ files first)))
share_does end room count first may_leave ready =
    let one : List ℕ = 1 ∷ [] in
    let third : Image = put Redo (written 9 one first.redo) first in
    let inside : 9 + length one ≤ length first.redo = omega (arith, ready.long) in
    let torn : Torn 9 one first.redo third.redo = torn_written 9 one first.redo (omega (arith, inside)) in
    let head = head_noted 9 one (omega arith) (omega arith) first.redo third.redo torn in
    let records : records_of third.redo ≡ records_of first.redo = records_noted 9 one (omega arith) (omega arith) first.redo third.redo torn in
    let byte : get_or third.redo 9 0 ≡ 1 = written_inside 9 one first.redo 9 (omega (arith, inside)) (omega arith) (omega arith) in
    let shared : is_shared third.redo ≡ true = ap (λ k. if k == 0 then false else true) byte in
    let single : is_shared third.redo ≡ false → is_shared first.redo ≡ false = λ alone. absurd (never_both (is_shared third.redo) shared alone) in
    let holds : (c : Image) → (d : Image) × may_leave d × Within Redo (Torn 9 one) d c → Holds (files first) c = λ c l.
    let d : Image = l.0 in
    let step : Torn 9 one d.redo c.redo = l.2.stepped in
    holds_noted d c (head_noted 9 one (omega arith) (omega arith) d.redo c.redo step) (records_noted 9 one (omega arith) (omega arith) d.redo c.redo step)
    (λ alone. ⊎_elim
    (λ old. sym (shared_same d.redo c.redo old) ∙ alone)
    (λ new. absurd (never_both (is_shared c.redo) (ap (λ k. if k == 0 then false else true) new) alone))
    (step.within 0 (omega arith)))
    (files first) (signed_same first.redo d.redo (λ i from to. (ready.durable.kept d l.1).signed i from (omega (arith, to))) ∙ ready.file.signed)
    (ap (λ (o : Image). files o) l.2.others) (ready.durable.holds d l.1) in
    let number : number_of third ≡ number_of first = number_noted first third head records single in
    let plan : plan_of third ≡ plan_of first = plan_noted first third head records single in
    record {
      can = (omega (arith, inside), (tt, tt));
      any_moment = λ c left. ⊎_elim (λ l. ready.durable.holds c l) (λ more. ⊎_elim (λ l. holds c l) (λ l. holds c l.0) more) left;
      after = (
        record {
          durable = record {
            kept = λ c l. kept_self third.redo c.redo l.1;
            now = holds_noted first third head records single (files first) ready.file.signed refl ready.durable.now;
            holds = λ c l. holds c l.0;
          };
          file = record {
            signed = signed_same first.redo third.redo (λ i from to. head i to) ∙ ready.file.signed;
            mark = ⊎_elim (λ none. inl (none.0, head 0 (omega arith) ∙ none.1)) (λ is. inr (head 0 (omega arith) ∙ is)) ready.file.mark;
            place = subst (λ (l : List ℕ). HasRecords end l) (sym records) ready.file.place;
          };
          long = length-written 9 one first.redo inside ∙ ready.long;
          near = ready.near;
          few = ready.few;
          none = λ none. ready.none (sym number ∙ none);
          grow = subst (λ k. MayGrow k (plan_of third) count) (sym number) (subst (λ (l : List ℕ). MayGrow (number_of first) l count) (sym plan) ready.grow);
        },
        (shared, refl),
      );
    }
