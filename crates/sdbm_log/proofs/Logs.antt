-- The records of a log, and the records that a crash leaves.
use Rattle.std.proofs.Common.{Bool, true, false, ◌≡◌, ◌⊎◌, inl, inr, ⊎_elim, ℕ, zero, suc, ◌+◌, ◌-◌, ◌<◌, ◌≤◌, ◌^◌, List, [], ◌∷◌, ◌++◌, length, drop, get_or, refl, sym, ◌∙◌, ap, subst, arith, length-append, length-drop, append_assoc}
use Rattle.std.proofs.lemmas.Bool.{cases_eq}
use Rattle.std.proofs.lemmas.List.{get_or-append_right, get_or-drop, take-append-le, take_all}
use Rattle.sdbm_saves.specs.declared.disk.DiskFile.TheVariants.{Pages, Directory, Redo}
use Rattle.sdbm_saves.specs.Disk.{Image, put, written, resized, Only, Follows, Torn, Within}
use Rattle.sdbm_saves.specs.Redo.{data_file, new_length, old_length, count_of, changes_of, IsBetween, renewed, data_in, files, renewed_files, IsPlan, Knows, EndsWith, AlikeFor}
use Rattle.sdbm_log.specs.Log.{first_plan, later_records, AreRecords, ArePlans, Stands, after_records, MayBeTorn, MayFollow, joined, joined_all, next_plan, log_plan, record_of, nonzero, is_whole, is_log, is_signed, empty_log, records_of, number_in, number_by, number_of, plan_of, with_plan, KnownBy, CanReplay, files_by, files_of, CanRecoverBy, CanRecover, Holds, HasRecords, CanFollow, IsGrowing, MayGrow, IsKeptLog, IsDurable, IsCommitted, IsLogFile, IsReady, size_at}
use Rattle.sdbm_saves.proofs.Lists.{length-resized, written_before}
use Rattle.sdbm_saves.proofs.Replays.{length-replayed, ends_itself}
use Rattle.sdbm_log.proofs.Header.{log_same, log_marked, log_unmarked, log_mark, log_signed, signed_same, kept_self, unmarked_holds, holds_unmarked, kept_log, torn_records, written_records, head_torn, head_written, torn_byte, marked_records, marked_signed, long_kept, empty_signed, empty_records, written_first}
use Rattle.sdbm_log.proofs.Weights.{number_more, first_more, later_more, whole_more, number_log, zeros_no, first_record, later_record, record_fits, record_whole, record_is, record_may, zeros_may, after_append, left, behind, left_is, left_torn, behind_zeros, zeros_are, zero_at, nonzero_append, nonzero_length}
use Rattle.sdbm_log.proofs.Joins.{joined_old, joined_new, joined_count, is_joined, ends_with, renewed_joined, knows_joined}

-- bytes after the records of a log have no meaning
joined_slack : (plan : List ℕ) (n : ℕ) (xs ys : List ℕ) → AreRecords n xs → joined_all plan n (xs ++ ys) ≡ joined_all plan n xs
joined_slack plan zero xs ys are = refl
joined_slack plan (suc n) xs ys are =
    ap (λ (l : List ℕ). joined_all (joined plan l) n (later_records (xs ++ ys))) (first_more xs ys are.1.0)
    ∙ ap (λ (l : List ℕ). joined_all (joined plan (first_plan xs)) n l) (later_more xs ys are.1.0)
    ∙ joined_slack (joined plan (first_plan xs)) n (later_records xs) ys are.1.1

log_slack : (n : ℕ) (xs ys : List ℕ) → AreRecords n xs → log_plan n (xs ++ ys) ≡ log_plan n xs
log_slack zero xs ys are = refl
log_slack (suc n) xs ys are =
    ap (λ (l : List ℕ). joined_all l n (later_records (xs ++ ys))) (first_more xs ys are.1.0)
    ∙ ap (λ (l : List ℕ). joined_all (first_plan xs) n l) (later_more xs ys are.1.0)
    ∙ joined_slack (first_plan xs) n (later_records xs) ys are.1.1

-- one more plan
module _ (plan : List ℕ) (short : length plan < 4000000000) where
  pub plans_more : (n : ℕ) (xs : List ℕ) → AreRecords n xs → AreRecords (suc n) (xs ++ record_of plan)
  plans_more zero xs are = subst (λ (l : List ℕ). AreRecords 1 (l ++ record_of plan)) (sym are) (record_whole plan short, (record_fits plan short, later_record plan short))
  plans_more (suc n) xs are = (
    whole_more xs (record_of plan) are.1.0 ∙ are.0,
    (
      omega (arith, are.1.0, number_more xs (record_of plan) are.1.0, length-append xs (record_of plan)),
      subst (λ (l : List ℕ). AreRecords (suc n) l) (sym (later_more xs (record_of plan) are.1.0)) (plans_more n (later_records xs) are.1.1),
    ),
  )

  joined_more : (first : List ℕ) (n : ℕ) (xs : List ℕ) → AreRecords n xs → joined_all first (suc n) (xs ++ record_of plan) ≡ joined (joined_all first n xs) plan
  joined_more first zero xs are = ap (λ (l : List ℕ). joined first (first_plan (l ++ record_of plan))) are ∙ ap (λ (l : List ℕ). joined first l) (first_record plan short)
  joined_more first (suc n) xs are =
      ap (λ (l : List ℕ). joined_all (joined first l) (suc n) (later_records (xs ++ record_of plan))) (first_more xs (record_of plan) are.1.0)
      ∙ ap (λ (l : List ℕ). joined_all (joined first (first_plan xs)) (suc n) l) (later_more xs (record_of plan) are.1.0)
      ∙ joined_more (joined first (first_plan xs)) n (later_records xs) are.1.1

-- n plans, followed by any bytes
pub whole_slack : (n : ℕ) (xs ys : List ℕ) → AreRecords n xs → ArePlans n xs → ArePlans n (xs ++ ys)
whole_slack zero xs ys are whole = tt
whole_slack (suc n) xs ys are whole = (
  omega (arith, are.1.0, number_more xs ys are.1.0, length-append xs ys),
  (
    subst (λ (l : List ℕ). IsPlan l) (sym (first_more xs ys are.1.0)) whole.1.0,
    subst (λ (l : List ℕ). ArePlans n l) (sym (later_more xs ys are.1.0)) (whole_slack n (later_records xs) ys are.1.1 whole.1.1),
  ),
)

pub whole_front : (n : ℕ) (xs ys : List ℕ) → AreRecords n xs → ArePlans n (xs ++ ys) → ArePlans n xs
whole_front zero xs ys are whole = tt
whole_front (suc n) xs ys are whole = (
  are.1.0,
  (
    subst (λ (l : List ℕ). IsPlan l) (first_more xs ys are.1.0) whole.1.0,
    whole_front n (later_records xs) ys are.1.1 (subst (λ (l : List ℕ). ArePlans n l) (later_more xs ys are.1.0) whole.1.1),
  ),
)

pub whole_next : (plan : List ℕ) → length plan < 4000000000 → IsPlan plan → (n : ℕ) (xs : List ℕ) → AreRecords n xs → ArePlans n xs → ArePlans (suc n) (xs ++ record_of plan)
whole_next plan short is_plan zero xs are whole =
    subst (λ (l : List ℕ). ArePlans 1 (l ++ record_of plan)) (sym are)
    (record_fits plan short, (subst (λ (l : List ℕ). IsPlan l) (sym (first_record plan short)) is_plan, tt))
whole_next plan short is_plan (suc n) xs are whole = (
  omega (arith, are.1.0, number_more xs (record_of plan) are.1.0, length-append xs (record_of plan)),
  (
    subst (λ (l : List ℕ). IsPlan l) (sym (first_more xs (record_of plan) are.1.0)) whole.1.0,
    subst (λ (l : List ℕ). ArePlans (suc n) l) (sym (later_more xs (record_of plan) are.1.0)) (whole_next plan short is_plan n (later_records xs) are.1.1 whole.1.1),
  ),
)

pub log_more : (plan : List ℕ) → length plan < 4000000000 → (n : ℕ) (xs : List ℕ) → AreRecords n xs → log_plan (suc n) (xs ++ record_of plan) ≡ next_plan n (log_plan n xs) plan
log_more plan short zero xs are = ap (λ (l : List ℕ). first_plan (l ++ record_of plan)) are ∙ first_record plan short
log_more plan short (suc n) xs are =
    ap (λ (l : List ℕ). joined_all l (suc n) (later_records (xs ++ record_of plan))) (first_more xs (record_of plan) are.1.0)
    ∙ ap (λ (l : List ℕ). joined_all (first_plan xs) (suc n) l) (later_more xs (record_of plan) are.1.0)
    ∙ joined_more plan short (first_plan xs) n (later_records xs) are.1.1

-- an image whose log has n records
module _ (n : ℕ) (xs ys : List ℕ) (c : Image) (is : records_of c.redo ≡ xs ++ ys) (are : AreRecords n xs) (none : is_whole ys ≡ false) (log : is_log c.redo ≡ true) where
  pub number_is : number_of c ≡ n
  number_is = ap (λ b. number_by b c.redo) log ∙ ap (λ (l : List ℕ). number_in l) is ∙ number_log n xs ys are none

  pub plan_is : plan_of c ≡ log_plan n xs
  plan_is = ap (λ k. log_plan k (records_of c.redo)) number_is ∙ ap (λ (l : List ℕ). log_plan n l) is ∙ log_slack n xs ys are

  pub files_are : files_of c ≡ with_plan n (log_plan n xs) c
  files_are = ap (λ b. files_by b c) log ∙ ap (λ k. with_plan k (plan_of c) c) number_is ∙ ap (λ (l : List ℕ). with_plan n l c) plan_is

  pub rest_is : after_records (number_of c) (records_of c.redo) ≡ ys
  rest_is = ap (λ k. after_records k (records_of c.redo)) number_is ∙ ap (λ (l : List ℕ). after_records n l) is ∙ after_append n xs ys are

  pub can_recover : ArePlans n xs → KnownBy n (log_plan n xs) c → MayFollow c.redo ys → CanRecover c
  can_recover plans known may = subst (λ b. CanRecoverBy b c) (sym log) (record {
    plans = subst (λ k. ArePlans k (records_of c.redo)) (sym number_is) (subst (λ (l : List ℕ). ArePlans n l) (sym is) (whole_slack n xs ys are plans));
    known = subst (λ k. KnownBy k (plan_of c) c) (sym number_is) (subst (λ (l : List ℕ). KnownBy n l c) (sym plan_is) known);
    rest = subst (λ (l : List ℕ). MayFollow c.redo l) (sym rest_is) may;
  })

  pub known : CanReplay c → KnownBy n (log_plan n xs) c
  known can = subst (λ (l : List ℕ). KnownBy n l c) plan_is (subst (λ k. KnownBy k (plan_of c) c) number_is can.known)

  pub plans : CanReplay c → ArePlans n xs
  plans can = whole_front n xs ys are (subst (λ (l : List ℕ). ArePlans n l) is (subst (λ k. ArePlans k (records_of c.redo)) number_is can.plans))

pub replay_of : (c : Image) → is_log c.redo ≡ true → CanRecover c → CanReplay c
replay_of c log can = subst (λ b. CanRecoverBy b c) log can

abbrev pub both_renewed : List ℕ → List ℕ × List ℕ → List ℕ × List ℕ
both_renewed plan both = (renewed Pages plan both.0, renewed Directory plan both.1)

pub with_same : (n : ℕ) (plan : List ℕ) (c d : Image) → files c ≡ files d → with_plan n plan c ≡ with_plan n plan d
with_same zero plan c d same = same
with_same (suc n) plan c d same = ap (λ (p : List ℕ × List ℕ). (renewed Pages plan p.0, renewed Directory plan p.1)) same

pub known_same : (n : ℕ) (plan : List ℕ) (c d : Image) → files c ≡ files d → KnownBy n plan d → KnownBy n plan c
known_same zero plan c d same known = known
known_same (suc n) plan c d same known = (known.0, subst (λ (p : List ℕ × List ℕ). Knows plan p) (sym same) known.1)

-- One more plan is known and applied, if it knows the files that the plans before it make.
module _ (plan : List ℕ) (is_plan : IsPlan plan) (d s : Image) (knows : Knows plan (files s)) where
  pub next_done : (n : ℕ) (first : List ℕ) → CanFollow n first plan → KnownBy n first d → with_plan n first d ≡ files s → with_plan (suc n) (next_plan n first plan) d ≡ renewed_files plan s
  next_done zero first follows known is = ap (λ (p : List ℕ × List ℕ). (renewed Pages plan p.0, renewed Directory plan p.1)) is
  next_done (suc n) first follows known is = λ i. (
    (renewed_joined first plan known.0 is_plan follows 0 d.pages (omega (arith, known.1.pages.no_longer, follows.so_far 0)) ∙ ap (λ (p : List ℕ × List ℕ). renewed Pages plan p.0) is) i,
    (renewed_joined first plan known.0 is_plan follows 1 d.directory (omega (arith, known.1.directory.no_longer, follows.so_far 1)) ∙ ap (λ (p : List ℕ × List ℕ). renewed Directory plan p.1) is) i,
  )

  each_file : (first : List ℕ) → renewed_files first d ≡ files s → (g : ℕ) → renewed (data_file g) first (data_in (files d) (data_file g)) ≡ data_in (files s) (data_file g)
  each_file first is zero = ap (λ (p : List ℕ × List ℕ). p.0) is
  each_file first is (suc g) = ap (λ (p : List ℕ × List ℕ). p.1) is

  pub next_known : (n : ℕ) (first : List ℕ) → CanFollow n first plan → KnownBy n first d → with_plan n first d ≡ files s → KnownBy (suc n) (next_plan n first plan) d
  next_known zero first follows known is = (is_plan, subst (λ (p : List ℕ × List ℕ). Knows plan p) (sym is) knows)
  next_known (suc n) first follows known is =
      (is_joined first plan known.0 is_plan follows, knows_joined first plan known.0 is_plan follows (files d) (files s) known.1 knows (each_file first is))

  pub next_ends : (n : ℕ) (first : List ℕ) → CanFollow n first plan → KnownBy n first d → EndsWith (next_plan n first plan) plan
  next_ends zero first follows known = ends_itself plan is_plan
  next_ends (suc n) first follows known = ends_with first plan known.0 is_plan follows

pub stands_read : (n : ℕ) (xs slack : List ℕ) (both : List ℕ × List ℕ) (d : Image) → records_of d.redo ≡ xs ++ slack → AreRecords n xs → nonzero slack ≡ 0 → is_log d.redo ≡ true → Holds both d → Stands n xs both d
stands_read n xs slack both d is are zeros log holds =
    let none : is_whole slack ≡ false = zeros_no slack zeros in
    let can : CanReplay d = replay_of d log holds.1 in
    record {
      plans = plans n xs slack d is are none log can;
      known = known n xs slack d is are none log can;
      made = sym (files_are n xs slack d is are none log) ∙ holds.0;
    }

stands_none : (n : ℕ) (xs : List ℕ) (both : List ℕ × List ℕ) (d : Image) → n ≡ 0 → files d ≡ both → Stands n xs both d
stands_none n xs both d none same = subst (λ k. Stands k xs both d) (sym none) (record { plans = tt; known = tt; made = same })

module _ (n : ℕ) (xs plan : List ℕ) (first : Image) (is_plan : IsPlan plan) (knows : Knows plan (files first)) (short : length plan < 4000000000) (are : AreRecords n xs)
    (follows : CanFollow n (log_plan n xs) plan) (d c : Image) (stands : Stands n xs (files first) d) (same : files c ≡ files d) (log : is_log c.redo ≡ true) where
  -- a log without any further complete record represents the same files
  pub still_holds : (rest : List ℕ) → records_of c.redo ≡ xs ++ rest → is_whole rest ≡ false → MayFollow c.redo rest → Holds (files first) c
  still_holds rest stays none may = (
    files_are n xs rest c stays are none log ∙ with_same n (log_plan n xs) c d same ∙ stands.made,
    can_recover n xs rest c stays are none log stands.plans (known_same n (log_plan n xs) c d same stands.known) may,
  )

  -- a log with one more record
  pub committed : (rest : List ℕ) → records_of c.redo ≡ xs ++ (record_of plan ++ rest) → nonzero rest ≡ 0 → Holds (renewed_files plan first) c × ((1 ≤ number_of c) × EndsWith (plan_of c) plan)
  committed rest more none =
      let no : is_whole rest ≡ false = zeros_no rest none in
      let now : records_of c.redo ≡ (xs ++ record_of plan) ++ rest = more ∙ sym (append_assoc xs (record_of plan) rest) in
      let all : AreRecords (suc n) (xs ++ record_of plan) = plans_more plan short n xs are in
      let is_next : log_plan (suc n) (xs ++ record_of plan) ≡ next_plan n (log_plan n xs) plan = log_more plan short n xs are in (
        (
          files_are (suc n) (xs ++ record_of plan) rest c now all no log
              ∙ ap (λ (l : List ℕ). with_plan (suc n) l c) is_next
              ∙ with_same (suc n) (next_plan n (log_plan n xs) plan) c d same
              ∙ next_done plan is_plan d first knows n (log_plan n xs) follows stands.known stands.made,
          can_recover (suc n) (xs ++ record_of plan) rest c now all no log
              (whole_next plan short is_plan n xs are stands.plans)
              (subst (λ (l : List ℕ). KnownBy (suc n) l c) (sym is_next)
              (known_same (suc n) (next_plan n (log_plan n xs) plan) c d same (next_known plan is_plan d first knows n (log_plan n xs) follows stands.known stands.made)))
              (λ single. zeros_may rest none),
        ),
        (
          omega (arith, number_is (suc n) (xs ++ record_of plan) rest c now all no log),
          subst (λ (l : List ℕ). EndsWith l plan) (sym (plan_is (suc n) (xs ++ record_of plan) rest c now all no log ∙ is_next))
              (next_ends plan is_plan d first knows n (log_plan n xs) follows stands.known),
        ),
      )

-- A record that is written after the existing ones is committed exactly if it is complete.
module _ (n end : ℕ) (xs slack plan : List ℕ) (first : Image) (is_plan : IsPlan plan) (knows : Knows plan (files first)) (short : length plan < 4000000000) (are : AreRecords n xs) (ends : end ≡ length xs)
    (zeros : nonzero slack ≡ 0) (follows : CanFollow n (log_plan n xs) plan) where
  either : {P Q : Type 0} (b : Bool) → (b ≡ true → P) → (b ≡ false → Q) → P ⊎ Q
  either true p q = inl (p refl)
  either false p q = inr (q refl)

  pub old_or_new : (d c : Image) → records_of d.redo ≡ xs ++ slack → is_log c.redo ≡ true → Stands n xs (files first) d → end + length (record_of plan) ≤ length (records_of d.redo) → Torn end (record_of plan) (records_of d.redo) (records_of c.redo) → files c ≡ files d
      → Holds (files first) c ⊎ Holds (renewed_files plan first) c
  old_or_new d c is log stands inside torn same =
      let old : List ℕ = records_of d.redo in
      let new : List ℕ = records_of c.redo in
      let t : List ℕ = left end (record_of plan) xs slack old new is ends zeros inside torn in
      let z : List ℕ = behind end (record_of plan) xs slack old new is ends zeros inside torn in
      let split : new ≡ xs ++ (t ++ z) = left_is end (record_of plan) xs slack old new is ends zeros inside torn in
      let none : nonzero z ≡ 0 = behind_zeros end (record_of plan) xs slack old new is ends zeros inside torn in
      ⊎_elim
      (λ whole. let all : t ≡ record_of plan = record_is plan short t z (left_torn end (record_of plan) xs slack old new is ends zeros inside torn) none whole in
      inr (committed n xs plan first is_plan knows short are follows d c stands same log z (split ∙ ap (λ (l : List ℕ). xs ++ (l ++ z)) all) none).0)
      (λ no. inl (still_holds n xs plan first is_plan knows short are follows d c stands same log (t ++ z) split no
      (λ single. record_may plan short t z (left_torn end (record_of plan) xs slack old new is ends zeros inside torn) none)))
      (either (is_whole (t ++ z)) (λ yes. yes) (λ no. no))

-- the commit byte is cleared when the data files are durable
pub cleared : (both : List ℕ × List ℕ) (d c : Image) → files d ≡ both → Holds both d → 1 ≤ length d.redo → Within Redo (Torn 0 (0 ∷ [])) d c → Holds both c
cleared both d c are holds long within = ⊎_elim
    (λ old. subst (λ (o : Image). Holds both o) (sym old) holds)
    (λ new. let zero_is : get_or c.redo 0 0 ≡ 0 = ap (λ (o : Image). get_or o.redo 0 0) new in
    unmarked_holds both c (λ one. absurd (omega (arith, zero_is, one))) (ap (λ (o : Image). files o) new ∙ are))
    (torn_byte 0 d c long within)

some_log : (b : Bool) (redo : List ℕ) → 1 ≤ number_by b redo → b ≡ true
some_log true redo some = refl
some_log false redo some = absurd (omega (arith, some))

-- an image with records is a log
pub log_some : (image : Image) → 1 ≤ number_of image → is_log image.redo ≡ true
log_some image some = some_log (is_log image.redo) image.redo some

-- a log that a crash leaves has the same records
pub kept_some : (first d : Image) → 1 ≤ number_of first → IsKeptLog first.redo d.redo → (number_of d ≡ number_of first) × (plan_of d ≡ plan_of first)
kept_some first d some kept =
    let log : is_log first.redo ≡ true = log_some first some in
    let number : number_of first ≡ number_in (records_of first.redo) = ap (λ b. number_by b first.redo) log in
    let left_log : is_log d.redo ≡ true = ⊎_elim (λ is. is) (λ missing. absurd (omega (arith, missing.1, number, some))) (kept_log first.redo d.redo kept log) in
    let same : number_of d ≡ number_of first = ap (λ b. number_by b d.redo) left_log ∙ ap (λ (l : List ℕ). number_in l) kept.records ∙ sym number in
    (same, ap (λ k. log_plan k (records_of d.redo)) same ∙ ap (λ (l : List ℕ). log_plan (number_of first) l) kept.records)

-- while a committed plan is being applied
pub half_done : (plan : List ℕ) (both : List ℕ × List ℕ) (d c : Image) → 1 ≤ number_of d → EndsWith (plan_of d) plan → Holds both d → AlikeFor plan d c → Holds both c
half_done plan both d c some ends holds for =
    let alike = for (plan_of d) ends in
    let log_d : is_log d.redo ≡ true = log_some d some in
    let log_c : is_log c.redo ≡ true = ap is_log alike.redo ∙ log_d in
    let number : number_of c ≡ number_of d = ap (λ (l : List ℕ). number_by (is_log l) l) alike.redo in
    let whole_is : plan_of c ≡ plan_of d = ap (λ (l : List ℕ). log_plan (number_by (is_log l) l) (records_of l)) alike.redo in
    let is : number_of d ≡ suc (number_of d - 1) = omega (arith, some) in
    let can : CanReplay d = replay_of d log_d holds.1 in
    let known_d : KnownBy (suc (number_of d - 1)) (plan_of d) d = subst (λ k. KnownBy k (plan_of d) d) is can.known in (
      ap (λ b. files_by b c) log_c ∙ ap (λ k. with_plan k (plan_of c) c) (number ∙ is) ∙ ap (λ (l : List ℕ). renewed_files l c) whole_is ∙ alike.same
          ∙ sym (ap (λ b. files_by b d) log_d ∙ ap (λ k. with_plan k (plan_of d) d) is) ∙ holds.0,
      subst (λ b. CanRecoverBy b c) (sym log_c) (record {
        plans = subst (λ (l : List ℕ). ArePlans (number_by (is_log l) l) (records_of l)) (sym alike.redo) can.plans;
        known = subst (λ k. KnownBy k (plan_of c) c) (sym (number ∙ is))
            (subst (λ (l : List ℕ). IsPlan l × Knows l (files c)) (sym whole_is) (known_d.0, alike.known known_d.1));
        rest = subst (λ (l : List ℕ). MayFollow l (after_records (number_by (is_log l) l) (records_of l))) (sym alike.redo) can.rest;
      }),
    )

-- the same for an image that a crash left, compared with the log that is read
pub half_left : (plan : List ℕ) (both : List ℕ × List ℕ) (first d c : Image) → 1 ≤ number_of first → EndsWith (plan_of first) plan → IsKeptLog first.redo d.redo → Holds both d → AlikeFor plan d c → Holds both c
half_left plan both first d c some ends kept holds for =
    let same = kept_some first d some kept in
    half_done plan both d c (omega (arith, some, same.0)) (subst (λ (l : List ℕ). EndsWith l plan) (sym same.1) ends) holds for

-- the log is unchanged
pub log_left : (plan : List ℕ) (first d c : Image) → EndsWith (plan_of first) plan → IsKeptLog first.redo d.redo → AlikeFor plan d c → IsKeptLog first.redo c.redo
log_left plan first d c ends kept for = subst (λ (l : List ℕ). IsKeptLog first.redo l) (sym (for (plan_of first) ends).redo) kept

-- an image with committed plans
pub files_some : (plan : List ℕ) (image : Image) → 1 ≤ number_of image → plan ≡ plan_of image → files_of image ≡ renewed_files plan image
files_some plan image some is =
    let more : number_of image ≡ suc (number_of image - 1) = omega (arith, some) in
    ap (λ b. files_by b image) (log_some image some) ∙ ap (λ k. with_plan k (plan_of image) image) more ∙ ap (λ (l : List ℕ). renewed_files l image) (sym is)

-- the plan of a log that can be recovered
pub known_some : (image : Image) → 1 ≤ number_of image → CanRecover image → IsPlan (plan_of image) × Knows (plan_of image) (files image)
known_some image some can =
    let more : number_of image ≡ suc (number_of image - 1) = omega (arith, some) in
    subst (λ k. KnownBy k (plan_of image) image) more (replay_of image (log_some image some) can).known

pub recover_some : (image : Image) → is_log image.redo ≡ true → 1 ≤ number_of image → ArePlans (number_of image) (records_of image.redo) → IsPlan (plan_of image) → Knows (plan_of image) (files image)
    → MayFollow image.redo (after_records (number_of image) (records_of image.redo)) → CanRecover image
recover_some image log some whole is_plan knows may =
    let more : number_of image ≡ suc (number_of image - 1) = omega (arith, some) in
    subst (λ b. CanRecoverBy b image) (sym log) (record { plans = whole; known = subst (λ k. KnownBy k (plan_of image) image) (sym more) (is_plan, knows); rest = may })

-- a log that was read, with its plans as one
pub found_some : (image : Image) (count : ℕ) (plan : List ℕ) → is_log image.redo ≡ true → 1 ≤ count → count ≡ number_in (records_of image.redo) → ArePlans count (records_of image.redo) → plan ≡ log_plan count (records_of image.redo)
    → IsPlan plan → Knows plan (files image) → MayFollow image.redo (after_records count (records_of image.redo)) → (1 ≤ number_of image) × ((plan ≡ plan_of image) × CanRecover image)
found_some image count plan log some counted plans is is_plan knows may =
    let number : count ≡ number_of image = counted ∙ sym (ap (λ b. number_by b image.redo) log) in
    let whole : plan ≡ plan_of image = is ∙ ap (λ k. log_plan k (records_of image.redo)) number in (
      omega (arith, some, number),
      (
        whole,
        recover_some image log (omega (arith, some, number)) (subst (λ k. ArePlans k (records_of image.redo)) number plans) (subst (λ (l : List ℕ). IsPlan l) whole is_plan)
            (subst (λ (l : List ℕ). Knows l (files image)) whole knows) (subst (λ k. MayFollow image.redo (after_records k (records_of image.redo))) number may),
      ),
    )

-- a log with no records
pub recover_none : (image : Image) → is_log image.redo ≡ true → number_of image ≡ 0 → MayFollow image.redo (records_of image.redo) → CanRecover image
recover_none image log none may =
    subst (λ b. CanRecoverBy b image) (sym log)
    (record { plans = subst (λ k. ArePlans k (records_of image.redo)) (sym none) tt; known = subst (λ k. KnownBy k (plan_of image) image) (sym none) tt; rest = subst (λ k. MayFollow image.redo (after_records k (records_of image.redo))) (sym none) may })

pub found_none : (image : Image) (count : ℕ) → is_log image.redo ≡ true → count ≡ 0 → count ≡ number_in (records_of image.redo) → MayFollow image.redo (after_records count (records_of image.redo)) → (number_of image ≡ 0) × CanRecover image
found_none image count log is counted may =
    let number : number_of image ≡ 0 = ap (λ b. number_by b image.redo) log ∙ sym counted ∙ is in
    (number, recover_none image log number (subst (λ k. MayFollow image.redo (after_records k (records_of image.redo))) is may))

pub files_none : (image : Image) → is_log image.redo ≡ true → number_of image ≡ 0 → files_of image ≡ files image
files_none image log none = ap (λ b. files_by b image) log ∙ ap (λ k. with_plan k (plan_of image) image) none

pub log_holds : (both : List ℕ × List ℕ) (c : Image) → is_log c.redo ≡ true → number_in (records_of c.redo) ≡ 0 → MayFollow c.redo (records_of c.redo) → files c ≡ both → Holds both c
log_holds both c log none may same =
    let number : number_of c ≡ 0 = ap (λ b. number_by b c.redo) log ∙ none in
    (files_none c log number ∙ same, recover_none c log number may)

-- a log that is read and durable, with its plans joined
pub committed_read : (seen : Image) (may_leave : Image → Type 0) (plan : List ℕ) → 1 ≤ number_of seen → plan ≡ plan_of seen → CanRecover seen
    → Only seen may_leave → IsCommitted plan seen may_leave
committed_read seen may_leave plan some read can only =
    let image = seen in
    let holds : Holds (renewed_files plan image) image = (files_some plan image some read, can) in
    record {
      kept = λ c now. kept_self image.redo c.redo (ap (λ (o : Image). o.redo) (only c now));
      some = some;
      last = subst (λ (l : List ℕ). EndsWith l plan) read (ends_itself plan (subst (λ (l : List ℕ). IsPlan l) (sym read) (known_some image some can).0));
      now = holds;
      holds = λ c now. subst (λ (o : Image). Holds (renewed_files plan image) o) (sym (only c now)) holds;
    }

-- a log without records
pub durable_none : (seen : Image) (may_leave : Image → Type 0) → is_log seen.redo ≡ true → number_of seen ≡ 0 → CanRecover seen → Only seen may_leave → IsDurable seen may_leave
durable_none seen may_leave log none can only =
    let image = seen in
    let holds : Holds (files image) image = (files_none image log none, can) in
    record {
      kept = λ c now. kept_self image.redo c.redo (ap (λ (o : Image). o.redo) (only c now));
      now = holds;
      holds = λ c now. subst (λ (o : Image). Holds (files image) o) (sym (only c now)) holds;
    }

-- files that a log makes have its lengths
module _ (s : Image) (some : 1 ≤ number_of s) (holds : Holds (files s) s) where
  file_is : (g : ℕ) → renewed (data_file g) (plan_of s) (data_in (files s) (data_file g)) ≡ data_in (files s) (data_file g)
  file_is zero = ap (λ (p : List ℕ × List ℕ). p.0) (sym (files_some (plan_of s) s some refl) ∙ holds.0)
  file_is (suc g) = ap (λ (p : List ℕ × List ℕ). p.1) (sym (files_some (plan_of s) s some refl) ∙ holds.0)

  length_is : (g : ℕ) → length (data_in (files s) (data_file g)) ≡ new_length (data_file g) (plan_of s)
  length_is g = ap (λ (l : List ℕ). length l) (sym (file_is g))
      ∙ length-replayed (data_file g) (plan_of s) (count_of (plan_of s)) (changes_of (plan_of s)) (resized (new_length (data_file g) (plan_of s)) (data_in (files s) (data_file g)))
      (known_some s some holds.1).0.fits (length-resized (new_length (data_file g) (plan_of s)) (data_in (files s) (data_file g)))

-- a plan that shortens no file may follow plans that shorten no file
pub can_follow : (n count : ℕ) (s : Image) (plan : List ℕ) → n ≡ number_of s → Holds (files s) s → MayGrow n (plan_of s) count → Knows plan (files s) → ((g : ℕ) → old_length (data_file g) plan ≤ new_length (data_file g) plan)
    → count + count_of plan < 2 ^ 32 → CanFollow n (plan_of s) plan
can_follow zero count s plan is holds ready knows grows few = tt
can_follow (suc n) count s plan is holds ready knows grows few = record { so_far = ready.0; on = on; few = omega (arith, few, ready.1) }
  where
    some : 1 ≤ number_of s
    some = omega (arith, is)

    between : (g : ℕ) → IsBetween (old_length (data_file g) plan) (new_length (data_file g) plan) (length (data_in (files s) (data_file g)))
    between zero = knows.pages
    between (suc g) = knows.directory

    on : (g : ℕ) → new_length (data_file g) (plan_of s) ≤ new_length (data_file g) plan
    on g = omega (arith, length_is s some holds g, (between g).no_longer, grows g)

-- another plan may follow all of them
pub goes_on : (n count : ℕ) (first plan : List ℕ) → (1 ≤ n → IsPlan first) → IsPlan plan → CanFollow n first plan → MayGrow n first count → ((g : ℕ) → old_length (data_file g) plan ≤ new_length (data_file g) plan)
    → (n ≡ 0 → count ≡ 0) → MayGrow (suc n) (next_plan n first plan) (count + count_of plan)
goes_on zero count first plan is_first is_plan follows ready grows none = (grows, omega (arith, none refl))
goes_on (suc n) count first plan is_first is_plan follows ready grows none =
    let m_is : IsPlan first = is_first (omega arith) in (
      λ g. omega (arith, joined_old first plan m_is.header is_plan.header g, joined_new first plan m_is.header is_plan.header g, ready.0 g, follows.on g),
      joined_count first plan m_is.header is_plan.header follows.few ∙ ap (λ k. k + count_of plan) ready.1,
    )

pub each_growing : (plan : List ℕ) → IsGrowing plan → (g : ℕ) → old_length (data_file g) plan ≤ new_length (data_file g) plan
each_growing plan growing zero = growing.pages
each_growing plan growing (suc g) = growing.directory

-- bytes written after the first ones
written_behind_front : (at : ℕ) (bytes xs ys : List ℕ) → at ≡ length xs → written at bytes (xs ++ ys) ≡ xs ++ (bytes ++ drop (at + length bytes) (xs ++ ys))
written_behind_front at bytes xs ys is =
    ap (λ (l : List ℕ). l ++ (bytes ++ drop (at + length bytes) (xs ++ ys)))
    (take-append-le at xs ys (omega (arith, is)) ∙ take_all at xs (omega (arith, is)))

-- a record written after the existing ones, with zeros after it
pub written_record : (end : ℕ) (bytes xs slack redo : List ℕ) → redo ≡ xs ++ slack → end ≡ length xs → nonzero slack ≡ 0
    → (rest : List ℕ) × ((written end bytes redo ≡ xs ++ (bytes ++ rest)) × (nonzero rest ≡ 0))
written_record end bytes xs slack redo is ends zeros =
    let rest : List ℕ = drop (end + length bytes) (xs ++ slack) in (
      rest,
      (
        ap (λ (l : List ℕ). written end bytes l) is ∙ written_behind_front end bytes xs slack ends,
        zeros_are rest (λ i. get_or-drop (end + length bytes) (xs ++ slack) i 0
            ∙ get_or-append_right xs slack end (end + length bytes + i) 0 (sym ends) (omega arith) ∙ zero_at slack zeros (end + length bytes + i - end)),
      ),
    )

-- a record that is written at the end of the records of a log
module _ (end : ℕ) (bytes plan : List ℕ) (first : Image) (bytes_are : bytes ≡ record_of plan) (is_plan : IsPlan plan) (knows : Knows plan (files first)) (short : length plan < 4000000000)
    (log : is_log first.redo ≡ true) (place : HasRecords end (records_of first.redo)) (follows : CanFollow (number_of first) (plan_of first) plan) (inside : 4096 + end + length bytes ≤ length first.redo) where
  none : is_whole place.slack ≡ false
  none = zeros_no place.slack place.zeros

  number_before : number_of first ≡ place.number
  number_before = number_is place.number place.records place.slack first place.is place.are none log

  can_follow_here : CanFollow place.number (log_plan place.number place.records) plan
  can_follow_here =
      subst (λ (l : List ℕ). CanFollow place.number l plan) (plan_is place.number place.records place.slack first place.is place.are none log)
      (subst (λ k. CanFollow k (plan_of first) plan) number_before follows)

  -- an image that a crash left before it
  stands_so : (d : Image) → IsKeptLog first.redo d.redo → Holds (files first) d → Stands place.number place.records (files first) d
  stands_so d kept holds = ⊎_elim
      (λ is. stands_read place.number place.records place.slack (files first) d (kept.records ∙ place.is) place.are place.zeros is holds)
      (λ missing. stands_none place.number place.records (files first) d (sym number_before ∙ ap (λ b. number_by b first.redo) log ∙ missing.1)
      (holds_unmarked (files first) d (λ one. absurd (omega (arith, missing.0, one))) holds))
      (kept_log first.redo d.redo kept log)

  room_left : (d : Image) → IsKeptLog first.redo d.redo → end + length (record_of plan) ≤ length (records_of d.redo)
  room_left d kept = omega (arith, inside, ap (λ (l : List ℕ). length l) kept.records, ap (λ (l : List ℕ). length l) bytes_are, length-drop 4096 first.redo)

  -- while it is being written
  pub appending : (d c : Image) → IsKeptLog first.redo d.redo → Holds (files first) d → Within Redo (Torn (4096 + end) bytes) d c → Holds (files first) c ⊎ Holds (renewed_files plan first) c
  appending d c kept holds within =
      let torn : Torn (4096 + end) bytes d.redo c.redo = within.stepped in
      let same : files c ≡ files d = ap (λ (o : Image). files o) within.others in
      ⊎_elim
      (λ is. old_or_new place.number end place.records place.slack plan first is_plan knows short place.are place.ends place.zeros can_follow_here d c (kept.records ∙ place.is)
      (log_same d.redo c.redo (head_torn end bytes d.redo c.redo torn) ∙ is)
      (stands_so d kept holds) (room_left d kept)
      (subst (λ (l : List ℕ). Torn end l (records_of d.redo) (records_of c.redo)) bytes_are (torn_records end bytes d.redo c.redo torn)) same)
      (λ missing.
      let unmarked : get_or c.redo 0 0 ≡ 0 = torn.before 0 (omega arith) ∙ missing.0 in
      inl (unmarked_holds (files first) c (λ one. absurd (omega (arith, unmarked, one))) (same ∙ holds_unmarked (files first) d (λ one. absurd (omega (arith, missing.0, one))) holds)))
      (kept_log first.redo d.redo kept log)

  records_after : (redo : List ℕ) → redo ≡ written (4096 + end) bytes first.redo → records_of redo ≡ written end bytes (records_of first.redo)
  records_after redo is = ap records_of is ∙ written_records end bytes first.redo (omega (arith, inside))

  pub log_after : (redo : List ℕ) → redo ≡ written (4096 + end) bytes first.redo → is_log redo ≡ true
  log_after redo is = ap is_log is ∙ log_same first.redo (written (4096 + end) bytes first.redo) (head_written end bytes first.redo (omega (arith, inside))) ∙ log

  -- if it is complete
  pub appended : (d c : Image) → IsKeptLog first.redo d.redo → Holds (files first) d → files c ≡ files d → c.redo ≡ written (4096 + end) bytes first.redo → Holds (renewed_files plan first) c × ((1 ≤ number_of c) × EndsWith (plan_of c) plan)
  appended d c kept holds same is =
      let made = written_record end bytes place.records place.slack (records_of first.redo) place.is place.ends place.zeros in
      committed place.number place.records plan first is_plan knows short place.are can_follow_here d c (stands_so d kept holds) same (log_after c.redo is) made.0
      (records_after c.redo is ∙ made.1.0 ∙ ap (λ (l : List ℕ). place.records ++ (l ++ made.0)) bytes_are) made.1.1

  pub place_after : (redo : List ℕ) → redo ≡ written (4096 + end) bytes first.redo → HasRecords (end + length bytes) (records_of redo)
  place_after redo is =
      let made = written_record end bytes place.records place.slack (records_of first.redo) place.is place.ends place.zeros in
      record {
        number = suc place.number;
        records = place.records ++ record_of plan;
        slack = made.0;
        is = records_after redo is ∙ made.1.0 ∙ ap (λ (l : List ℕ). place.records ++ (l ++ made.0)) bytes_are ∙ sym (append_assoc place.records (record_of plan) made.0);
        are = plans_more plan short place.number place.records place.are;
        ends = omega (arith, place.ends, ap (λ (l : List ℕ). length l) bytes_are, length-append place.records (record_of plan));
        zeros = made.1.1;
      }

  pub file_after : (redo : List ℕ) → redo ≡ written (4096 + end) bytes first.redo → IsLogFile (end + length bytes) redo
  file_after redo is = record { signed = log_signed redo (log_after redo is); mark = inr (log_mark redo (log_after redo is)); place = place_after redo is }

  after : (c : Image) → c.redo ≡ written (4096 + end) bytes first.redo → (rest : List ℕ) × ((records_of c.redo ≡ (place.records ++ record_of plan) ++ rest) × (is_whole rest ≡ false))
  after c is =
      let made = written_record end bytes place.records place.slack (records_of first.redo) place.is place.ends place.zeros in (
        made.0,
        (records_after c.redo is ∙ made.1.0 ∙ ap (λ (l : List ℕ). place.records ++ (l ++ made.0)) bytes_are ∙ sym (append_assoc place.records (record_of plan) made.0), zeros_no made.0 made.1.1),
      )

  pub number_after : (c : Image) → c.redo ≡ written (4096 + end) bytes first.redo → number_of c ≡ number_of first + 1
  number_after c is =
      let rest = after c is in
      omega (arith, number_is (suc place.number) (place.records ++ record_of plan) rest.0 c rest.1.0 (plans_more plan short place.number place.records place.are) rest.1.1 (log_after c.redo is), number_before)

  pub plan_after : (c : Image) → c.redo ≡ written (4096 + end) bytes first.redo → plan_of c ≡ next_plan (number_of first) (plan_of first) plan
  plan_after c is =
      let rest = after c is in
      plan_is (suc place.number) (place.records ++ record_of plan) rest.0 c rest.1.0 (plans_more plan short place.number place.records place.are) rest.1.1 (log_after c.redo is)
      ∙ log_more plan short place.number place.records place.are
      ∙ ap (λ (l : List ℕ). next_plan place.number l plan) (sym (plan_is place.number place.records place.slack first place.is place.are none log))
      ∙ ap (λ k. next_plan k (plan_of first) plan) (sym number_before)

-- no records end at the beginning
pub none_first : (log : List ℕ) → HasRecords 0 log → number_in log ≡ 0
none_first log place =
    let no_plans : (n : ℕ) (xs : List ℕ) → AreRecords n xs → length xs ≡ 0 → n ≡ 0 = first_none in
    let n_none : place.number ≡ 0 = no_plans place.number place.records place.are (sym place.ends) in
    ap (λ (l : List ℕ). number_in l) place.is ∙ number_log place.number place.records place.slack place.are (zeros_no place.slack place.zeros) ∙ n_none
  where
    first_none : (n : ℕ) (xs : List ℕ) → AreRecords n xs → length xs ≡ 0 → n ≡ 0
    first_none zero xs are short = refl
    first_none (suc n) xs are short = absurd (omega (arith, are.1.0, short))

pub zero_first : (log : List ℕ) → HasRecords 0 log → nonzero log ≡ 0
zero_first log place = ap (λ (l : List ℕ). nonzero l) place.is ∙ nonzero_append place.records place.slack ∙ omega (arith, place.zeros, place.ends, nonzero_length place.records)

pub place_zeros : (log : List ℕ) → nonzero log ≡ 0 → HasRecords 0 log
place_zeros log none = record { number = 0; records = []; slack = log; is = refl; are = refl; ends = refl; zeros = none }

-- a log with a commit byte of 0 whose records were overwritten with zeros
pub zeroed_file : (zeros old new : List ℕ) → new ≡ written 4096 zeros old → nonzero zeros ≡ 0 → 4096 + length zeros ≤ length old → nonzero (drop (length zeros) (records_of old)) ≡ 0 → is_signed old ≡ true → get_or old 0 0 ≡ 0 → IsLogFile 0 new
zeroed_file zeros old new is all_zero inside rest signed unmarked =
    let on : 0 + length zeros ≡ length zeros = omega arith in
    let past : 4096 ≤ length old = omega (arith, inside) in
    let head : (i : ℕ) → i < 9 → get_or new i 0 ≡ get_or old i 0 = λ i lt. ap (λ (l : List ℕ). get_or l i 0) is ∙ written_before 4096 zeros old i past (omega (arith, lt)) in
    let records : records_of new ≡ zeros ++ drop (length zeros) (records_of old) = ap records_of is ∙ written_first zeros old past ∙ ap (λ k. zeros ++ drop k (records_of old)) on in
    record {
      signed = signed_same old new (λ i from to. head i to) ∙ signed;
      mark = inl (refl, head 0 (omega arith) ∙ unmarked);
      place = place_zeros (records_of new) (ap (λ (l : List ℕ). nonzero l) records ∙ nonzero_append zeros (drop (length zeros) (records_of old)) ∙ omega (arith, all_zero, rest));
    }

-- a redo file that is an empty log
pub empty_file : (empty redo : List ℕ) → redo ≡ empty → empty ≡ empty_log (length empty) → IsLogFile 0 redo
empty_file empty redo is made =
    let log : redo ≡ empty_log (length empty) = is ∙ made in
    record {
      signed = ap is_signed log ∙ empty_signed (length empty);
      mark = inl (refl, ap (λ (l : List ℕ). get_or l 0 0) log);
      place = place_zeros (records_of redo) (ap (λ (l : List ℕ). nonzero (records_of l)) log ∙ empty_records (length empty));
    }

-- files that a log without records represents
pub holds_none : (both : List ℕ × List ℕ) (d : Image) → is_signed d.redo ≡ true → number_in (records_of d.redo) ≡ 0 → Holds both d → files d ≡ both
holds_none both d signed none holds = ⊎_elim
    (λ marked. let log : is_log d.redo ≡ true = log_marked d.redo marked signed in
    sym (files_none d log (ap (λ b. number_by b d.redo) log ∙ none)) ∙ holds.0)
    (λ unmarked. holds_unmarked both d unmarked holds)
    (cases_eq (get_or d.redo 0 0) 1)

-- while the commit byte of a log without records is being set
module _ (first : Image) (file : IsLogFile 0 first.redo) where
  none_here : number_in (records_of first.redo) ≡ 0
  none_here = none_first (records_of first.redo) file.place

  signed_left : (d : Image) → IsKeptLog first.redo d.redo → is_signed d.redo ≡ true
  signed_left d kept = signed_same first.redo d.redo (λ i from to. kept.signed i from (omega (arith, to))) ∙ file.signed

  none_left : (d : Image) → IsKeptLog first.redo d.redo → number_in (records_of d.redo) ≡ 0
  none_left d kept = ap (λ (l : List ℕ). number_in l) kept.records ∙ none_here

  zero_left : (d : Image) → IsKeptLog first.redo d.redo → nonzero (records_of d.redo) ≡ 0
  zero_left d kept = ap (λ (l : List ℕ). nonzero l) kept.records ∙ zero_first (records_of first.redo) file.place

  marked_may : (redo : List ℕ) → nonzero (records_of redo) ≡ 0 → MayBeTorn (records_of (1 ∷ drop 1 redo))
  marked_may redo none = zeros_may (records_of (1 ∷ drop 1 redo)) (ap (λ (l : List ℕ). nonzero l) (marked_records 1 redo) ∙ none)

  pub mark_may : MayBeTorn (records_of (1 ∷ drop 1 first.redo))
  mark_may = marked_may first.redo (zero_first (records_of first.redo) file.place)

  long_left : (d : Image) → IsKeptLog first.redo d.redo → 1 ≤ length d.redo
  long_left d kept = long_kept first.redo d.redo file.signed kept

  marked_log : (redo : List ℕ) → is_signed redo ≡ true → is_log (1 ∷ drop 1 redo) ≡ true
  marked_log redo signed = log_marked (1 ∷ drop 1 redo) refl (signed_same redo (1 ∷ drop 1 redo) (λ i from to. marked_signed 1 redo i from) ∙ signed)

  marked_none : (redo : List ℕ) → number_in (records_of redo) ≡ 0 → number_in (records_of (1 ∷ drop 1 redo)) ≡ 0
  marked_none redo none = ap (λ (l : List ℕ). number_in l) (marked_records 1 redo) ∙ none

  pub mark_set : is_log (1 ∷ drop 1 first.redo) ≡ true
  mark_set = marked_log first.redo file.signed

  pub mark_number : number_by true (1 ∷ drop 1 first.redo) ≡ 0
  mark_number = marked_none first.redo none_here

  pub number_first : number_of first ≡ 0
  number_first = none_by (is_log first.redo) first.redo none_here
    where
      none_by : (b : Bool) (redo : List ℕ) → number_in (records_of redo) ≡ 0 → number_by b redo ≡ 0
      none_by true redo are = are
      none_by false redo are = refl

  pub marking : (d c : Image) → IsKeptLog first.redo d.redo → Holds (files first) d → Within Redo (Torn 0 (1 ∷ [])) d c → Holds (files first) c
  marking d c kept holds within = ⊎_elim
      (λ old. subst (λ (o : Image). Holds (files first) o) (sym old) holds)
      (λ new. log_holds (files first) c
      (ap (λ (o : Image). is_log o.redo) new ∙ marked_log d.redo (signed_left d kept))
      (ap (λ (o : Image). number_in (records_of o.redo)) new ∙ marked_none d.redo (none_left d kept))
      (λ single. subst (λ (o : Image). MayBeTorn (records_of o.redo)) (sym new) (marked_may d.redo (zero_left d kept)))
      (ap (λ (o : Image). files o) new ∙ holds_none (files first) d (signed_left d kept) (none_left d kept) holds))
      (torn_byte 1 d c (long_left d kept) within)

  -- a crash leaves the commit byte 1 or 0
  old_byte : (d : Image) → IsKeptLog first.redo d.redo → (get_or d.redo 0 0 ≡ 1) ⊎ (get_or d.redo 0 0 ≡ 0)
  old_byte d kept = ⊎_elim
      (λ same. ⊎_elim (λ empty. inr (same ∙ empty.1)) (λ one. inl (same ∙ one)) file.mark)
      (λ missing. inr missing.0)
      kept.mark

  pub marking_kept : (d c : Image) → IsKeptLog first.redo d.redo → Within Redo (Torn 0 (1 ∷ [])) d c → IsKeptLog (1 ∷ drop 1 first.redo) c.redo
  marking_kept d c kept within = ⊎_elim
      (λ old. subst (λ (o : Image). IsKeptLog (1 ∷ drop 1 first.redo) o.redo) (sym old) (record {
        records = kept.records ∙ sym (marked_records 1 first.redo);
        signed = λ i from to. kept.signed i from to ∙ sym (marked_signed 1 first.redo i from);
        mark = ⊎_elim (λ one. inl one) (λ none. inr (none, mark_number)) (old_byte d kept);
      }))
      (λ new. subst (λ (o : Image). IsKeptLog (1 ∷ drop 1 first.redo) o.redo) (sym new) (record {
        records = marked_records 1 d.redo ∙ kept.records ∙ sym (marked_records 1 first.redo);
        signed = λ i from to. marked_signed 1 d.redo i from ∙ kept.signed i from to ∙ sym (marked_signed 1 first.redo i from);
        mark = inl refl;
      }))
      (torn_byte 1 d c (long_left d kept) within)

-- the commit byte is 1 and not synced
pub marked_durable : (first third : Image) (before after : Image → Type 0) → IsLogFile 0 first.redo → IsDurable first before → third ≡ put Redo (1 ∷ drop 1 first.redo) first
    → Follows (Within Redo (Torn 0 (1 ∷ []))) before after → IsDurable third after
marked_durable first third before after file durable is crash =
    let same : files third ≡ files first = ap (λ (o : Image). files o) is in
    record {
      kept = λ c now. let from = crash c now in
          subst (λ (o : Image). IsKeptLog o.redo c.redo) (sym is) (marking_kept first file from.0 c (durable.kept from.0 from.1) from.2);
      now = log_holds (files third) third (ap (λ (o : Image). is_log o.redo) is ∙ mark_set first file) (ap (λ (o : Image). number_in (records_of o.redo)) is ∙ mark_number first file) (λ single. subst (λ (o : Image). MayBeTorn (records_of o.redo)) (sym is) (mark_may first file)) refl;
      holds = λ c now. let from = crash c now in
          subst (λ (p : List ℕ × List ℕ). Holds p c) (sym same) (marking first file from.0 c (durable.kept from.0 from.1) (durable.holds from.0 from.1) from.2);
    }

pub marked_number : (first third : Image) → IsLogFile 0 first.redo → third ≡ put Redo (1 ∷ drop 1 first.redo) first → number_of third ≡ number_of first
marked_number first third file is =
    ap (λ (o : Image). number_of o) is ∙ ap (λ b. number_by b (1 ∷ drop 1 first.redo)) (mark_set first file) ∙ mark_number first file ∙ sym (number_first first file)

pub marked_plan : (first third : Image) → IsLogFile 0 first.redo → third ≡ put Redo (1 ∷ drop 1 first.redo) first → plan_of third ≡ plan_of first
marked_plan first third file is =
    ap (λ k. log_plan k (records_of third.redo)) (marked_number first third file is ∙ number_first first file) ∙ sym (ap (λ k. log_plan k (records_of first.redo)) (number_first first file))

-- an empty log
pub ready_empty : (seen : Image) (may_leave : Image → Type 0) (end room count : ℕ) → IsDurable seen may_leave → IsLogFile 0 seen.redo → get_or seen.redo 0 0 ≡ 0 → length seen.redo ≡ 4096 + room
    → end ≡ 0 → count ≡ 0 → room ≤ 4000000000 → IsReady end room count seen may_leave
ready_empty seen may_leave end room count durable file unmarked long ends counts near =
    let number : number_of seen ≡ 0 = ap (λ b. number_by b seen.redo) (no_log seen.redo unmarked) in
    record {
      durable = durable;
      file = subst (λ k. IsLogFile k seen.redo) (sym ends) file;
      long = long;
      near = near;
      few = omega (arith, counts);
      none = λ is_none. counts;
      grow = subst (λ k. MayGrow k (plan_of seen) count) (sym number) tt;
    }
  where
    no_log : (redo : List ℕ) → get_or redo 0 0 ≡ 0 → is_log redo ≡ false
    no_log redo is = log_unmarked redo (λ one. absurd (omega (arith, is, one)))

-- a loop over the records of a log, with n records remaining
pub whole_none : (n : ℕ) (rest : List ℕ) → n ≡ 0 → ArePlans n rest
whole_none n rest is = subst (λ k. ArePlans k rest) (sym is) tt

pub whole_first : (n k : ℕ) (rest : List ℕ) → n ≡ suc k → ArePlans n rest → (8 + size_at rest ≤ length rest) × (IsPlan (first_plan rest) × ArePlans k (later_records rest))
whole_first n k rest is whole = subst (λ j. ArePlans j rest) is whole

pub whole_again : (n k : ℕ) (rest : List ℕ) → n ≡ suc k → (8 + size_at rest ≤ length rest) × IsPlan (first_plan rest) → ArePlans k (later_records rest) → ArePlans n rest
whole_again n k rest is first later = subst (λ j. ArePlans j rest) (sym is) (first.0, (first.1, later))

pub joined_first : (plan rest whole : List ℕ) (n k : ℕ) → n ≡ suc k → joined_all plan n rest ≡ whole → joined_all (joined plan (first_plan rest)) k (later_records rest) ≡ whole
joined_first plan rest whole n k is before = ap (λ j. joined_all plan j rest) (sym is) ∙ before

pub joined_start : (log : List ℕ) (n : ℕ) → 1 ≤ n → joined_all (first_plan log) (n - 1) (later_records log) ≡ log_plan n log
joined_start log n some = let is : suc (n - 1) ≡ n = omega (arith, some) in ap (λ j. log_plan j log) is
