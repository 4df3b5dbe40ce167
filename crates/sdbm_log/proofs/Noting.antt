-- Notes that are written into the header of a log.
use Rattle.std.proofs.Common.{Bool, true, false, if◌then◌else◌, ◌==◌, ◌≡◌, inl, inr, ⊎_elim, ℕ, ◌+◌, ◌<◌, ◌≤◌, List, length, get_or, sym, ◌∙◌, ap, subst, arith, length-drop}
use Rattle.std.proofs.lemmas.Bool.{cases_eq}
use Rattle.std.proofs.lemmas.List.{ext_get_or, get_or-drop}
use Rattle.sdbm_saves.specs.declared.disk.DiskFile.TheVariants.{Redo}
use Rattle.sdbm_saves.specs.Disk.{Image, put, written, Follows, Torn, Within}
use Rattle.sdbm_saves.specs.Redo.{files}
use Rattle.sdbm_log.specs.Log.{is_log, is_signed, records_of, number_in, number_by, number_of, log_plan, plan_of, with_plan, files_by, ArePlans, after_records, MayBeTorn, is_shared, KnownBy, CanReplay, CanRecoverBy, Holds, HasRecords, MayGrow, IsKeptLog, IsReady}
use Rattle.sdbm_saves.proofs.Lists.{length-written}
use Rattle.sdbm_log.proofs.Joins.{torn_written}
use Rattle.sdbm_log.proofs.Header.{log_same, log_marked, signed_same, unmarked_holds, holds_unmarked}
use Rattle.sdbm_log.proofs.Logs.{replay_of, with_same, known_same}

-- byte 9 is the same in logs that are both shared or both not
pub shared_same : (a b : List ℕ) → get_or b 9 0 ≡ get_or a 9 0 → is_shared b ≡ is_shared a
shared_same a b same = ap (λ k. if k == 0 then false else true) same

-- bytes within the header, after the signature
module _ (at : ℕ) (bytes : List ℕ) (from : 9 ≤ at) (to : at + length bytes ≤ 4096) (a b : List ℕ) (torn : Torn at bytes a b) where
  pub head_noted : (i : ℕ) → i < 9 → get_or b i 0 ≡ get_or a i 0
  head_noted i lt = torn.before i (omega (arith, lt, from))

  pub records_noted : records_of b ≡ records_of a
  records_noted = ext_get_or 0 (records_of b) (records_of a)
      (omega (arith, to, length-drop 4096 a, length-drop 4096 b, torn.no_shorter, torn.no_longer))
      (λ i below. get_or-drop 4096 b i 0 ∙ torn.after (4096 + i) (omega (arith, to)) ∙ sym (get_or-drop 4096 a i 0))

-- an image with different notes represents the same files
module _ (d c : Image) (head : (i : ℕ) → i < 9 → get_or c.redo i 0 ≡ get_or d.redo i 0) (records : records_of c.redo ≡ records_of d.redo) (single : is_shared c.redo ≡ false → is_shared d.redo ≡ false) where
  pub log_noted : is_log c.redo ≡ is_log d.redo
  log_noted = log_same d.redo c.redo head

  pub number_noted : number_of c ≡ number_of d
  number_noted = by_log (is_log c.redo) (is_log d.redo) c.redo d.redo log_noted records
    where
      by_log : (p q : Bool) (x y : List ℕ) → p ≡ q → records_of x ≡ records_of y → number_by p x ≡ number_by q y
      by_log true q x y is same = ap (λ (l : List ℕ). number_in l) same ∙ ap (λ b. number_by b y) is
      by_log false q x y is same = ap (λ b. number_by b y) is

  pub plan_noted : plan_of c ≡ plan_of d
  plan_noted = ap (λ k. log_plan k (records_of c.redo)) number_noted ∙ ap (λ (l : List ℕ). log_plan (number_of d) l) records

  pub holds_noted : (both : List ℕ × List ℕ) → is_signed d.redo ≡ true → files c ≡ files d → Holds both d → Holds both c
  holds_noted both signed same holds = ⊎_elim
      (λ marked.
      let log_d : is_log d.redo ≡ true = log_marked d.redo marked signed in
      let log_c : is_log c.redo ≡ true = log_noted ∙ log_d in
      let can : CanReplay d = replay_of d log_d holds.1 in (
        ap (λ b. files_by b c) log_c ∙ ap (λ k. with_plan k (plan_of c) c) number_noted ∙ ap (λ (l : List ℕ). with_plan (number_of d) l c) plan_noted
            ∙ with_same (number_of d) (plan_of d) c d same ∙ sym (ap (λ b. files_by b d) log_d) ∙ holds.0,
        subst (λ b. CanRecoverBy b c) (sym log_c) (record {
          plans = subst (λ k. ArePlans k (records_of c.redo)) (sym number_noted) (subst (λ (l : List ℕ). ArePlans (number_of d) l) (sym records) can.plans);
          known = subst (λ k. KnownBy k (plan_of c) c) (sym number_noted)
              (subst (λ (l : List ℕ). KnownBy (number_of d) l c) (sym plan_noted) (known_same (number_of d) (plan_of d) c d same can.known));
          rest = λ alone. subst (λ k. MayBeTorn (after_records k (records_of c.redo))) (sym number_noted)
              (subst (λ (l : List ℕ). MayBeTorn (after_records (number_of d) l)) (sym records) (can.rest (single alone)));
        }),
      ))
      (λ unmarked. unmarked_holds both c (λ one. unmarked (sym (head 0 (omega arith)) ∙ one)) (same ∙ holds_unmarked both d unmarked holds))
      (cases_eq (get_or d.redo 0 0) 1)

-- a crash while notes are written
pub noting : (both : List ℕ × List ℕ) (first d c : Image) (at : ℕ) (bytes : List ℕ) → is_signed first.redo ≡ true → IsKeptLog first.redo d.redo → 16 ≤ at → at + length bytes ≤ 4096 → Within Redo (Torn at bytes) d c → Holds both d → Holds both c
noting both first d c at bytes signed kept from to within holds =
    let torn : Torn at bytes d.redo c.redo = within.stepped in
    holds_noted d c (head_noted at bytes (omega (arith, from)) to d.redo c.redo torn) (records_noted at bytes (omega (arith, from)) to d.redo c.redo torn)
    (λ alone. sym (shared_same d.redo c.redo (torn.before 9 (omega (arith, from)))) ∙ alone) both
    (signed_same first.redo d.redo (λ i one nine. kept.signed i one (omega (arith, nine))) ∙ signed) (ap (λ (o : Image). files o) within.others) holds

pub noting_kept : (read next left later : List ℕ) (at : ℕ) (bytes : List ℕ) → 16 ≤ at → at + length bytes ≤ 4096 → Torn at bytes read next → Torn at bytes left later → IsKeptLog read left → IsKeptLog next later
noting_kept read next left later at bytes from to torn torn_left kept = record {
  records = records_noted at bytes (omega (arith, from)) to left later torn_left ∙ kept.records ∙ sym (records_noted at bytes (omega (arith, from)) to read next torn);
  signed = λ i one ten. torn_left.before i (omega (arith, ten, from)) ∙ kept.signed i one ten ∙ sym (torn.before i (omega (arith, ten, from)));
  mark = ⊎_elim
      (λ same. inl (torn_left.before 0 (omega (arith, from)) ∙ same ∙ sym (torn.before 0 (omega (arith, from)))))
      (λ missing. inr (torn_left.before 0 (omega (arith, from)) ∙ missing.0, ap (λ (l : List ℕ). number_in l) (records_noted at bytes (omega (arith, from)) to read next torn) ∙ missing.1))
      kept.mark;
}

pub noted_ready : (first third : Image) (before after : Image → Type 0) (end room count at : ℕ) (bytes : List ℕ) → IsReady end room count first before → 16 ≤ at → at + length bytes ≤ 4096
    → third ≡ put Redo (written at bytes first.redo) first → Follows (Within Redo (Torn at bytes)) before after → IsReady end room count third after
noted_ready first third before after end room count at bytes ready from to is crash =
    let redo : third.redo ≡ written at bytes first.redo = ap (λ (o : Image). o.redo) is in
    let inside : at + length bytes ≤ length first.redo = omega (arith, to, ready.long) in
    let torn : Torn at bytes first.redo third.redo = subst (λ (l : List ℕ). Torn at bytes first.redo l) (sym redo) (torn_written at bytes first.redo (omega (arith, inside))) in
    let head = head_noted at bytes (omega (arith, from)) to first.redo third.redo torn in
    let records : records_of third.redo ≡ records_of first.redo = records_noted at bytes (omega (arith, from)) to first.redo third.redo torn in
    let single : is_shared third.redo ≡ false → is_shared first.redo ≡ false = λ alone. sym (shared_same first.redo third.redo (torn.before 9 (omega (arith, from)))) ∙ alone in
    let same : files third ≡ files first = ap (λ (o : Image). files o) is in
    let number : number_of third ≡ number_of first = number_noted first third head records single in
    let plan : plan_of third ≡ plan_of first = plan_noted first third head records single in
    record {
      durable = record {
        kept = λ c now. let from_it = crash c now in noting_kept first.redo third.redo from_it.0.redo c.redo at bytes from to torn from_it.2.stepped (ready.durable.kept from_it.0 from_it.1);
        now = subst (λ (p : List ℕ × List ℕ). Holds p third) (sym same) (holds_noted first third head records single (files first) ready.file.signed same ready.durable.now);
        holds = λ c now. let from_it = crash c now in
            subst (λ (p : List ℕ × List ℕ). Holds p c) (sym same)
            (noting (files first) first from_it.0 c at bytes ready.file.signed (ready.durable.kept from_it.0 from_it.1) from to from_it.2 (ready.durable.holds from_it.0 from_it.1));
      };
      file = record {
        signed = signed_same first.redo third.redo (λ i one nine. head i nine) ∙ ready.file.signed;
        mark = ⊎_elim (λ none. inl (none.0, head 0 (omega arith) ∙ none.1)) (λ one. inr (head 0 (omega arith) ∙ one)) ready.file.mark;
        place = subst (λ (l : List ℕ). HasRecords end l) (sym records) ready.file.place;
      };
      long = ap (λ (l : List ℕ). length l) redo ∙ length-written at bytes first.redo inside ∙ ready.long;
      near = ready.near;
      few = ready.few;
      none = λ none. ready.none (sym number ∙ none);
      grow = subst (λ k. MayGrow k (plan_of third) count) (sym number) (subst (λ (l : List ℕ). MayGrow (number_of first) l count) (sym plan) ready.grow);
    }
