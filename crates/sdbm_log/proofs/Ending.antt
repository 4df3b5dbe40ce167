-- The calls that sync the files, and close, clear and start a log.
use Rattle.std.proofs.Common.{◌≡◌, inl, ⊎_elim, ℕ, ◌+◌, ◌-◌, ◌≤◌, List, [], ◌∷◌, ◌++◌, length, drop, take, replicate, get_or, true, refl, sym, ◌∙◌, ap, subst, arith}
use Rattle.std.proofs.lemmas.List.{append-nil, drop-append-le, drop_all, length-replicate, length-take-le}
use Rattle.sdbm_saves.specs.declared.disk.DiskFile.TheVariants.{Pages, Directory, Redo}
use Rattle.sdbm_saves.specs.Disk.{Image, content, put, written, resized, Only, IsKept, Torn, TornLength, Within}
use Rattle.sdbm_saves.specs.Redo.{files, StaysUnmarked}
use Rattle.sdbm_saves.specs.Acts.{LeftAfter}
use Rattle.sdbm_log.specs.Log.{nonzero, is_signed, empty_log, records_of, Holds, IsAtRest, IsDurable, IsReady}
use Rattle.sdbm_log.specs.Doing.{Does}
use Rattle.sdbm_log.specs.Protocol.{close_acts, clear_acts, start_acts, settle_acts}
use Rattle.sdbm_saves.proofs.Lists.{length-resized, length-written, written_before}
use Rattle.sdbm_saves.proofs.Marks.{image_by_files, stays_self, stays_joins, stays_within}
use Rattle.sdbm_log.proofs.Header.{settled_holds, settled_unmarked, durable_unmarked, stays_behind, stays_first, stays_resized, long_kept, zeros_none}
use Rattle.sdbm_log.proofs.Logs.{cleared, zeroed_file, empty_file, ready_empty}

pub settle_does : (first : Image) (may_leave : Image → Type 0) → Does settle_acts first may_leave may_leave (λ s m. (s ≡ first) × Only first m)
settle_does first may_leave = record {
  can = (tt, (tt, (tt, tt)));
  any_moment = λ c left. ⊎_elim (λ l. l) (λ more. ⊎_elim (λ l. l.0) (λ rest. ⊎_elim (λ l. l.0.0) (λ l. l.0.0.0) rest) more) left;
  after = (refl, λ c l. image_by_files c first (λ i. (l.0.1 i, l.1 i)) l.0.0.1);
}

-- closes a log, or clears the commit byte of a save that is applied
pub close_any : (first : Image) (may_leave : Image → Type 0) (both : List ℕ × List ℕ) → both ≡ files first → ((c : Image) → may_leave c → Holds both c) → ((c : Image) → may_leave c → 1 ≤ length c.redo)
    → Does close_acts first may_leave (λ c. Holds both c) (λ s m. (s ≡ put Redo (0 ∷ drop 1 first.redo) first) × (IsAtRest s m × IsKept Redo s m))
close_any first may_leave both are all long =
    let Synced : Image → Type 0 = λ c. (may_leave c × (content Pages c ≡ content Pages first)) × (content Directory c ≡ content Directory first) in
    let last : Image = put Redo (0 ∷ drop 1 first.redo) first in
    let Left : Image → Type 0 = LeftAfter close_acts first may_leave in
    let same : (d : Image) → Synced d → files d ≡ files first = λ d is i. (is.0.1 i, is.1 i) in
    let holds : (c : Image) → (d : Image) × Synced d × Within Redo (Torn 0 (0 ∷ [])) d c → Holds both c = λ c from.
    cleared both from.0 c (same from.0 from.1 ∙ sym are) (all from.0 from.1.0.0) (long from.0 from.1.0.0) from.2 in
    let kept : IsKept Redo last Left = λ c l. l.1 in
    record {
      can = (tt, (tt, (omega arith, (tt, tt))));
      any_moment = λ c left. ⊎_elim
          (λ l. all c l)
          (λ more. ⊎_elim (λ l. all c l.0) (λ rest. ⊎_elim (λ l. all c l.0.0) (λ two. ⊎_elim (λ l. holds c l) (λ l. holds c l.0) two) rest) more)
          left;
      after = (refl, (settled_unmarked last Left refl kept (λ c l. ap (λ (o : Image). files o) l.0.2.others ∙ same l.0.0 l.0.1), kept));
    }

pub close_does : (first : Image) (may_leave : Image → Type 0) → IsDurable first may_leave → is_signed first.redo ≡ true
    → Does close_acts first may_leave (λ c. Holds (files first) c) (λ s m. (s ≡ put Redo (0 ∷ drop 1 first.redo) first) × (IsAtRest s m × IsKept Redo s m))
close_does first may_leave durable signed = close_any first may_leave (files first) refl durable.holds (λ c l. long_kept first.redo c.redo signed (durable.kept c l))

-- images that were left before, except that no commit byte was set
abbrev Stays : (Image → Type 0) → Image → Type 0
Stays may_leave c = (d : Image) × may_leave d × StaysUnmarked d c

stays_now : (may_leave : Image → Type 0) (c : Image) → may_leave c → Stays may_leave c
stays_now may_leave c left = (c, left, stays_self c)

stays_next : (may_leave before : Image → Type 0) (step : Image → Image → Type 0) → ((c : Image) → before c → Stays may_leave c) → ((d c : Image) → step d c → StaysUnmarked d c)
    → (c : Image) → (d : Image) × before d × step d c → Stays may_leave c
stays_next may_leave before step was is c from =
    let old = was from.0 from.1 in
    (old.0, old.1, stays_joins old.0 from.0 c old.2 (is from.0 c from.2))

pub clear_does : (first : Image) (may_leave : Image → Type 0) (room n : ℕ) → IsAtRest first may_leave → get_or first.redo 0 0 ≡ 0 → is_signed first.redo ≡ true → length first.redo ≡ 4096 + room → room ≤ 4000000000 → n ≤ room
    → nonzero (drop n (records_of first.redo)) ≡ 0 → Does (clear_acts n) first may_leave (λ c. Holds (files first) c) (λ s m. IsReady 0 room 0 s m × (files s ≡ files first))
clear_does first may_leave room n rest unmarked signed long near inside none =
    let zeros : List ℕ = replicate n 0 in
    let size : length zeros ≡ n = length-replicate n 0 in
    let Left : Image → Type 0 = LeftAfter (clear_acts n) first may_leave in
    let last : Image = put Redo (written 4096 zeros first.redo) first in
    let fits : 4096 + length zeros ≤ length first.redo = omega (arith, size, long, inside) in
    let stays : (c : Image) → (d : Image) × may_leave d × Within Redo (Torn 4096 zeros) d c → Stays may_leave c =
    stays_next may_leave may_leave (Within Redo (Torn 4096 zeros)) (stays_now may_leave) (stays_behind zeros) in
    let holds : (c : Image) → Stays may_leave c → Holds (files first) c = λ c is. settled_holds first may_leave rest is.0 c is.1 is.2 in
    let zero : get_or last.redo 0 0 ≡ 0 = written_before 4096 zeros first.redo 0 (omega (arith, fits)) (omega arith) ∙ unmarked in
    let same : (c : Image) → Left c → files c ≡ files last = λ c l. let is = stays c l.0 in is.2.files ∙ rest.kept is.0 is.1 in
    record {
      can = (omega (arith, fits), (tt, tt));
      any_moment = λ c left. ⊎_elim (λ l. holds c (stays_now may_leave c l)) (λ more. ⊎_elim (λ l. holds c (stays c l)) (λ l. holds c (stays c l.0)) more) left;
      after = (
        ready_empty last Left 0 room 0 (durable_unmarked last Left zero (λ c l. l.1) same)
            (zeroed_file zeros first.redo last.redo refl (zeros_none n) fits (subst (λ k. nonzero (drop k (records_of first.redo)) ≡ 0) (sym size) none) signed unmarked)
            zero (length-written 4096 zeros first.redo fits ∙ long) refl refl near,
        refl,
      );
    }

-- an empty log that was written in two pieces
pieces_empty : (len : ℕ) (redo : List ℕ) → 9 ≤ len → length redo ≡ len → written 0 (0 ∷ 115 ∷ 100 ∷ 98 ∷ 109 ∷ 108 ∷ 111 ∷ 103 ∷ 49 ∷ []) (written 9 (replicate (len - 9) 0) redo) ≡ empty_log len
pieces_empty len redo long is =
    let zeros : List ℕ = replicate (len - 9) 0 in
    let size : length zeros ≡ len - 9 = length-replicate (len - 9) 0 in
    let first : length (take 9 redo) ≡ 9 = length-take-le 9 redo (omega (arith, long, is)) in
    let past : drop (9 + length zeros) redo ≡ [] = drop_all (9 + length zeros) redo (omega (arith, size, is, long)) in
    let behind : drop 9 (written 9 zeros redo) ≡ zeros =
    drop-append-le 9 (take 9 redo) (zeros ++ drop (9 + length zeros) redo) (omega (arith, first))
    ∙ ap (λ (l : List ℕ). l ++ (zeros ++ drop (9 + length zeros) redo)) (drop_all 9 (take 9 redo) (omega (arith, first)))
    ∙ ap (λ (l : List ℕ). zeros ++ l) past ∙ append-nil zeros in
    ap (λ (l : List ℕ). 0 ∷ 115 ∷ 100 ∷ 98 ∷ 109 ∷ 108 ∷ 111 ∷ 103 ∷ 49 ∷ l) behind

pub start_does : (first : Image) (may_leave : Image → Type 0) (len : ℕ) → IsAtRest first may_leave → 4096 ≤ len → len ≤ 4000000000
    → Does (start_acts len) first may_leave (λ c. Holds (files first) c) (λ s m. IsReady 0 (len - 4096) 0 s m × (files s ≡ files first))
start_does first may_leave len rest long near =
    let head : List ℕ = 0 ∷ 115 ∷ 100 ∷ 98 ∷ 109 ∷ 108 ∷ 111 ∷ 103 ∷ 49 ∷ [] in
    let zeros : List ℕ = replicate (len - 9) 0 in
    let size : length zeros ≡ len - 9 = length-replicate (len - 9) 0 in
    let sized : length (resized len first.redo) ≡ len = length-resized len first.redo in
    let Left : Image → Type 0 = LeftAfter (start_acts len) first may_leave in
    let last : Image = put Redo (written 0 head (written 9 zeros (resized len first.redo))) first in
    let empty : last.redo ≡ empty_log len = pieces_empty len (resized len first.redo) (omega (arith, long)) sized in
    let count : length last.redo ≡ len = length-written 0 head (written 9 zeros (resized len first.redo)) (omega (arith, long, sized, size, length-written 9 zeros (resized len first.redo) (omega (arith, size, sized, long))))
    ∙ length-written 9 zeros (resized len first.redo) (omega (arith, size, sized, long)) ∙ sized in
    let One : Image → Type 0 = λ c. (d : Image) × may_leave d × Within Redo (TornLength len) d c in
    let Two : Image → Type 0 = λ c. (d : Image) × One d × Within Redo (Torn 9 zeros) d c in
    let one : (c : Image) → One c → Stays may_leave c = stays_next may_leave may_leave (Within Redo (TornLength len)) (stays_now may_leave) (stays_resized len (omega (arith, long))) in
    let two : (c : Image) → Two c → Stays may_leave c = stays_next may_leave One (Within Redo (Torn 9 zeros)) one
    (λ d c within. stays_within (Torn 9 zeros) (λ x y torn. inl (torn.before 0 (omega arith))) d c within) in
    let three : (c : Image) → (d : Image) × Two d × Within Redo (Torn 0 head) d c → Stays may_leave c = stays_next may_leave Two (Within Redo (Torn 0 head)) two (stays_first head (omega arith) refl) in
    let holds : (c : Image) → Stays may_leave c → Holds (files first) c = λ c is. settled_holds first may_leave rest is.0 c is.1 is.2 in
    let same : (c : Image) → Left c → files c ≡ files last = λ c l. let is = three c l.0 in is.2.files ∙ rest.kept is.0 is.1 in
    record {
      can = (tt, (omega (arith, sized, long), (omega arith, (tt, tt))));
      any_moment = λ c left. ⊎_elim
          (λ l. holds c (stays_now may_leave c l))
          (λ more. ⊎_elim (λ l. holds c (one c l)) (λ rest. ⊎_elim (λ l. holds c (two c l)) (λ last. ⊎_elim (λ l. holds c (three c l)) (λ l. holds c (three c l.0)) last) rest) more)
          left;
      after = (
        ready_empty last Left 0 (len - 4096) 0 (durable_unmarked last Left refl (λ c l. l.1) same)
            (empty_file last.redo last.redo refl (empty ∙ ap empty_log (sym count))) refl (count ∙ omega (arith, long)) refl refl (omega (arith, near)),
        refl,
      );
    }
