-- The header of a log, and the header that a crash leaves.
use Rattle.std.proofs.Common.{Bool, true, false, if◌then◌else◌, ◌==◌, ◌≡◌, ◌≢◌, ◌⊎◌, inl, inr, ⊎_elim, ℕ, zero, suc, ◌+◌, ◌-◌, ◌<◌, ◌≤◌, List, [], ◌∷◌, ◌++◌, length, take, drop, replicate, get_or, refl, sym, ◌∙◌, ap, subst, arith, length-drop}
use Rattle.std.proofs.lemmas.Bool.Decides.{nat_tests}
use Rattle.std.proofs.lemmas.Bool.{cases_eq}
use Rattle.std.proofs.lemmas.List.{get_or-take, get_or-drop, drop-append-le, drop-take, drop-drop, drop_all, append-nil, length-take-le}
use Rattle.sdbm_saves.specs.declared.disk.DiskFile.TheVariants.{Redo}
use Rattle.sdbm_saves.specs.Disk.{Image, put, written, IsKept, Torn, TornLength, Within}
use Rattle.sdbm_saves.specs.Redo.{number_at, files, mark_of, signature, stands_for, CanEnd, StaysUnmarked}
use Rattle.sdbm_log.specs.Log.{nonzero, is_signed, is_log, empty_log, records_of, files_by, number_in, CanRecoverBy, Holds, IsKeptLog, IsAtRest, IsDurable}
use Rattle.sdbm_saves.proofs.Lists.{written_before}
use Rattle.sdbm_saves.proofs.Marks.{when_unmarked, nothing_to_end, behind_mark, image_by_files, stays_within}
use Rattle.sdbm_log.proofs.Joins.{number_same}

pub test_is : (p q : ℕ) (x : Bool) → p ≡ q → (if p == q then x else false) ≡ x
test_is p q x is = grind (arith, nat_tests)

pub test_not : (p q : ℕ) (x : Bool) → p ≢ q → (if p == q then x else false) ≡ false
test_not p q x isnt = grind (arith, nat_tests)

pub both_true : (p q : ℕ) (x : Bool) → (if p == q then x else false) ≡ true → (p ≡ q) × (x ≡ true)
both_true p q x is = grind (arith, nat_tests)

pub never_both : (b : Bool) → b ≡ true → b ≡ false → ⊥
never_both true is isnt = cc
never_both false is isnt = cc

-- the test of a header reads its first nine bytes
pub signed_same : (a b : List ℕ) → ((i : ℕ) → 1 ≤ i → i < 9 → get_or b i 0 ≡ get_or a i 0) → is_signed b ≡ is_signed a
signed_same a b same =
    let one : number_at b 1 ≡ number_at a 1 = number_same b a 1 (λ i from to. same i from (omega (arith, to))) in
    let two : number_at b 5 ≡ number_at a 5 = number_same b a 5 (λ i from to. same i (omega (arith, from)) (omega (arith, to))) in
    λ i. if one i == 1835164787 then two i == 828862316 else false

pub log_same : (a b : List ℕ) → ((i : ℕ) → i < 9 → get_or b i 0 ≡ get_or a i 0) → is_log b ≡ is_log a
log_same a b same =
    let first : get_or b 0 0 ≡ get_or a 0 0 = same 0 (omega arith) in
    let rest : is_signed b ≡ is_signed a = signed_same a b (λ i from to. same i to) in
    λ i. if first i == 1 then rest i else false

pub log_marked : (redo : List ℕ) → get_or redo 0 0 ≡ 1 → is_signed redo ≡ true → is_log redo ≡ true
log_marked redo marked signed = test_is (get_or redo 0 0) 1 (is_signed redo) marked ∙ signed

pub log_unmarked : (redo : List ℕ) → get_or redo 0 0 ≢ 1 → is_log redo ≡ false
log_unmarked redo unmarked = test_not (get_or redo 0 0) 1 (is_signed redo) unmarked

pub log_mark : (redo : List ℕ) → is_log redo ≡ true → get_or redo 0 0 ≡ 1
log_mark redo is = (both_true (get_or redo 0 0) 1 (is_signed redo) is).0

pub log_signed : (redo : List ℕ) → is_log redo ≡ true → is_signed redo ≡ true
log_signed redo is = (both_true (get_or redo 0 0) 1 (is_signed redo) is).1

-- if the commit byte is not 1, a file represents the data files
pub unmarked_holds : (both : List ℕ × List ℕ) (c : Image) → get_or c.redo 0 0 ≢ 1 → files c ≡ both → Holds both c
unmarked_holds both c unmarked same = (
  ap (λ b. files_by b c) (log_unmarked c.redo unmarked) ∙ when_unmarked c unmarked ∙ same,
  subst (λ b. CanRecoverBy b c) (sym (log_unmarked c.redo unmarked)) (nothing_to_end c unmarked),
)

pub holds_unmarked : (both : List ℕ × List ℕ) (c : Image) → get_or c.redo 0 0 ≢ 1 → Holds both c → files c ≡ both
holds_unmarked both c unmarked holds = sym (ap (λ b. files_by b c) (log_unmarked c.redo unmarked) ∙ when_unmarked c unmarked) ∙ holds.0

-- a plan after a commit byte is not a log
plan_no_log : (redo : List ℕ) → take 8 (drop 1 redo) ≡ signature → number_at redo 5 ≢ 828862316
unfolding number_at
plan_no_log redo signed = λ is.
    let byte : (i n : ℕ) → i < 8 → get_or signature i 0 ≡ n → get_or redo (1 + i) 0 ≡ n = λ i n lt is_n.
    sym (get_or-drop 1 redo i 0) ∙ sym (get_or-take 8 (drop 1 redo) i 0 lt) ∙ ap (λ (l : List ℕ). get_or l i 0) signed ∙ is_n in
    let fifth : get_or redo 5 0 ≡ 114 = byte 4 114 (omega arith) refl in
    let sixth : get_or redo (5 + 1) 0 ≡ 101 = byte 5 101 (omega arith) refl in
    let seventh : get_or redo (5 + 2) 0 ≡ 100 = byte 6 100 (omega arith) refl in
    let eighth : get_or redo (5 + 3) 0 ≡ 50 = byte 7 50 (omega arith) refl in
    omega (arith, is, fifth, sixth, seventh, eighth)

pub plan_unsigned : (redo : List ℕ) → take 8 (drop 1 redo) ≡ signature → is_signed redo ≡ false
plan_unsigned redo signed = either_false (number_at redo 1) 1835164787 (number_at redo 5) 828862316 (plan_no_log redo signed)
  where
    either_false : (p q r s : ℕ) → r ≢ s → (if p == q then r == s else false) ≡ false
    either_false p q r s isnt = grind (arith, nat_tests)

-- a save that older versions can recover, by its plan or without a commit byte of 1, is not a log
pub ended_no_log : (c : Image) → CanEnd c → is_log c.redo ≡ false
ended_no_log c can = ⊎_elim
    (λ marked. test_is (get_or c.redo 0 0) 1 (is_signed c.redo) marked ∙ plan_unsigned c.redo (can marked).0.signed)
    (λ unmarked. log_unmarked c.redo unmarked)
    (cases_eq (mark_of c) 1)

pub plan_holds : (both : List ℕ × List ℕ) (c : Image) → stands_for c ≡ both → CanEnd c → Holds both c
plan_holds both c stands can = (
  ap (λ b. files_by b c) (ended_no_log c can) ∙ stands,
  subst (λ b. CanRecoverBy b c) (sym (ended_no_log c can)) can,
)

-- writes after the header
pub torn_records : (k : ℕ) (bytes a b : List ℕ) → Torn (4096 + k) bytes a b → Torn k bytes (records_of a) (records_of b)
torn_records k bytes a b torn = record {
  before = λ i lt. get_or-drop 4096 b i 0 ∙ torn.before (4096 + i) (omega (arith, lt)) ∙ sym (get_or-drop 4096 a i 0);
  within = λ i lt.
      let on : 4096 + (k + i) ≡ 4096 + k + i = omega arith in
      let left : get_or (records_of b) (k + i) 0 ≡ get_or b (4096 + k + i) 0 = get_or-drop 4096 b (k + i) 0 ∙ ap (λ j. get_or b j 0) on in
      let read : get_or (records_of a) (k + i) 0 ≡ get_or a (4096 + k + i) 0 = get_or-drop 4096 a (k + i) 0 ∙ ap (λ j. get_or a j 0) on in
      ⊎_elim (λ old. inl (left ∙ old ∙ sym read)) (λ new. inr (left ∙ new)) (torn.within i lt);
  after = λ i le. get_or-drop 4096 b i 0 ∙ torn.after (4096 + i) (omega (arith, le)) ∙ sym (get_or-drop 4096 a i 0);
  no_shorter = omega (arith, torn.no_shorter, length-drop 4096 a, length-drop 4096 b);
  no_longer = omega (arith, torn.no_longer, length-drop 4096 a, length-drop 4096 b);
}

pub written_records : (k : ℕ) (bytes a : List ℕ) → 4096 + k ≤ length a → records_of (written (4096 + k) bytes a) ≡ written k bytes (records_of a)
written_records k bytes a inside =
    let rest : List ℕ = drop (4096 + k + length bytes) a in
    let past : drop (4096 + k + length bytes) a ≡ drop (k + length bytes) (drop 4096 a) = ap (λ n. drop n a) sum ∙ sym (drop-drop (k + length bytes) 4096 a) in
    drop-append-le 4096 (take (4096 + k) a) (bytes ++ rest) (omega (arith, inside, length-take-le (4096 + k) a inside))
    ∙ ap (λ (l : List ℕ). l ++ (bytes ++ rest)) (drop-take 4096 k a)
    ∙ ap (λ (l : List ℕ). take k (drop 4096 a) ++ (bytes ++ l)) past
  where
    sum : 4096 + k + length bytes ≡ 4096 + (k + length bytes)
    sum = omega arith

pub head_torn : (k : ℕ) (bytes a b : List ℕ) → Torn (4096 + k) bytes a b → (i : ℕ) → i < 9 → get_or b i 0 ≡ get_or a i 0
head_torn k bytes a b torn i lt = torn.before i (omega (arith, lt))

pub head_written : (k : ℕ) (bytes a : List ℕ) → 4096 + k ≤ length a → (i : ℕ) → i < 9 → get_or (written (4096 + k) bytes a) i 0 ≡ get_or a i 0
head_written k bytes a inside i lt = written_before (4096 + k) bytes a i inside (omega (arith, lt))

-- the log that is read counts as left
pub kept_self : (read left : List ℕ) → left ≡ read → IsKeptLog read left
kept_self read left is = record {
  records = ap records_of is;
  signed = λ i from to. ap (λ (l : List ℕ). get_or l i 0) is;
  mark = inl (ap (λ (l : List ℕ). get_or l 0 0) is);
}

-- a log whose commit byte was lost has no records
pub kept_log : (read left : List ℕ) → IsKeptLog read left → is_log read ≡ true → (is_log left ≡ true) ⊎ ((get_or left 0 0 ≡ 0) × (number_in (records_of read) ≡ 0))
kept_log read left kept is = ⊎_elim
    (λ same. inl (log_marked left (same ∙ log_mark read is) (signed_same read left (λ i from to. kept.signed i from (omega (arith, to))) ∙ log_signed read is)))
    (λ missing. inr missing)
    kept.mark

-- the first byte of the redo file is the old one or the new one
first_rest : (x : List ℕ) → 1 ≤ length x → x ≡ get_or x 0 0 ∷ drop 1 x
first_rest [] long = absurd (omega (arith, long))
first_rest (b ∷ x) long = refl

pub torn_byte : (value : ℕ) (d c : Image) → 1 ≤ length d.redo → Within Redo (Torn 0 (value ∷ [])) d c → (c ≡ d) ⊎ (c ≡ put Redo (value ∷ drop 1 d.redo) d)
torn_byte value d c long within =
    let torn : Torn 0 (value ∷ []) d.redo c.redo = within.stepped in
    let behind : drop 1 c.redo ≡ drop 1 d.redo = behind_mark value d c long within in
    let split : c.redo ≡ get_or c.redo 0 0 ∷ drop 1 c.redo = first_rest c.redo (omega (arith, long, torn.no_shorter)) in
    let same : files c ≡ files d = ap (λ (o : Image). files o) within.others in
    ⊎_elim
    (λ old. inl (image_by_files c d same (split ∙ ap (λ k. k ∷ drop 1 c.redo) old ∙ ap (λ (l : List ℕ). get_or d.redo 0 0 ∷ l) behind ∙ sym (first_rest d.redo long))))
    (λ new. inr (image_by_files c (put Redo (value ∷ drop 1 d.redo) d) same (split ∙ ap (λ k. k ∷ drop 1 c.redo) new ∙ ap (λ (l : List ℕ). value ∷ l) behind)))
    (torn.within 0 (omega arith))

-- the records and the signature follow the commit byte
pub marked_records : (value : ℕ) (redo : List ℕ) → records_of (value ∷ drop 1 redo) ≡ records_of redo
marked_records value [] = refl
marked_records value (b ∷ redo) = refl

pub marked_signed : (value : ℕ) (redo : List ℕ) (i : ℕ) → 1 ≤ i → get_or (value ∷ drop 1 redo) i 0 ≡ get_or redo i 0
marked_signed value redo zero from = absurd (omega (arith, from))
marked_signed value [] (suc i) from = refl
marked_signed value (b ∷ redo) (suc i) from = refl

-- bytes written right after the header
pub written_first : (bytes a : List ℕ) → 4096 ≤ length a → records_of (written 4096 bytes a) ≡ written 0 bytes (records_of a)
written_first bytes a inside =
    let none : 4096 + 0 ≡ 4096 = omega arith in
    subst (λ k. records_of (written k bytes a) ≡ written 0 bytes (records_of a)) none (written_records 0 bytes a (omega (arith, inside)))

-- bytes written over all of a file
pub written_over : (bytes rest : List ℕ) → length rest ≡ length bytes → written 0 bytes rest ≡ bytes
written_over bytes rest long =
    let past : drop (0 + length bytes) rest ≡ [] = drop_all (0 + length bytes) rest (omega (arith, long)) in
    ap (λ (l : List ℕ). bytes ++ l) past ∙ append-nil bytes

not_one : (n : ℕ) → n ≡ 0 → n ≢ 1
not_one n is = λ one. absurd (omega (arith, is, one))

-- a redo file whose commit byte is not 1 and that is synced
pub settled_holds : (seen : Image) (may_leave : Image → Type 0) → IsAtRest seen may_leave → (d c : Image) → may_leave d → StaysUnmarked d c → Holds (files seen) c
settled_holds seen may_leave settled d c now stays =
    unmarked_holds (files seen) c (stays.mark (settled.left_unmarked d now)) (stays.files ∙ settled.kept d now)

-- a write after the commit byte, and a write that does not set it
pub stays_behind : (bytes : List ℕ) (d c : Image) → Within Redo (Torn 4096 bytes) d c → StaysUnmarked d c
stays_behind bytes d c within = stays_within (Torn 4096 bytes) (λ x y torn. inl (torn.before 0 (omega arith))) d c within

pub stays_first : (bytes : List ℕ) → 1 ≤ length bytes → get_or bytes 0 0 ≡ 0 → (d c : Image) → Within Redo (Torn 0 bytes) d c → StaysUnmarked d c
stays_first bytes some zero_first d c within =
    stays_within (Torn 0 bytes) (λ x y torn. ⊎_elim (λ old. inl old) (λ new. inr (new ∙ zero_first)) (torn.within 0 (omega (arith, some)))) d c within

pub stays_resized : (n : ℕ) → 1 ≤ n → (d c : Image) → Within Redo (TornLength n) d c → StaysUnmarked d c
stays_resized n some d c within = stays_within (TornLength n) (λ x y torn. inl (torn.same 0 (omega (arith, some)))) d c within

-- a durable log whose commit byte is 0
pub durable_unmarked : (seen : Image) (may_leave : Image → Type 0) → get_or seen.redo 0 0 ≡ 0 → IsKept Redo seen may_leave
    → ((c : Image) → may_leave c → files c ≡ files seen) → IsDurable seen may_leave
durable_unmarked seen may_leave unmarked kept same = record {
  kept = λ c now. kept_self seen.redo c.redo (kept c now);
  now = unmarked_holds (files seen) seen (not_one (get_or seen.redo 0 0) unmarked) refl;
  holds = λ c now. unmarked_holds (files seen) c (not_one (get_or c.redo 0 0) (ap (λ (l : List ℕ). get_or l 0 0) (kept c now) ∙ unmarked)) (same c now);
}

-- the same at rest
pub settled_unmarked : (seen : Image) (may_leave : Image → Type 0) → get_or seen.redo 0 0 ≡ 0 → IsKept Redo seen may_leave
    → ((c : Image) → may_leave c → files c ≡ files seen) → IsAtRest seen may_leave
settled_unmarked seen may_leave unmarked kept same = record {
  unmarked = not_one (get_or seen.redo 0 0) unmarked;
  left_unmarked = λ c now. not_one (get_or c.redo 0 0) (ap (λ (l : List ℕ). get_or l 0 0) (kept c now) ∙ unmarked);
  kept = same;
}

-- an empty log
pub empty_signed : (len : ℕ) → is_signed (empty_log len) ≡ true
unfolding number_at
empty_signed len = refl

pub zeros_none : (n : ℕ) → nonzero (replicate n 0) ≡ 0
zeros_none zero = refl
zeros_none (suc n) = zeros_none n

pub nonzero_drop : (k : ℕ) (xs : List ℕ) → nonzero xs ≡ 0 → nonzero (drop k xs) ≡ 0
nonzero_drop zero xs none = none
nonzero_drop (suc k) [] none = refl
nonzero_drop (suc k) (zero ∷ xs) none = nonzero_drop k xs none
nonzero_drop (suc k) (suc x ∷ xs) none = absurd (omega (arith, none))

pub empty_records : (len : ℕ) → nonzero (records_of (empty_log len)) ≡ 0
empty_records len =
    let sum : 9 + 4087 ≡ 4096 = omega arith in
    let is : records_of (empty_log len) ≡ drop 4087 (replicate (len - 9) 0) = ap (λ n. drop n (empty_log len)) (sym sum) ∙ sym (drop-drop 4087 9 (empty_log len)) in
    ap (λ (l : List ℕ). nonzero l) is ∙ nonzero_drop 4087 (replicate (len - 9) 0) (zeros_none (len - 9))

-- a file with the signature is not empty
none_signed : is_signed [] ≡ false
unfolding number_at
none_signed = refl

pub signed_long : (redo : List ℕ) → is_signed redo ≡ true → 1 ≤ length redo
signed_long [] signed = absurd (never_both (is_signed []) signed none_signed)
signed_long (b ∷ redo) signed = omega arith

pub long_kept : (read left : List ℕ) → is_signed read ≡ true → IsKeptLog read left → 1 ≤ length left
long_kept read left signed kept = signed_long left (signed_same read left (λ i from to. kept.signed i from (omega (arith, to))) ∙ signed)

pub mark_signed : (value : ℕ) (redo : List ℕ) → is_signed (value ∷ drop 1 redo) ≡ is_signed redo
mark_signed value redo = signed_same redo (value ∷ drop 1 redo) (λ i from to. marked_signed value redo i from)

-- zeros over all records leave none of them
pub rest_none : (zeros redo : List ℕ) → length redo ≡ 4096 + length zeros → nonzero (drop (length zeros) (records_of redo)) ≡ 0
rest_none zeros redo all = ap (λ (l : List ℕ). nonzero l) (drop_all (length zeros) (records_of redo) (omega (arith, all, length-drop 4096 redo)))
