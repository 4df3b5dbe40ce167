-- Records of calls, call by call.
use Rattle.std.proofs.Common.{◌≡◌, inl, inr, ⊎_elim, ℕ, ◌+◌, ◌≤◌, List, [], ◌∷◌, ◌++◌, length, take, refl, sym, ◌∙◌, ap, subst, arith, length-append}
use Rattle.std.specs.Prelude.{Result, Ok, Err, OnOk, MatchResult}
use Rattle.std.proofs.lemmas.List.{take_all, take-append-le}
use Rattle.std.proofs.lemmas.Bool.{cases_lt}
use Rattle.sdbm_saves.specs.declared.disk.DiskError.{DiskError}
use Rattle.sdbm_saves.specs.declared.disk.DiskError.TheVariants.{Memory, Failed}
use Rattle.sdbm_saves.specs.declared.disk.DiskFile.{DiskFile}
use Rattle.sdbm_saves.specs.Disk.{Image, IsKept, Elapses}
use Rattle.sdbm_saves.specs.Acts.{Act, sync, Notes, acted, seen_after, LeftBy, LeftAfter, LeftSince}

pub seen_more : (acts : List Act) (act : Act) (image : Image) → seen_after (acts ++ act ∷ []) image ≡ acted act (seen_after acts image)
seen_more [] act image = refl
seen_more (one ∷ acts) act image = seen_more acts act (acted one image)

pub left_more : (acts : List Act) (act : Act) (image : Image) (before : Image → Type 0) (c : Image) → LeftAfter (acts ++ act ∷ []) image before c ≡ LeftBy act (seen_after acts image) (LeftAfter acts image before) c
left_more [] act image before c = refl
left_more (one ∷ acts) act image before c = left_more acts act (acted one image) (LeftBy one image before) c

-- one more call
module _ (acts more : List Act) (act : Act) (image : Image) (before : Image → Type 0) (is : more ≡ acts ++ act ∷ []) where
  pub sees : seen_after more image ≡ acted act (seen_after acts image)
  sees = ap (λ (l : List Act). seen_after l image) is ∙ seen_more acts act image

  pub left_by : (c : Image) → LeftAfter more image before c → LeftBy act (seen_after acts image) (LeftAfter acts image before) c
  left_by c left = subst (λ (T : Type 0). T) (ap (λ (l : List Act). LeftAfter l image before c) is ∙ left_more acts act image before c) left

  one_longer : length more ≡ length acts + 1
  one_longer = omega (arith, ap (λ (l : List Act). length l) is, length-append acts (act ∷ []))

  same_start : (n : ℕ) → n ≤ length acts → take n more ≡ take n acts
  same_start n le = ap (λ (l : List Act). take n l) is ∙ take-append-le n acts (act ∷ []) le

  pub elapses : Elapses (length acts) (length more) (λ t c. LeftSince acts image before t c) (λ t c. LeftSince more image before t c) (λ c. LeftAfter more image before c)
  elapses = record {
    later = omega (arith, one_longer);
    nothing_else = λ t c le since. ⊎_elim
        (λ inside. inl (record {
          moment = since.moment;
          later = since.later;
          made = omega (arith, inside);
          left = subst (λ (l : List Act). LeftAfter l image before c) (same_start since.moment (omega (arith, inside))) since.left;
        }))
        (λ past. inr (subst (λ (l : List Act). LeftAfter l image before c) (take_all since.moment more (omega (arith, past, one_longer))) since.left))
        (cases_lt since.moment (length acts + 1));
    keeps = λ t c le since. record {
      moment = since.moment;
      later = since.later;
      made = omega (arith, one_longer, since.made);
      left = subst (λ (l : List Act). LeftAfter l image before c) (sym (same_start since.moment since.made)) since.left;
    };
  }

same_time : (acts more : List Act) (image : Image) (before : Image → Type 0) → more ≡ acts → Elapses (length acts) (length more) (λ t c. LeftSince acts image before t c) (λ t c. LeftSince more image before t c) (λ c. LeftAfter more image before c)
same_time acts more image before is =
    subst (λ (l : List Act). Elapses (length acts) (length l) (λ t c. LeftSince acts image before t c) (λ t c. LeftSince l image before t c) (λ c. LeftAfter l image before c)) (sym is)
    (record { later = omega arith; nothing_else = λ t c le since. inl since; keeps = λ t c le since. since })

-- a sync, which is recorded only after it succeeded
module _ (acts more : List Act) (file : DiskFile) (image : Image) (before : Image → Type 0) {T E : Type 0} where
  pub synced_seen : (r : Result T E) → MatchResult r (λ _. more ≡ acts ++ sync file ∷ []) (λ _. more ≡ acts) → seen_after more image ≡ seen_after acts image
  synced_seen (Ok x) is = sees acts more (sync file) image before is
  synced_seen (Err e) is = ap (λ (l : List Act). seen_after l image) is

  pub synced_kept : (r : Result T E) → MatchResult r (λ _. more ≡ acts ++ sync file ∷ []) (λ _. more ≡ acts) → OnOk r (IsKept file (seen_after acts image) (λ c. LeftAfter more image before c))
  synced_kept (Ok x) is = λ c left. (left_by acts more (sync file) image before is c left).1
  synced_kept (Err e) is = tt

  pub synced_left : (r : Result T E) → MatchResult r (λ _. more ≡ acts ++ sync file ∷ []) (λ _. more ≡ acts) → (c : Image) → LeftAfter more image before c → LeftAfter acts image before c
  synced_left (Ok x) is c left = (left_by acts more (sync file) image before is c left).0
  synced_left (Err e) is c left = subst (λ (l : List Act). LeftAfter l image before c) is left

  pub synced_elapses : (r : Result T E) → MatchResult r (λ _. more ≡ acts ++ sync file ∷ []) (λ _. more ≡ acts)
      → Elapses (length acts) (length more) (λ t c. LeftSince acts image before t c) (λ t c. LeftSince more image before t c) (λ c. LeftAfter more image before c)
  synced_elapses (Ok x) is = elapses acts more (sync file) image before is
  synced_elapses (Err e) is = same_time acts more image before is

-- a call, which is recorded unless it ran out of memory
module _ (acts more : List Act) (act : Act) (image : Image) (before : Image → Type 0) {T : Type 0} where
  pub noted_seen : (r : Result T DiskError) → Notes act acts more r → OnOk r (seen_after more image ≡ acted act (seen_after acts image))
  noted_seen (Ok x) is = sees acts more act image before is
  noted_seen (Err Failed) is = tt
  noted_seen (Err Memory) is = tt

  pub noted_left : (r : Result T DiskError) → ((d : Image) → LeftAfter acts image before d → LeftBy act (seen_after acts image) (LeftAfter acts image before) d)
      → Notes act acts more r → (c : Image) → LeftAfter more image before c → LeftBy act (seen_after acts image) (LeftAfter acts image before) c
  noted_left (Ok x) stays is = left_by acts more act image before is
  noted_left (Err Failed) stays is = left_by acts more act image before is
  noted_left (Err Memory) stays is = λ c left. stays c (subst (λ (l : List Act). LeftAfter l image before c) is left)

  pub noted_time : (r : Result T DiskError) → Notes act acts more r
      → Elapses (length acts) (length more) (λ t c. LeftSince acts image before t c) (λ t c. LeftSince more image before t c) (λ c. LeftAfter more image before c)
  noted_time (Ok x) is = elapses acts more act image before is
  noted_time (Err Failed) is = elapses acts more act image before is
  noted_time (Err Memory) is = same_time acts more image before is
