-- Following calls through a trail in a single pass.
use Rattle.std.proofs.Common.{◌≡◌, ◌∙◌, sym, ap, subst, ℕ, ◌<◌, ◌≤◌, ◌+◌, ⊎_elim, true, false, length, List, arith, slice_index_or}
use Rattle.std.specs.Prelude.{◌≢◌, ◌==◌, nat_eq, take, Some, set, replicate}
use Rattle.std.specs.List.{All, slice_get}
use Rattle.std.proofs.lemmas.Bool.{eq-eqb, eqb-true, true≢false, cases_Bool, cases_eq, cases_order}
use Rattle.std.proofs.lemmas.List.{get_or-map, get_or-replicate, get_or_default, get_or-set_same, get_or-set_other, length-map, take_all}
use Rattle.std.proofs.lemmas.Map.Keys.{apart_from_distinct, any_passes_from_place}
use Rattle.std.proofs.lemmas.Option.{slice_get_within, get_or_from_slice_get}
use Rattle.store_cmd.specs.declared.Entry.{Entry}
use Rattle.store_shared.specs.Shared.{CallsState}
use Rattle.store_shared.specs.Closed.{numbers_of, is_among, AreDistinct, Agrees, IsFollowed, AreFollowed, AreWhole, IsNext}
use Rattle.store_shared.proofs.CloseLemmas.{calls_skip, calls_next}

-- two indices in order have different numbers
apart_below : {A : Type 0} (handed : List (CallsState A)) (i j : ℕ) (d : CallsState A) → AreDistinct handed → i < j → j < length handed → ((slice_index_or handed i d).number == (slice_index_or handed j d).number) ≡ false
apart_below {A} handed i j d distinct below within =
    let number : CallsState A → ℕ = λ c. c.number in
    let apart = apart_from_distinct nat_eq (numbers_of handed) i j 0 distinct below (subst (λ n. j < n) (sym (length-map handed number)) within) in
    ap (λ n. nat_eq n (slice_index_or handed j d).number) (sym (get_or-map number handed i d 0 (omega arith)))
    ∙ (ap (λ n. nat_eq (slice_index_or (numbers_of handed) i 0) n) (sym (get_or-map number handed j d 0 within)) ∙ apart)

-- different indices have different numbers
apart : {A : Type 0} (handed : List (CallsState A)) (i j : ℕ) (d : CallsState A) → AreDistinct handed → i ≢ j → i < length handed → j < length handed → (slice_index_or handed i d).number ≢ (slice_index_or handed j d).number
apart handed i j d distinct other within there same =
    ⊎_elim
    (λ below. true≢false (sym (eq-eqb _ _ same) ∙ apart_below handed i j d distinct below there))
    (λ above. true≢false (sym (eq-eqb _ _ (sym same)) ∙ apart_below handed j i d distinct above within))
    (⊎_elim (λ e. absurd (other e)) (λ sides. sides) (cases_order i j))

not_equal : (a b : ℕ) → (a ≡ b → ⊥) → (a == b) ≡ false
not_equal a b differ = ⊎_elim (λ t. absurd (differ (eqb-true a b t))) (λ f. f) (cases_Bool (a == b))

-- nothing is counted yet
pub followed_none : {A : Type 0} (entries : List (Entry A)) (handed : List (CallsState A)) (n : ℕ) → n ≡ length handed → AreFollowed (take 0 entries) handed (replicate n 0)
followed_none entries handed n long k d within =
    let none : slice_index_or (replicate n 0) k 0 ≡ 0 = get_or-replicate n k 0 0 (omega arith) in
    record {
      within = subst (λ c. c ≤ length (slice_index_or handed k d).calls) (sym none) (omega arith);
      same = ap (λ c. take c (slice_index_or handed k d).calls) (sym none);
    }

-- one more entry, the next call of one session
pub followed_more : {A : Type 0} (entries : List (Entry A)) (handed : List (CallsState A)) (counts : List ℕ) (i at next : ℕ) (e : Entry A) (c : CallsState A) → AreDistinct handed → i < length entries → length counts ≡ length handed
    → slice_get handed at ≡ Some c → IsNext c (slice_index_or counts at 0) (slice_index_or entries i e) next → AreFollowed (take i entries) handed counts → AreFollowed (take (i + 1) entries) handed (set counts at next)
followed_more {A} entries handed counts i at next e c distinct more long there is followed k d within =
    ⊎_elim same other (cases_eq k at)
  where
    inside : at < length handed
    inside = slice_get_within handed at c there

    calls_is : (d : CallsState A) → slice_index_or handed at d ≡ c
    calls_is d = get_or_from_slice_get handed at c d there

    there_now : slice_index_or (set counts at next) at 0 ≡ slice_index_or counts at 0 + 1
    there_now = get_or-set_same counts at next 0 (subst (λ n. at < n) (sym long) inside) ∙ is.next_is

    here : IsFollowed (take (i + 1) entries) c (slice_index_or counts at 0 + 1)
    here =
        let before = subst (λ x. IsFollowed (take i entries) x (slice_index_or counts at 0)) (calls_is c) (followed at c inside) in
        let stepped = calls_next c.number entries c.calls i (slice_index_or counts at 0) e more before.same (eq-eqb _ _ is.session_is) is.here in
        record { within = stepped.1; same = stepped.0 }

    same : k ≡ at → IsFollowed (take (i + 1) entries) (slice_index_or handed k d) (slice_index_or (set counts at next) k 0)
    same e_q = subst (λ p. IsFollowed (take (i + 1) entries) (slice_index_or handed p d) (slice_index_or (set counts at next) p 0)) (sym e_q)
        (subst (λ n. IsFollowed (take (i + 1) entries) (slice_index_or handed at d) n) (sym there_now) (subst (λ x. IsFollowed (take (i + 1) entries) x (slice_index_or counts at 0 + 1)) (sym (calls_is d)) here))

    other : (k ≡ at → ⊥) → IsFollowed (take (i + 1) entries) (slice_index_or handed k d) (slice_index_or (set counts at next) k 0)
    other differ =
        let before = followed k d within in
        let number = (slice_index_or handed k d).number in
        let not_its : ((slice_index_or entries i e).session == number) ≡ false =
        not_equal _ _ (λ eq. apart handed k at d distinct differ within inside (sym eq ∙ (is.session_is ∙ ap (λ x. x.number) (sym (calls_is d))))) in
        subst (λ n. IsFollowed (take (i + 1) entries) (slice_index_or handed k d) n) (sym (get_or-set_other counts at k next 0 differ))
        (record { within = before.within; same = calls_skip number entries i e more not_its ∙ before.same })

-- the session of an entry is among those handed in
pub among : {A : Type 0} (handed : List (CallsState A)) (at : ℕ) (c : CallsState A) (session : ℕ) → slice_get handed at ≡ Some c → session ≡ c.number → is_among session handed ≡ true
among {A} handed at c session there is = any_passes_from_place (λ (calls : CallsState A). session == calls.number) handed at c there (eq-eqb _ _ is)

-- calls that were counted completely agree with the trail
pub agree_all : {A : Type 0} (entries : List (Entry A)) (handed : List (CallsState A)) (counts : List ℕ) → AreFollowed entries handed counts → AreWhole handed counts (length handed) → All (Agrees entries) handed
agree_all entries handed counts followed whole k d within =
    let f = followed k d within in
    f.same ∙ take_all (slice_index_or counts k 0) (slice_index_or handed k d).calls (let w = whole k d within in omega arith)

-- counted up to one more index
pub whole_more : {A : Type 0} (handed : List (CallsState A)) (counts : List ℕ) (at : ℕ) (c : CallsState A) → at < length handed → c ≡ slice_index_or handed at c → slice_index_or counts at 0 ≡ length c.calls → AreWhole handed counts at → AreWhole handed counts (at + 1)
whole_more {A} handed counts at c within is counted whole k d below =
    ⊎_elim
    (λ same. subst (λ p. slice_index_or counts p 0 ≡ length (slice_index_or handed p d).calls) (sym same) (counted ∙ ap (λ (x : CallsState A). length x.calls) (is ∙ get_or_default handed at c d within)))
    (λ other. whole k d (omega arith))
    (cases_eq k at)
