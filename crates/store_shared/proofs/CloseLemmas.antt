-- Steps of the loops that compare calls with a trail.
use Rattle.std.proofs.Common.{◌≡◌, ◌∙◌, sym, ap, refl, ℕ, ◌<◌, ◌≤◌, ◌+◌, Bool, true, false, length, List, [], ◌∷◌, ◌++◌, arith, slice_index_or}
use Rattle.std.specs.Prelude.{◌≢◌, ◌==◌, ◌&&◌, nat_eq, take, drop, map, Some}
use Rattle.std.specs.List.{IsDistinct, list_any, slice_get}
use Rattle.std.proofs.lemmas.Bool.{eqb-false}
use Rattle.std.proofs.lemmas.Cmp.{nat_eq_equiv}
use Rattle.std.proofs.lemmas.List.{take_all, take_more, length-take-le, take-append-drop, append-nil, append_assoc, map-append}
use Rattle.std.proofs.lemmas.List.Elements.{All-more, All-nil, filter-append}
use Rattle.std.proofs.lemmas.Map.Keys.{IsDistinct-push}
use Rattle.std.proofs.lemmas.Option.{slice_get-get_or, slice_get_within, get_or_from_slice_get}
use Rattle.std.proofs.lemmas.Bool.Decides.{Decides-and, Decides-like}
use Rattle.std.proofs.lemmas.Slice.Eq.{bytes_eq-Decides}
use Rattle.std.specs.Bool.{Decides}
use Rattle.std.specs.Str.{bytes_eq}
use Rattle.sdbm_addr.specs.Pairs.{Pair}
use Rattle.store_cmd.specs.declared.Entry.{Entry}
use Rattle.desk_core.specs.Desk.{DeskState}
use Rattle.store_shared.specs.declared.close.CloseFault.{CloseFault}
use Rattle.store_shared.specs.declared.close.CloseFault.TheVariants.{Stranger, Double, Missing, Torn, Opening}
use Rattle.store_shared.specs.Shared.{Opened, CallsState}
use Rattle.store_shared.specs.Closed.{calls_of, numbers_of, is_among, AreOwn, IsFirstStrange, IsFirstApart, IsCloseFault}

among_numbers : {A : Type 0} (n : ℕ) (handed : List (CallsState A)) → list_any (nat_eq n) (numbers_of handed) ≡ is_among n handed
among_numbers n [] = refl
among_numbers {A} n (c ∷ cs) = rw (among_numbers n cs) refl

-- one more session with its own number
pub AreOwn-more : {A : Type 0} (made : ℕ) (handed : List (CallsState A)) (i : ℕ) (d : CallsState A) → i < length handed → AreOwn made (take i handed) → (slice_index_or handed i d).number < made → is_among (slice_index_or handed i d).number (take i handed) ≡ false → AreOwn made (take (i + 1) handed)
AreOwn-more {A} made handed i d within own given new =
    let number : CallsState A → ℕ = λ c. c.number in
    let c = slice_index_or handed i d in
    let e : numbers_of (take (i + 1) handed) ≡ numbers_of (take i handed) ++ c.number ∷ [] = ap (map number) (take_more handed i d within) ∙ map-append number (take i handed) (c ∷ []) in
    record {
      given = All-more (λ (c : CallsState A). c.number < made) handed i d within own.given given;
      distinct = rw e (IsDistinct-push nat_eq_equiv (numbers_of (take i handed)) c.number own.distinct (among_numbers c.number (take i handed) ∙ new));
    }

-- an empty list
pub AreOwn-none : {A : Type 0} (made : ℕ) → AreOwn {A = A} made []
unfolding IsDistinct
AreOwn-none {A} made = record { given = All-nil (λ (c : CallsState A). c.number < made); distinct = tt }

pub ruleset Here = (slice_get-get_or)

-- the element after the front of a list
slice_get-behind : {X : Type 0} (front : List X) (x : X) (rest : List X) → slice_get (front ++ x ∷ rest) (length front) ≡ Some x
slice_get-behind [] x rest = refl
slice_get-behind (y ∷ ys) x rest = slice_get-behind ys x rest

pub calls_skip : {A : Type 0} (n : ℕ) (xs : List (Entry A)) (i : ℕ) (d : Entry A) → i < length xs → ((slice_index_or xs i d).session == n) ≡ false → calls_of n (take (i + 1) xs) ≡ calls_of n (take i xs)
calls_skip {A} n xs i d h n_o =
    ap (calls_of n) (take_more xs i d h) ∙ (filter-append (λ (e : Entry A). e.session == n) (take i xs) (slice_index_or xs i d ∷ []) ∙ rw n_o (append-nil (calls_of n (take i xs))))

pub calls_more : {A : Type 0} (n : ℕ) (xs : List (Entry A)) (i : ℕ) (d : Entry A) → i < length xs → ((slice_index_or xs i d).session == n) ≡ true → calls_of n (take (i + 1) xs) ≡ calls_of n (take i xs) ++ slice_index_or xs i d ∷ []
calls_more {A} n xs i d h y_s =
    ap (calls_of n) (take_more xs i d h) ∙ (filter-append (λ (e : Entry A). e.session == n) (take i xs) (slice_index_or xs i d ∷ []) ∙ rw y_s refl)

-- if the session's entry after `at` equal ones is not its next call, the calls differ
pub calls_apart : {A : Type 0} (n : ℕ) (xs made : List (Entry A)) (i at : ℕ) (d : Entry A) → i < length xs → at ≤ length made → calls_of n (take i xs) ≡ take at made → ((slice_index_or xs i d).session == n) ≡ true → slice_get made at ≢ Some (slice_index_or xs i d) → calls_of n xs ≢ made
calls_apart {A} n xs made i at d within few same its_own other whole =
    let p : Entry A → Bool = λ e. e.session == n in
    let x = slice_index_or xs i d in
    let rest = calls_of n (drop (i + 1) xs) in
    let parts : made ≡ (take at made ++ x ∷ []) ++ rest =
    sym whole ∙ (ap (calls_of n) (sym (take-append-drop (i + 1) xs)) ∙ (filter-append p (take (i + 1) xs) (drop (i + 1) xs) ∙ ap (λ ys. ys ++ rest) (calls_more n xs i d within its_own ∙ ap (λ ys. ys ++ x ∷ []) same))) in
    let seam : made ≡ take at made ++ x ∷ rest = parts ∙ append_assoc (take at made) (x ∷ []) rest in
    other (ap (λ ys. slice_get ys at) seam ∙ (ap (slice_get (take at made ++ x ∷ rest)) (sym (length-take-le at made few)) ∙ slice_get-behind (take at made) x rest))

-- if the trail has fewer entries of the session, the calls differ
pub calls_short : {A : Type 0} (n : ℕ) (xs made : List (Entry A)) (at : ℕ) → at < length made → calls_of n xs ≡ take at made → calls_of n xs ≢ made
calls_short {A} n xs made at few same whole =
    let l : length made ≡ at = ap length (sym whole ∙ same) ∙ length-take-le at made (omega arith) in
    absurd (omega arith)

-- once every entry is counted, the calls are all those of their session in the trail
pub calls_whole : {A : Type 0} (n : ℕ) (xs made : List (Entry A)) (i at : ℕ) → length xs ≤ i → at ≤ length made → calls_of n (take i xs) ≡ take at made → Decides (at == length made) (calls_of n xs ≡ made)
calls_whole {A} n xs made i at over few same = (λ h. whole ∙ take_all at made (enough h), λ here. by_test here (at == length made) refl) where
  whole : calls_of n xs ≡ take at made
  whole = ap (calls_of n) (sym (take_all i xs over)) ∙ same

  enough : (at == length made) ≡ true → length made ≤ at
  enough h = grind arith

  by_test : calls_of n xs ≡ made → (b : Bool) → (at == length made) ≡ b → b ≡ true
  by_test here true is = refl
  by_test here false is = absurd (calls_short n xs made at (omega (arith, eqb-false at (length made) is)) whole here)

-- if the entry is the session's next call, one more call is equal
pub calls_next : {A : Type 0} (n : ℕ) (xs made : List (Entry A)) (i at : ℕ) (d : Entry A) → i < length xs → calls_of n (take i xs) ≡ take at made → ((slice_index_or xs i d).session == n) ≡ true → slice_get made at ≡ Some (slice_index_or xs i d) → (calls_of n (take (i + 1) xs) ≡ take (at + 1) made) × (at + 1 ≤ length made)
calls_next {A} n xs made i at d within same its_own here =
    let x = slice_index_or xs i d in
    let room : at < length made = slice_get_within made at x here in (
      calls_more n xs i d within its_own ∙ (ap (λ ys. ys ++ x ∷ []) same ∙ (ap (λ y. take at made ++ y ∷ []) (sym (get_or_from_slice_get made at x x here)) ∙ sym (take_more made at x room))),
      omega arith,
    )

-- decides whether two pairs are equal
pub same_pair : (a b : Pair) → Decides (bytes_eq a.0 b.0 && bytes_eq a.1 b.1) (a ≡ b)
same_pair a b =
    let whole : (a.0 ≡ b.0) × (a.1 ≡ b.1) → a ≡ b = λ h. ap (λ x. (x, a.1)) h.0 ∙ ap (λ y. (b.0, y)) h.1 in
    Decides-like (bytes_eq a.0 b.0 && bytes_eq a.1 b.1) whole (λ e. (ap (λ p. p.0) e, ap (λ p. p.1) e)) (Decides-and (bytes_eq a.0 b.0) (bytes_eq a.1 b.1) (bytes_eq-Decides a.0 b.0) (bytes_eq-Decides a.1 b.1))

-- an unknown number, or one that occurs twice, is a fault of closing
pub strange_fault : {A : Type 0} (s : DeskState A) (made : ℕ) (opened : Opened) (handed : List (CallsState A)) (fault : CloseFault) → IsFirstStrange made handed fault → IsCloseFault s made opened handed fault
strange_fault s made opened handed (Stranger n) h = h
strange_fault s made opened handed (Double n) h = h
strange_fault s made opened handed (Missing n) h = absurd h.strange
strange_fault s made opened handed (Torn n) h = absurd h.strange
strange_fault s made opened handed Opening h = absurd h.strange

-- if all numbers are valid, a missing or torn session is a fault of closing
pub apart_fault : {A : Type 0} (s : DeskState A) (made : ℕ) (opened : Opened) (handed : List (CallsState A)) (fault : CloseFault) → AreOwn made handed → IsFirstApart s.entries handed fault → IsCloseFault s made opened handed fault
apart_fault s made opened handed (Stranger n) own h = absurd h
apart_fault s made opened handed (Double n) own h = absurd h
apart_fault s made opened handed (Missing n) own h = (own, h)
apart_fault s made opened handed (Torn n) own h = (own, h)
apart_fault s made opened handed Opening own h = absurd h
