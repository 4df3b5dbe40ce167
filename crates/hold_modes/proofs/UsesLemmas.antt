-- The number of a page's holds in each mode, after changes to the list of holds.
use Rattle.std.proofs.Common.{◌≡◌, ℕ, ◌+◌, ◌-◌, ◌<◌, ◌≤◌, Bool, true, false, ◌&&◌, ◌||◌, not, List, [], ◌∷◌, ◌++◌, refl, sym, ap, subst, ◌∙◌, arith, Some, None, length, suc}
use Rattle.std.specs.Prelude.{◌==◌, if◌then◌else◌, nat_eq}
use Rattle.std.specs.List.{list_any}
use Rattle.std.specs.Option.{unwrap_or}
use Rattle.hold_modes.specs.declared.modes.Hold.{Hold}
use Rattle.hold_modes.specs.declared.modes.Hold.TheVariants.{Read, Update, Exclusive}
use Rattle.hold_modes.specs.declared.modes.Ticket.{Ticket}
use Rattle.hold_modes.specs.declared.modes.Held.{Held}
use Rattle.hold_modes.specs.declared.uses.Uses.{Uses}
use Rattle.hold_modes.specs.Held.{are_compatible, bars, is_of, is_beside, held_by, without, made_exclusive, obeys_rule, is_shared, is_updating, is_update, page_of, update_in}
use Rattle.hold_modes.specs.Uses.{no_uses, uses_of, is_free, more, also, uses_bar, uses_in, kept, fewer, uses_at, Keeps, Puts, IsIndex}
use Rattle.std.specs.HashMap.{HashMap, get}
use Rattle.std.proofs.lemmas.Bool.{eqb-true}
use Rattle.hold_modes.proofs.HeldLemmas.{or_false_l, or_false_r, obeys_parts, page_in, mode_in, and_true_l, and_true_r}

more_comm : (m n : Hold) (u : Uses) → more m (more n u) ≡ more n (more m u)
more_comm Read Read u = refl
more_comm Read Update u = refl
more_comm Read Exclusive u = refl
more_comm Update Read u = refl
more_comm Update Update u = refl
more_comm Update Exclusive u = refl
more_comm Exclusive Read u = refl
more_comm Exclusive Update u = refl
more_comm Exclusive Exclusive u = refl

also_comm : (q p : ℕ) (m : Hold) (r : ℕ) (n : Hold) (u : Uses) → also q p m (also q r n u) ≡ also q r n (also q p m u)
also_comm q p m r n u = elim (p == q) as (λ b. (if b then more m (also q r n u) else also q r n u) ≡ also q r n (if b then more m u else u)) [
  | true ↦ elim (r == q) as (λ c. more m (if c then more n u else u) ≡ (if c then more n (more m u) else more m u)) [ true ↦ more_comm m n u | false ↦ refl ]
  | false ↦ refl
]

one_less : (n : ℕ) → n + 1 - 1 ≡ n
one_less n = omega arith

itself : (p : ℕ) → (p == p) ≡ true
itself p = grind arith

uses_in-more-le : (m n : Hold) (u : Uses) → uses_in m (more n u) ≤ uses_in m u + 1
uses_in-more-le Read Read u = omega arith
uses_in-more-le Read Update u = omega arith
uses_in-more-le Read Exclusive u = omega arith
uses_in-more-le Update Read u = omega arith
uses_in-more-le Update Update u = omega arith
uses_in-more-le Update Exclusive u = omega arith
uses_in-more-le Exclusive Read u = omega arith
uses_in-more-le Exclusive Update u = omega arith
uses_in-more-le Exclusive Exclusive u = omega arith

-- a hold added at the end of the list
pub uses_of-push : (q : ℕ) (hs : List Held) (h : Held) → uses_of q (hs ++ h ∷ []) ≡ also q h.page h.mode (uses_of q hs)
uses_of-push q [] h = refl
uses_of-push q (x ∷ xs) h = ap (also q x.page x.mode) (uses_of-push q xs h) ∙ also_comm q x.page x.mode h.page h.mode (uses_of q xs)

-- the ticket's hold plus those of all other tickets
pub uses_of-without : (q : ℕ) (t : Ticket) (hs : List Held) (p : ℕ) (m : Hold) → held_by t hs ≡ Some (p, m) → uses_of q hs ≡ also q p m (uses_of q (without t hs))
uses_of-without q t [] p m l = cc
uses_of-without q t (x ∷ xs) p m l = (elim (is_of t x) as (λ b. (if b then Some (x.page, x.mode) else held_by t xs) ≡ Some (p, m) → also q x.page x.mode (uses_of q xs) ≡ also q p m (uses_of q (if b then xs else x ∷ without t xs))) [
  | true ↦ λ y. let e1 : x.page ≡ p = ap page_in y in let e2 : x.mode ≡ m = ap mode_in y in rw (e1, e2) refl
  | false ↦ λ y. ap (also q x.page x.mode) (uses_of-without q t xs p m y) ∙ also_comm q x.page x.mode p m (uses_of q (without t xs))
]) l

-- the same after the hold is made exclusive
pub uses_of-made : (q : ℕ) (t : Ticket) (hs : List Held) (p : ℕ) (m : Hold) → held_by t hs ≡ Some (p, m) → uses_of q (made_exclusive t hs) ≡ also q p Exclusive (uses_of q (without t hs))
uses_of-made q t [] p m l = cc
uses_of-made q t (x ∷ xs) p m l = (elim (is_of t x) as (λ b. (if b then Some (x.page, x.mode) else held_by t xs) ≡ Some (p, m) → uses_of q (if b then record x { mode = Exclusive } ∷ xs else x ∷ made_exclusive t xs) ≡ also q p Exclusive (uses_of q (if b then xs else x ∷ without t xs))) [
  | true ↦ λ y. let e1 : x.page ≡ p = ap page_in y in rw (e1) refl
  | false ↦ λ y. ap (also q x.page x.mode) (uses_of-made q t xs p m y) ∙ also_comm q x.page x.mode p Exclusive (uses_of q (without t xs))
]) l

some_more : (n : ℕ) → ((n + 1) == 0) ≡ false
some_more n = grind arith

first_of : (c a r : Bool) → (c || ((r && c) || a)) ≡ ((true && c) || a)
first_of true a r = refl
first_of false a true = refl
first_of false a false = refl

-- moves the term of the added hold to the front of a disjunction
at_first : (c r s t : Bool) → (((true && c) || s) || t) ≡ (c || (((r && c) || s) || t))
at_first true r s t = refl
at_first false true s t = refl
at_first false false s t = refl

at_second : (c a r t : Bool) → ((a || (true && c)) || t) ≡ (c || ((a || (r && c)) || t))
at_second true true r t = refl
at_second true false r t = refl
at_second false a true t = refl
at_second false a false t = refl

at_third : (c a s r : Bool) → ((a || s) || (true && c)) ≡ (c || ((a || s) || (r && c)))
at_third true true s r = refl
at_third true false true r = refl
at_third true false false r = refl
at_third false a s true = refl
at_third false a s false = refl

uses_bar-more : (m n : Hold) (u : Uses) → uses_bar m (more n u) ≡ (not (are_compatible n m) || uses_bar m u)
uses_bar-more m Read u = rw (some_more u.read) (at_first (not (are_compatible Read m)) (not (u.read == 0)) (not (u.update == 0) && not (are_compatible Update m)) (not (u.exclusive == 0) && not (are_compatible Exclusive m)))
uses_bar-more m Update u = rw (some_more u.update) (at_second (not (are_compatible Update m)) (not (u.read == 0) && not (are_compatible Read m)) (not (u.update == 0)) (not (u.exclusive == 0) && not (are_compatible Exclusive m)))
uses_bar-more m Exclusive u = rw (some_more u.exclusive) (at_third (not (are_compatible Exclusive m)) (not (u.read == 0) && not (are_compatible Read m)) (not (u.update == 0) && not (are_compatible Update m)) (not (u.exclusive == 0)))

-- a hold of the list bars a mode if and only if the numbers bar it
pub bars-uses_of : (q : ℕ) (m : Hold) (hs : List Held) → list_any (bars q m) hs ≡ uses_bar m (uses_of q hs)
bars-uses_of q m [] = refl
bars-uses_of q m (x ∷ xs) = ap (λ b. ((x.page == q) && not (are_compatible x.mode m)) || b) (bars-uses_of q m xs)
    ∙ elim (x.page == q) as (λ b. ((b && not (are_compatible x.mode m)) || uses_bar m (uses_of q xs)) ≡ uses_bar m (if b then more x.mode (uses_of q xs) else uses_of q xs)) [
      | true ↦ sym (uses_bar-more m x.mode (uses_of q xs))
      | false ↦ refl
    ]

abbrev pub is_on : ℕ → Held → Bool
is_on q h = h.page == q

is_free-more : (m : Hold) (u : Uses) → is_free (more m u) ≡ false
is_free-more Read u = rw (some_more u.read) refl
is_free-more Update u = rw (some_more u.update) (elim (u.read == 0) as (λ b. ((b && false) && (u.exclusive == 0)) ≡ false) [ true ↦ refl | false ↦ refl ])
is_free-more Exclusive u = rw (some_more u.exclusive) (elim ((u.read == 0) && (u.update == 0)) as (λ b. (b && false) ≡ false) [ true ↦ refl | false ↦ refl ])

on-uses_of : (q : ℕ) (hs : List Held) → list_any (is_on q) hs ≡ not (is_free (uses_of q hs))
on-uses_of q [] = refl
on-uses_of q (x ∷ xs) = elim (x.page == q) as (λ b. (b || list_any (is_on q) xs) ≡ not (is_free (if b then more x.mode (uses_of q xs) else uses_of q xs))) [
  | true ↦ sym (ap not (is_free-more x.mode (uses_of q xs)))
  | false ↦ on-uses_of q xs
]

and_true : (b : Bool) → (b && true) ≡ b
and_true true = refl
and_true false = refl

and_false : (b : Bool) → (b && false) ≡ false
and_false true = refl
and_false false = refl

beside-absent : (q : ℕ) (t : Ticket) (hs : List Held) → list_any (is_of t) hs ≡ false → list_any (is_beside q t) hs ≡ list_any (is_on q) hs
beside-absent q t [] n = refl
beside-absent q t (x ∷ xs) n = rw (or_false_l (is_of t x) (list_any (is_of t) xs) n, beside-absent q t xs (or_false_r (is_of t x) (list_any (is_of t) xs) n), and_true (x.page == q)) refl

fewer-more : (m : Hold) (u : Uses) → fewer m (more m u) ≡ u
fewer-more Read u = ap (λ n. let uses : Uses = record u { read = n } in uses) (one_less u.read)
fewer-more Update u = ap (λ n. let uses : Uses = record u { update = n } in uses) (one_less u.update)
fewer-more Exclusive u = ap (λ n. let uses : Uses = record u { exclusive = n } in uses) (one_less u.exclusive)

uses_in-more : (m : Hold) (u : Uses) → uses_in m (more m u) ≡ uses_in m u + 1
uses_in-more Read u = refl
uses_in-more Update u = refl
uses_in-more Exclusive u = refl

nobody : (u : Uses) → is_free u ≡ true → u ≡ no_uses
nobody u f =
    let ru = and_true_l ((u.read == 0) && (u.update == 0)) (u.exclusive == 0) f in
    let r = eqb-true u.read 0 (and_true_l (u.read == 0) (u.update == 0) ru) in
    let d = eqb-true u.update 0 (and_true_r (u.read == 0) (u.update == 0) ru) in
    let e = eqb-true u.exclusive 0 (and_true_r ((u.read == 0) && (u.update == 0)) (u.exclusive == 0) f) in
    ap (λ n. let uses : Uses = record u { read = n } in uses) r
    ∙ (ap (λ n. let uses : Uses = record u { read = 0; update = n } in uses) d
    ∙ ap (λ n. let uses : Uses = record { read = 0; update = 0; exclusive = n } in uses) e)

-- the stored entry determines the numbers
kept-is : (u : Uses) → unwrap_or (kept u) no_uses ≡ u
kept-is u = (elim (is_free u) as (λ b. is_free u ≡ b → unwrap_or (if b then None else Some u) no_uses ≡ u) [
  | true ↦ λ f. sym (nobody u f)
  | false ↦ λ f. refl
]) refl

kept-more : (m : Hold) (u : Uses) → kept (more m u) ≡ Some (more m u)
kept-more m u = rw (is_free-more m u) refl

module _ {S : Type 0} (pages : HashMap ℕ Uses S) (hs : List Held) (index : IsIndex pages hs) where
  pub uses_at-is : (p : ℕ) → uses_at pages p ≡ uses_of p hs
  uses_at-is p = ap (λ o. unwrap_or o no_uses) (index p) ∙ kept-is (uses_of p hs)

  pub bar-is : (p : ℕ) (m : Hold) → uses_bar m (uses_at pages p) ≡ list_any (bars p m) hs
  bar-is p m = ap (uses_bar m) (uses_at-is p) ∙ sym (bars-uses_of p m hs)

  pub index-kept : (new : HashMap ℕ Uses S) → Keeps pages new → IsIndex new hs
  index-kept new same q = same q ∙ index q

  -- setting the entry of a page
  index-put : (new : HashMap ℕ Uses S) (p : ℕ) (u : Uses) (hs' : List Held) → Puts pages new p (kept u) → uses_of p hs' ≡ u → ((q : ℕ) → (p == q) ≡ false → uses_of q hs' ≡ uses_of q hs) → IsIndex new hs'
  index-put new p u hs' puts here there q = puts q ∙ (elim (p == q) as (λ b. (p == q) ≡ b → (if b then kept u else get nat_eq pages q) ≡ kept (uses_of q hs')) [
    | true ↦ λ y. let e : p ≡ q = eqb-true p q y in sym (ap kept (ap (λ r. uses_of r hs') (sym e) ∙ here))
    | false ↦ λ n. index q ∙ sym (ap kept (there q n))
  ]) refl

  pub index-push : (new : HashMap ℕ Uses S) (h : Held) (u : Uses) → u ≡ more h.mode (uses_of h.page hs) → Puts pages new h.page (Some u) → IsIndex new (hs ++ h ∷ [])
  index-push new h u e puts = index-put new h.page u (hs ++ h ∷ [])
      (subst (Puts pages new h.page) (ap Some e ∙ (sym (kept-more h.mode (uses_of h.page hs)) ∙ ap kept (sym e))) puts)
      (uses_of-push h.page hs h ∙ (rw (itself h.page) refl ∙ sym e))
      (λ q n. uses_of-push q hs h ∙ rw n refl)

  module _ (t : Ticket) (p : ℕ) (m : Hold) (l : held_by t hs ≡ Some (p, m)) where
    own : uses_of p hs ≡ more m (uses_of p (without t hs))
    own = uses_of-without p t hs p m l ∙ rw (itself p) refl

    other : (q : ℕ) → (p == q) ≡ false → uses_of q hs ≡ uses_of q (without t hs)
    other q n = uses_of-without q t hs p m l ∙ rw n refl

    pub others-are : fewer m (uses_at pages p) ≡ uses_of p (without t hs)
    others-are = ap (fewer m) (uses_at-is p ∙ own) ∙ fewer-more m (uses_of p (without t hs))

    pub is-used : 0 < uses_in m (uses_at pages p)
    is-used = let e : uses_in m (uses_at pages p) ≡ uses_in m (uses_of p (without t hs)) + 1 = ap (uses_in m) (uses_at-is p ∙ own) ∙ uses_in-more m (uses_of p (without t hs)) in omega (arith, e)

    pub is-there : get nat_eq pages p ≡ Some (more m (uses_of p (without t hs)))
    is-there = index p ∙ (ap kept own ∙ kept-more m (uses_of p (without t hs)))

    pub index-without : (new : HashMap ℕ Uses S) → Puts pages new p (kept (fewer m (uses_at pages p))) → IsIndex new (without t hs)
    index-without new puts = index-put new p (fewer m (uses_at pages p)) (without t hs) puts (sym others-are) (λ q n. sym (other q n))

    made-own : uses_of p (made_exclusive t hs) ≡ more Exclusive (uses_of p (without t hs))
    made-own = uses_of-made p t hs p m l ∙ rw (itself p) refl

    made-other : (q : ℕ) → (p == q) ≡ false → uses_of q (made_exclusive t hs) ≡ uses_of q (without t hs)
    made-other q n = uses_of-made q t hs p m l ∙ rw n refl

    pub index-made : (new : HashMap ℕ Uses S) → Puts pages new p (kept (more Exclusive (fewer m (uses_at pages p)))) → IsIndex new (made_exclusive t hs)
    index-made new puts = index-put new p (more Exclusive (fewer m (uses_at pages p))) (made_exclusive t hs) puts
        (made-own ∙ sym (ap (more Exclusive) others-are))
        (λ q n. made-other q n ∙ sym (other q n))

-- another ticket holds the page if and only if a hold is left without this ticket's hold
pub beside-is : (q : ℕ) (t : Ticket) (hs : List Held) → obeys_rule hs ≡ true → list_any (is_beside q t) hs ≡ list_any (is_on q) (without t hs)
beside-is q t [] o = refl
beside-is q t (x ∷ xs) o =
    let parts = obeys_parts x xs o in
    (elim (is_of t x) as (λ b. is_of t x ≡ b → (((x.page == q) && not b) || list_any (is_beside q t) xs) ≡ list_any (is_on q) (if b then xs else x ∷ without t xs)) [
      | true ↦ λ y.
          let same : x.ticket.0 ≡ t.0 = eqb-true x.ticket.0 t.0 y in
          let none : list_any (is_of t) xs ≡ false = (let F : ℕ → Type 0 = λ n. list_any (λ (h : Held). h.ticket.0 == n) xs ≡ false in subst F same parts.1) in
          rw (and_false (x.page == q)) (beside-absent q t xs none)
      | false ↦ λ n. rw (and_true (x.page == q)) (ap (λ b. (x.page == q) || b) (beside-is q t xs parts.2))
    ]) refl

page_of-is : (t : Ticket) (hs : List Held) → page_of t hs ≡ page_in (held_by t hs)
page_of-is t [] = refl
page_of-is t (x ∷ xs) = elim (is_of t x) as (λ b. (if b then x.page else page_of t xs) ≡ page_in (if b then Some (x.page, x.mode) else held_by t xs)) [
  | true ↦ refl
  | false ↦ page_of-is t xs
]

-- another ticket holds the page if and only if the numbers without this ticket's hold are not all 0
pub shared-is : (t : Ticket) (hs : List Held) (p : ℕ) (m : Hold) → held_by t hs ≡ Some (p, m) → obeys_rule hs ≡ true → is_shared t hs ≡ not (is_free (uses_of p (without t hs)))
shared-is t hs p m l o =
    let page : page_of t hs ≡ p = page_of-is t hs ∙ ap page_in l in
    ap (λ q. list_any (is_beside q t) hs) page ∙ (beside-is p t hs o ∙ on-uses_of p (without t hs))

update-is : (m : Hold) → is_update m ≡ true → m ≡ Update
update-is Read u = cc
update-is Update u = refl
update-is Exclusive u = cc

-- the ticket has an update hold
pub updating-is : (t : Ticket) (hs : List Held) (p : ℕ) (m : Hold) → held_by t hs ≡ Some (p, m) → is_updating t hs ≡ true → held_by t hs ≡ Some (p, Update)
updating-is t hs p m l u = l ∙ ap (λ n. Some (p, n)) (update-is m (sym (ap update_in l) ∙ u))

-- removing the hold of a ticket that holds nothing changes nothing
pub without-none : (t : Ticket) (hs : List Held) → held_by t hs ≡ None → without t hs ≡ hs
without-none t [] l = refl
without-none t (x ∷ xs) l = (elim (is_of t x) as (λ b. (if b then Some (x.page, x.mode) else held_by t xs) ≡ None → (if b then xs else x ∷ without t xs) ≡ x ∷ xs) [
  | true ↦ λ y. cc
  | false ↦ λ y. ap (λ hs. x ∷ hs) (without-none t xs y)
]) l

-- a page's numbers are at most the length of the list
pub uses_in-le : (m : Hold) (q : ℕ) (hs : List Held) → uses_in m (uses_of q hs) ≤ length hs
uses_in-le m q [] = elim m as (λ m. uses_in m no_uses ≤ 0) [ Read ↦ omega arith | Update ↦ omega arith | Exclusive ↦ omega arith ]
uses_in-le m q (x ∷ xs) = let r = uses_in-le m q xs in elim (x.page == q) as (λ b. uses_in m (if b then more x.mode (uses_of q xs) else uses_of q xs) ≤ suc (length xs)) [
  | true ↦ (let b = uses_in-more-le m x.mode (uses_of q xs) in omega (arith, r, b))
  | false ↦ omega (arith, r)
]
