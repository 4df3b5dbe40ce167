use Rattle.std.proofs.Common.{◌≡◌, ℕ, Bool, true, false, ◌&&◌, ◌||◌, not, List, [], ◌∷◌, ◌++◌, refl, sym, ap, subst, ◌∙◌, arith, Option, Some, None}
use Rattle.std.proofs.lemmas.Grind.{common_steps}
use Rattle.std.proofs.lemmas.Bool.{eqb-true, eq-eqb}
use Rattle.std.specs.Prelude.{◌==◌, if◌then◌else◌}
use Rattle.std.specs.List.{list_any}
use Rattle.std.proofs.lemmas.List.Folds.{list_any-append}
use Rattle.hold_modes.specs.declared.modes.Hold.{Hold}
use Rattle.hold_modes.specs.declared.modes.Hold.TheVariants.{Read, Update, Exclusive}
use Rattle.hold_modes.specs.declared.modes.Ticket.{Ticket}
use Rattle.hold_modes.specs.declared.modes.Held.{Held}
use Rattle.hold_modes.specs.Held.{are_compatible, bars, is_of, is_beside, held_by, without, made_exclusive, obeys_rule, is_shared, page_of}

pub eq_comm : (a b : ℕ) → (a == b) ≡ (b == a)
eq_comm a b = grind (arith, common_steps)

pub are_compatible_comm : (a b : Hold) → are_compatible a b ≡ are_compatible b a
are_compatible_comm Read Read = refl
are_compatible_comm Read Update = refl
are_compatible_comm Read Exclusive = refl
are_compatible_comm Update Read = refl
are_compatible_comm Update Update = refl
are_compatible_comm Update Exclusive = refl
are_compatible_comm Exclusive Read = refl
are_compatible_comm Exclusive Update = refl
are_compatible_comm Exclusive Exclusive = refl

pub bars_comm : (a b : Held) → bars a.page a.mode b ≡ bars b.page b.mode a
bars_comm a b = rw (eq_comm b.page a.page, are_compatible_comm b.mode a.mode) refl

pub is_of_comm : (a b : Held) → is_of a.ticket b ≡ is_of b.ticket a
is_of_comm a b = eq_comm b.ticket.0 a.ticket.0

pub or_false_l : (a b : Bool) → (a || b) ≡ false → a ≡ false
or_false_l true b h = h
or_false_l false b h = refl

pub or_false_r : (a b : Bool) → (a || b) ≡ false → b ≡ false
or_false_r true b h = absurd (cc)
or_false_r false b h = h

pub and_true_l : (a b : Bool) → (a && b) ≡ true → a ≡ true
and_true_l true b h = refl
and_true_l false b h = h

pub and_true_r : (a b : Bool) → (a && b) ≡ true → b ≡ true
and_true_r true b h = h
and_true_r false b h = absurd (cc)

pub both : (a b : Bool) → a ≡ true → b ≡ true → (a && b) ≡ true
both a b p q = rw (p, q) refl

pub either_false : (a b : Bool) → a ≡ false → b ≡ false → (a || b) ≡ false
either_false a b p q = rw (p, q) refl

pub not_to_false : (a : Bool) → not a ≡ true → a ≡ false
not_to_false true h = absurd (cc)
not_to_false false h = refl

-- adding a hold that no hold bars, for a ticket that holds nothing
pub obeys_rule-push : (hs : List Held) (h : Held) → obeys_rule hs ≡ true → list_any (bars h.page h.mode) hs ≡ false → list_any (is_of h.ticket) hs ≡ false → obeys_rule (hs ++ h ∷ []) ≡ true
obeys_rule-push [] h o b t = refl
obeys_rule-push (x ∷ xs) h o b t =
    let o1 = and_true_l (not (list_any (bars x.page x.mode) xs)) (not (list_any (is_of x.ticket) xs) && obeys_rule xs) o in
    let o23 = and_true_r (not (list_any (bars x.page x.mode) xs)) (not (list_any (is_of x.ticket) xs) && obeys_rule xs) o in
    let o2 = and_true_l (not (list_any (is_of x.ticket) xs)) (obeys_rule xs) o23 in
    let o3 = and_true_r (not (list_any (is_of x.ticket) xs)) (obeys_rule xs) o23 in
    let bx : bars x.page x.mode h ≡ false = bars_comm x h ∙ or_false_l (bars h.page h.mode x) (list_any (bars h.page h.mode) xs) b in
    let tx : is_of x.ticket h ≡ false = is_of_comm x h ∙ or_false_l (is_of h.ticket x) (list_any (is_of h.ticket) xs) t in
    let rest : obeys_rule (xs ++ h ∷ []) ≡ true = obeys_rule-push xs h o3 (or_false_r (bars h.page h.mode x) (list_any (bars h.page h.mode) xs) b) (or_false_r (is_of h.ticket x) (list_any (is_of h.ticket) xs) t) in
    let p1 : list_any (bars x.page x.mode) (xs ++ h ∷ []) ≡ false = list_any-append (bars x.page x.mode) xs (h ∷ []) ∙ either_false (list_any (bars x.page x.mode) xs) (bars x.page x.mode h || false) (not_to_false (list_any (bars x.page x.mode) xs) o1) (either_false (bars x.page x.mode h) false bx refl) in
    let p2 : list_any (is_of x.ticket) (xs ++ h ∷ []) ≡ false = list_any-append (is_of x.ticket) xs (h ∷ []) ∙ either_false (list_any (is_of x.ticket) xs) (is_of x.ticket h || false) (not_to_false (list_any (is_of x.ticket) xs) o2) (either_false (is_of x.ticket h) false tx refl) in
    rw (p1, p2, rest) refl

-- a test that fails for all holds fails for all holds after one is removed
pub list_any-without : (p : Held → Bool) (t : Ticket) (hs : List Held) → list_any p hs ≡ false → list_any p (without t hs) ≡ false
list_any-without p t [] n = refl
list_any-without p t (x ∷ xs) n =
    elim (is_of t x) as (λ b. list_any p (if b then xs else x ∷ without t xs) ≡ false) [
      | true ↦ or_false_r (p x) (list_any p xs) n
      | false ↦ either_false (p x) (list_any p (without t xs)) (or_false_l (p x) (list_any p xs) n) (list_any-without p t xs (or_false_r (p x) (list_any p xs) n))
    ]

pub obeys_parts : (x : Held) (xs : List Held) → obeys_rule (x ∷ xs) ≡ true → (list_any (bars x.page x.mode) xs ≡ false) × (list_any (is_of x.ticket) xs ≡ false) × (obeys_rule xs ≡ true)
obeys_parts x xs o =
    let o23 = and_true_r (not (list_any (bars x.page x.mode) xs)) (not (list_any (is_of x.ticket) xs) && obeys_rule xs) o in (
      not_to_false (list_any (bars x.page x.mode) xs) (and_true_l (not (list_any (bars x.page x.mode) xs)) (not (list_any (is_of x.ticket) xs) && obeys_rule xs) o),
      not_to_false (list_any (is_of x.ticket) xs) (and_true_l (not (list_any (is_of x.ticket) xs)) (obeys_rule xs) o23),
      and_true_r (not (list_any (is_of x.ticket) xs)) (obeys_rule xs) o23,
    )

pub obeys_whole : (x : Held) (xs : List Held) → list_any (bars x.page x.mode) xs ≡ false → list_any (is_of x.ticket) xs ≡ false → obeys_rule xs ≡ true → obeys_rule (x ∷ xs) ≡ true
obeys_whole x xs a b c = rw (a, b, c) refl

pub obeys_rule-without : (t : Ticket) (hs : List Held) → obeys_rule hs ≡ true → obeys_rule (without t hs) ≡ true
obeys_rule-without t [] o = refl
obeys_rule-without t (x ∷ xs) o =
    let p = obeys_parts x xs o in
    elim (is_of t x) as (λ b. obeys_rule (if b then xs else x ∷ without t xs) ≡ true) [
      | true ↦ p.2
      | false ↦ obeys_whole x (without t xs) (list_any-without (bars x.page x.mode) t xs p.0) (list_any-without (is_of x.ticket) t xs p.1) (obeys_rule-without t xs p.2)
    ]

-- the list has no hold of the ticket
pub not_found : (t : Ticket) (hs : List Held) → list_any (is_of t) hs ≡ false → (held_by t hs ≡ None) × (without t hs ≡ hs)
not_found t [] n = (refl, refl)
not_found t (x ∷ xs) n =
    let nx = or_false_l (is_of t x) (list_any (is_of t) xs) n in
    let r = not_found t xs (or_false_r (is_of t x) (list_any (is_of t) xs) n) in
    (rw nx r.0, rw nx (ap (λ ys. x ∷ ys) r.1))

-- if no other ticket holds the page and this ticket holds nothing, no hold bars the page
pub alone : (p : ℕ) (t : Ticket) (m : Hold) (hs : List Held) → list_any (is_beside p t) hs ≡ false → list_any (is_of t) hs ≡ false → list_any (bars p m) hs ≡ false
alone p t m [] a b = refl
alone p t m (x ∷ xs) a b =
    let nx = or_false_l (is_of t x) (list_any (is_of t) xs) b in
    let ax : ((x.page == p) && not (is_of t x)) ≡ false = or_false_l (is_beside p t x) (list_any (is_beside p t) xs) a in
    let ax' : ((x.page == p) && true) ≡ false = (let Q : Bool → Type 0 = λ b. ((x.page == p) && not b) ≡ false in subst Q nx ax) in
    let here : (x.page == p) ≡ false = (elim (x.page == p) as (λ b. (b && true) ≡ false → b ≡ false) [ true ↦ λ h. h | false ↦ λ h. refl ]) ax' in
    either_false (bars p m x) (list_any (bars p m) xs) (rw here refl) (alone p t m xs (or_false_r (is_beside p t x) (list_any (is_beside p t) xs) a) (or_false_r (is_of t x) (list_any (is_of t) xs) b))

pub apart : (b c : Bool) → (b && not c) ≡ false → c ≡ false → b ≡ false
apart true c h n = absurd (let e : not c ≡ true = ap not n in let z : true ≡ false = sym e ∙ h in cc)
apart false c h n = refl

-- a test that does not depend on the mode
pub list_any-made : (p : Held → Bool) → ((h : Held) → p (record h { mode = Exclusive }) ≡ p h) → (t : Ticket) (hs : List Held) → list_any p (made_exclusive t hs) ≡ list_any p hs
list_any-made p same t [] = refl
list_any-made p same t (x ∷ xs) =
    elim (is_of t x) as (λ b. list_any p (if b then record x { mode = Exclusive } ∷ xs else x ∷ made_exclusive t xs) ≡ (p x || list_any p xs)) [
      | true ↦ ap (λ b. b || list_any p xs) (same x)
      | false ↦ ap (λ b. p x || b) (list_any-made p same t xs)
    ]

pub bars-made : (q : ℕ) (m : Hold) (t : Ticket) (hs : List Held) → list_any (bars q m) hs ≡ false → (page_of t hs == q) ≡ false → list_any (bars q m) (made_exclusive t hs) ≡ false
bars-made q m t [] n = λ e. refl
bars-made q m t (x ∷ xs) n =
    elim (is_of t x) as (λ b. ((if b then x.page else page_of t xs) == q) ≡ false → list_any (bars q m) (if b then record x { mode = Exclusive } ∷ xs else x ∷ made_exclusive t xs) ≡ false) [
      | true ↦ λ e. either_false ((x.page == q) && not (are_compatible Exclusive m)) (list_any (bars q m) xs) (rw e refl) (or_false_r (bars q m x) (list_any (bars q m) xs) n)
      | false ↦ λ e. either_false (bars q m x) (list_any (bars q m) (made_exclusive t xs)) (or_false_l (bars q m x) (list_any (bars q m) xs) n) (bars-made q m t xs (or_false_r (bars q m x) (list_any (bars q m) xs) n) e)
    ]

pub obeys_rule-made : (t : Ticket) (hs : List Held) → obeys_rule hs ≡ true → is_shared t hs ≡ false → obeys_rule (made_exclusive t hs) ≡ true
obeys_rule-made t [] o = λ s. refl
obeys_rule-made t (x ∷ xs) o =
    let p = obeys_parts x xs o in
    let Q : Bool → Type 0 = λ b. is_of t x ≡ b → list_any (is_beside (if b then x.page else page_of t xs) t) (x ∷ xs) ≡ false → obeys_rule (if b then record x { mode = Exclusive } ∷ xs else x ∷ made_exclusive t xs) ≡ true in
    (elim (is_of t x) as Q [
      | true ↦ λ y s.
          let same : x.ticket.0 ≡ t.0 = eqb-true x.ticket.0 t.0 y in
          let none : list_any (is_of t) xs ≡ false = (let F : ℕ → Type 0 = λ n. list_any (λ (h : Held). h.ticket.0 == n) xs ≡ false in subst F same p.1) in
          obeys_whole (record x { mode = Exclusive }) xs (alone x.page t Exclusive xs (or_false_r (is_beside x.page t x) (list_any (is_beside x.page t) xs) s) none) p.1 p.2
      | false ↦ λ y s.
          let away : (x.page == page_of t xs) ≡ false = apart (x.page == page_of t xs) (is_of t x) (or_false_l (is_beside (page_of t xs) t x) (list_any (is_beside (page_of t xs) t) xs) s) y in
          obeys_whole x (made_exclusive t xs)
          (bars-made x.page x.mode t xs p.0 (eq_comm (page_of t xs) x.page ∙ away))
          (list_any-made (is_of x.ticket) (λ h. refl) t xs ∙ p.1)
          (obeys_rule-made t xs p.2 (or_false_r (is_beside (page_of t xs) t x) (list_any (is_beside (page_of t xs) t) xs) s))
    ]) refl

-- the holds of other tickets are unchanged
pub held_by-without_other : (t u : Ticket) → ((u.0 == t.0) ≡ false) → (hs : List Held) → held_by u (without t hs) ≡ held_by u hs
held_by-without_other t u d [] = refl
held_by-without_other t u d (x ∷ xs) =
    let Q : Bool → Type 0 = λ b. is_of t x ≡ b → held_by u (if b then xs else x ∷ without t xs) ≡ held_by u (x ∷ xs) in
    (elim (is_of t x) as Q [
      | true ↦ λ y.
          let e : x.ticket.0 ≡ t.0 = eqb-true x.ticket.0 t.0 y in
          let n : is_of u x ≡ false = (eq_comm x.ticket.0 u.0) ∙ (ap (λ k. u.0 == k) e ∙ d) in
          sym (rw n refl)
      | false ↦ λ y. elim (is_of u x) as (λ b. (if b then Some (x.page, x.mode) else held_by u (without t xs)) ≡ (if b then Some (x.page, x.mode) else held_by u xs)) [ true ↦ refl | false ↦ held_by-without_other t u d xs ]
    ]) refl

pub held_by-made_other : (t u : Ticket) → ((u.0 == t.0) ≡ false) → (hs : List Held) → held_by u (made_exclusive t hs) ≡ held_by u hs
held_by-made_other t u d [] = refl
held_by-made_other t u d (x ∷ xs) =
    let Q : Bool → Type 0 = λ b. is_of t x ≡ b → held_by u (if b then record x { mode = Exclusive } ∷ xs else x ∷ made_exclusive t xs) ≡ held_by u (x ∷ xs) in
    (elim (is_of t x) as Q [
      | true ↦ λ y.
          let e : x.ticket.0 ≡ t.0 = eqb-true x.ticket.0 t.0 y in
          let n : is_of u x ≡ false = (eq_comm x.ticket.0 u.0) ∙ (ap (λ k. u.0 == k) e ∙ d) in
          rw n refl
      | false ↦ λ y. elim (is_of u x) as (λ b. (if b then Some (x.page, x.mode) else held_by u (made_exclusive t xs)) ≡ (if b then Some (x.page, x.mode) else held_by u xs)) [ true ↦ refl | false ↦ held_by-made_other t u d xs ]
    ]) refl

-- after the release the ticket holds nothing
pub held_by-without_self : (t : Ticket) (hs : List Held) → obeys_rule hs ≡ true → held_by t (without t hs) ≡ None
held_by-without_self t [] o = refl
held_by-without_self t (x ∷ xs) o =
    let p = obeys_parts x xs o in
    let Q : Bool → Type 0 = λ b. is_of t x ≡ b → held_by t (if b then xs else x ∷ without t xs) ≡ None in
    (elim (is_of t x) as Q [
      | true ↦ λ y.
          let same : x.ticket.0 ≡ t.0 = eqb-true x.ticket.0 t.0 y in
          let none : list_any (is_of t) xs ≡ false = (let F : ℕ → Type 0 = λ n. list_any (λ (h : Held). h.ticket.0 == n) xs ≡ false in subst F same p.1) in
          (not_found t xs none).0
      | false ↦ λ y. rw y (held_by-without_self t xs p.2)
    ]) refl

abbrev pub page_in : Option (ℕ × Hold) → ℕ
page_in None = 0
page_in (Some h) = h.0

abbrev pub mode_in : Option (ℕ × Hold) → Hold
mode_in None = Read
mode_in (Some h) = h.1

-- if no hold bars the mode, the hold of ticket u does not bar it
pub barred_by : (p : ℕ) (m : Hold) (u : Ticket) (hs : List Held) (q : ℕ) (n : Hold) → list_any (bars p m) hs ≡ false → held_by u hs ≡ Some (q, n) → ((q == p) && not (are_compatible n m)) ≡ false
barred_by p m u [] q n b = λ h. absurd cc
barred_by p m u (x ∷ xs) q n b =
    elim (is_of u x) as (λ c. (if c then Some (x.page, x.mode) else held_by u xs) ≡ Some (q, n) → ((q == p) && not (are_compatible n m)) ≡ false) [
      | true ↦ λ h.
          let e1 : x.page ≡ q = ap page_in h in
          let e2 : x.mode ≡ n = ap mode_in h in
          rw (← e1, ← e2) (or_false_l (bars p m x) (list_any (bars p m) xs) b)
      | false ↦ λ h. barred_by p m u xs q n (or_false_r (bars p m x) (list_any (bars p m) xs) b) h
    ]

pub no_two : (a b : Bool) → (a && not b) ≡ false → b ≡ false → a ≡ false
no_two a b h n = apart a b h n

-- a page held exclusively is held by no other ticket
pub apart_pages : (t u : Ticket) → ((u.0 == t.0) ≡ false) → (hs : List Held) (p q : ℕ) (n : Hold) → obeys_rule hs ≡ true → held_by t hs ≡ Some (p, Exclusive) → held_by u hs ≡ Some (q, n) → (q == p) ≡ false
apart_pages t u d [] p q n o ht hu = absurd cc
apart_pages t u d (x ∷ xs) p q n o ht hu =
    let parts = obeys_parts x xs o in
    let Q : Bool → Bool → Type 0 = λ a b. is_of t x ≡ a → is_of u x ≡ b → (if a then Some (x.page, x.mode) else held_by t xs) ≡ Some (p, Exclusive) → (if b then Some (x.page, x.mode) else held_by u xs) ≡ Some (q, n) → (q == p) ≡ false in
    (elim (is_of t x) as (λ a. Q a (is_of u x)) [
      | true ↦ (elim (is_of u x) as (Q true) [
        | true ↦ λ yt yu ht hu. absurd (let et : x.ticket.0 ≡ t.0 = eqb-true x.ticket.0 t.0 yt in let eu : x.ticket.0 ≡ u.0 = eqb-true x.ticket.0 u.0 yu in let z : (u.0 == t.0) ≡ true = eq-eqb u.0 t.0 (sym eu ∙ et) in let w : true ≡ false = sym z ∙ d in cc)
        | false ↦ λ yt yu ht hu.
            let ep : x.page ≡ p = ap page_in ht in
            let em : x.mode ≡ Exclusive = ap mode_in ht in
            let b = barred_by x.page x.mode u xs q n parts.0 hu in
            let b' : ((q == p) && not (are_compatible n Exclusive)) ≡ false = rw (ep, em) at b in
            no_two (q == p) (are_compatible n Exclusive) b' (are_compatible_comm n Exclusive ∙ elim n as (λ m. are_compatible Exclusive m ≡ false) [ Read ↦ refl | Update ↦ refl | Exclusive ↦ refl ])
      ])
      | false ↦ (elim (is_of u x) as (Q false) [
        | true ↦ λ yt yu ht hu.
            let eq : x.page ≡ q = ap page_in hu in
            let b = barred_by x.page x.mode t xs p Exclusive parts.0 ht in
            let c : (p == x.page) ≡ false = no_two (p == x.page) (are_compatible Exclusive x.mode) b (elim x.mode as (λ m. are_compatible Exclusive m ≡ false) [ Read ↦ refl | Update ↦ refl | Exclusive ↦ refl ]) in
            eq_comm q p ∙ (ap (λ k. p == k) (sym eq) ∙ c)
        | false ↦ λ yt yu ht hu. apart_pages t u d xs p q n parts.2 ht hu
      ])
    ]) refl refl ht hu

pub held_by-made_self : (t : Ticket) (hs : List Held) (p : ℕ) (m : Hold) → held_by t hs ≡ Some (p, m) → held_by t (made_exclusive t hs) ≡ Some (p, Exclusive)
held_by-made_self t [] p m = λ h. absurd cc
held_by-made_self t (x ∷ xs) p m =
    let Q : Bool → Type 0 = λ b. is_of t x ≡ b → (if b then Some (x.page, x.mode) else held_by t xs) ≡ Some (p, m) → held_by t (if b then record x { mode = Exclusive } ∷ xs else x ∷ made_exclusive t xs) ≡ Some (p, Exclusive) in
    (elim (is_of t x) as Q [
      | true ↦ λ y h. rw y (ap (λ k. Some (k, Exclusive)) (ap page_in h))
      | false ↦ λ y h. rw y (held_by-made_self t xs p m h)
    ]) refl
