-- Taking replies from lists in turn.
use Rattle.std.proofs.Common.{subst, inl, inr, ◌≡◌, ◌∙◌, sym, ap, ◌∷◌, [], length, ◌<◌, ◌+◌, ℕ, ◌++◌, arith, List, refl, eq-eqb}
use Rattle.std.specs.Vec.Iter.{into_iter_items, into_iter_steps}
use Rattle.std.specs.declared.vec.IntoIter.{IntoIter}
use Rattle.std.specs.Prelude.{Option, Some, map, ◌%◌, ◌==◌, ◌≢◌, take, set, slice_index_or}
use Rattle.std.proofs.lemmas.List.{map-append, append-nil, append_assoc, length-append, length-take-le, nil_from_length, get_or-set_same, get_or-set_other}
use Rattle.std.proofs.lemmas.Nat.{mod_below}
use Rattle.std.proofs.lemmas.Bool.{cases_eq, eqb-true, false_from_ne_true}
use Rattle.worker_pool.specs.Shares.{share_of}
use Rattle.worker_pool.proofs.ShareLemmas.{some_of, share_nil, share_push, share_length, share_front, share_take}

-- the elements taken so far from each list are its share, and the rest of the list follows
abbrev pub AreTaken : {X S : Type 0} → (S → List X) → ℕ → List X → List S → List S → Type 0
AreTaken {X} {S} view k taken lists whole = (w : ℕ) (d : S) → w < k → share_of k w taken ++ view (slice_index_or lists w d) ≡ view (slice_index_or whole w d)

-- one more is taken, from the list whose turn it is
pub taken_more : {X S : Type 0} (view : S → List X) (k : ℕ) (taken : List X) (lists whole : List S) (x : X) (rest : S) → length lists ≡ k → 0 < k
    → ((d : S) → view (slice_index_or lists (length taken % k) d) ≡ x ∷ view rest)
    → AreTaken view k taken lists whole → AreTaken view k (taken ++ x ∷ []) (set lists (length taken % k) rest) whole
taken_more {X} {S} view k taken lists whole x rest count some step before w d within =
    let turn = length taken % k in
    let near : turn < length lists = let small : turn < k = mod_below (length taken) k some in omega arith in
    elim (cases_eq turn w) [
      | inl its_own ↦
          let pushed : share_of k w (taken ++ x ∷ []) ≡ share_of k w taken ++ x ∷ [] = share_push k w taken x ∙ rw (eq-eqb turn w its_own) refl in
          let here : view (slice_index_or (set lists turn rest) w d) ≡ view rest = ap (λ n. view (slice_index_or (set lists turn rest) n d)) (sym its_own) ∙ ap view (get_or-set_same lists turn rest d near) in
          let was : view (slice_index_or lists w d) ≡ x ∷ view rest = ap (λ n. view (slice_index_or lists n d)) (sym its_own) ∙ step d in
          ap (λ ys. ys ++ view (slice_index_or (set lists turn rest) w d)) pushed ∙ (ap (λ ys. (share_of k w taken ++ x ∷ []) ++ ys) here ∙ (append_assoc (share_of k w taken) (x ∷ []) (view rest) ∙ (ap (λ ys. share_of k w taken ++ ys) (sym was) ∙ before w d within)))
      | inr other ↦
          let pushed : share_of k w (taken ++ x ∷ []) ≡ share_of k w taken = share_push k w taken x ∙ rw (false_from_ne_true (turn == w) (λ is. other (eqb-true turn w is))) (append-nil (share_of k w taken)) in
          let apart : w ≢ turn = λ e. other (sym e) in
          let same : view (slice_index_or (set lists turn rest) w d) ≡ view (slice_index_or lists w d) = ap view (get_or-set_other lists turn w rest d apart) in
          ap (λ ys. ys ++ view (slice_index_or (set lists turn rest) w d)) pushed ∙ (ap (λ ys. share_of k w taken ++ ys) same ∙ before w d within)
    ]

-- while elements are left, the list whose turn it is isn't empty
pub taken_not_all : {X Y S : Type 0} (view : S → List X) (k : ℕ) (taken : List X) (all : List Y) (lists whole : List S) (d : S) → 0 < k → length taken < length all
    → ((w : ℕ) (d : S) → w < k → length (view (slice_index_or whole w d)) ≡ length (share_of k w all))
    → AreTaken view k taken lists whole → view (slice_index_or lists (length taken % k) d) ≡ [] → ⊥
taken_not_all {X} {Y} {S} view k taken all lists whole d some more long before none =
    let t : Y = some_of all (length taken) more in
    let w = length taken % k in
    let small : w < k = mod_below (length taken) k some in
    let n = length taken in
    let short : length (take n all) ≡ n = length-take-le n all (omega arith) in
    let same : length (share_of k w taken) ≡ length (share_of k w (take n all)) = share_length k w taken (take n all) (sym short) in
    let next : length (share_of k w (take (n + 1) all)) ≡ length (share_of k w (take n all)) + 1 = ap length (share_take k w all n t more (eq-eqb w w refl)) ∙ length-append (share_of k w (take n all)) (slice_index_or all n t ∷ []) in
    let front = share_front k w (n + 1) all in
    let whole_is : length (share_of k w taken) ≡ length (view (slice_index_or whole w d)) = ap length (sym (append-nil (share_of k w taken)) ∙ (ap (λ ys. share_of k w taken ++ ys) (sym none) ∙ before w d small)) in
    let count = long w d small in
    omega arith

-- once all elements are taken, each list was its share of them
pub taken_all : {X Y S : Type 0} (view : S → List X) (k : ℕ) (taken : List X) (all : List Y) (lists whole : List S) → length taken ≡ length all
    → ((w : ℕ) (d : S) → w < k → length (view (slice_index_or whole w d)) ≡ length (share_of k w all))
    → AreTaken view k taken lists whole → (w : ℕ) (d : S) → w < k → share_of k w taken ≡ view (slice_index_or whole w d)
taken_all view k taken all lists whole count long before w d within =
    let same = share_length k w taken all count in
    let sum : length (share_of k w taken) + length (view (slice_index_or lists w d)) ≡ length (view (slice_index_or whole w d)) = sym (length-append (share_of k w taken) (view (slice_index_or lists w d))) ∙ ap length (before w d within) in
    let whole_is = long w d within in
    let none : view (slice_index_or lists w d) ≡ [] = nil_from_length (view (slice_index_or lists w d)) (omega arith) in
    sym (append-nil (share_of k w taken)) ∙ (ap (λ ys. share_of k w taken ++ ys) (sym none) ∙ before w d within)

-- at first, no elements are taken
pub taken_none : {X S : Type 0} (view : S → List X) (k : ℕ) (lists : List S) → AreTaken view k [] lists lists
taken_none {X} view k lists w d within = ap (λ (ys : List X). ys ++ view (slice_index_or lists w d)) (share_nil {X = X} k w)

-- ---- the same at an index

pub taken_next : {X S : Type 0} (view : S → List X) (k at : ℕ) (taken : List X) (lists whole : List S) (x : X) (rest : S) → length taken ≡ at → length lists ≡ k → 0 < k
    → ((d : S) → view (slice_index_or lists (at % k) d) ≡ x ∷ view rest)
    → AreTaken view k taken lists whole → AreTaken view k (taken ++ x ∷ []) (set lists (at % k) rest) whole
taken_next {X} {S} view k at taken lists whole x rest same count some =
    subst (λ n. ((d : S) → view (slice_index_or lists (n % k) d) ≡ x ∷ view rest) → AreTaken view k taken lists whole → AreTaken view k (taken ++ x ∷ []) (set lists (n % k) rest) whole) same (taken_more view k taken lists whole x rest count some)

pub taken_some : {X Y S : Type 0} (view : S → List X) (k at : ℕ) (taken : List X) (all : List Y) (lists whole : List S) (d : S) → length taken ≡ at → 0 < k → at < length all
    → ((w : ℕ) (d : S) → w < k → length (view (slice_index_or whole w d)) ≡ length (share_of k w all))
    → AreTaken view k taken lists whole → view (slice_index_or lists (at % k) d) ≡ [] → ⊥
taken_some {X} {Y} {S} view k at taken all lists whole d same some more long before none =
    taken_not_all view k taken all lists whole d some (omega arith) long before (ap (λ n. view (slice_index_or lists (n % k) d)) same ∙ none)

-- ---- the next element of a list

pub next_some : {X Z : Type 0} (old : IntoIter X Z) (r : Option X) (new : IntoIter X Z) (x : X) → r ≡ Some x → into_iter_steps old r new → into_iter_items old ≡ x ∷ into_iter_items new
next_some {X} {Z} old r new x is step = (subst (λ o. into_iter_steps old o new) is step).0

-- ---- elements moved from one list to another

pub moved_view : {X Y Z : Type 0} (v : X → Y) (f : Z → Y) (items items' : List X) (x : X) (z : Z) (left rest : List Z) (whole : List Y) → items' ≡ items ++ x ∷ [] → left ≡ z ∷ rest → v x ≡ f z → map v items ++ map f left ≡ whole → map v items' ++ map f rest ≡ whole
moved_view v f items items' x z left rest whole pushed step same before =
    ap (λ xs. map v xs ++ map f rest) pushed ∙ (ap (λ ys. ys ++ map f rest) (map-append v items (x ∷ [])) ∙ (append_assoc (map v items) (v x ∷ []) (map f rest) ∙ (ap (λ y. map v items ++ y ∷ map f rest) same ∙ (ap (λ zs. map v items ++ map f zs) (sym step) ∙ before))))

pub moved : {Y Z : Type 0} (f : Z → Y) (items items' : List Y) (y : Y) (z : Z) (left rest : List Z) (whole : List Y) → items' ≡ items ++ y ∷ [] → left ≡ z ∷ rest → y ≡ f z → items ++ map f left ≡ whole → items' ++ map f rest ≡ whole
moved f items items' y z left rest whole pushed step same before =
    ap (λ ys. ys ++ map f rest) pushed ∙ (append_assoc items (y ∷ []) (map f rest) ∙ (ap (λ u. items ++ u ∷ map f rest) same ∙ (ap (λ zs. items ++ map f zs) (sym step) ∙ before)))

pub moved_all : {Y Z : Type 0} (f : Z → Y) (items : List Y) (left : List Z) (whole : List Y) → left ≡ [] → items ++ map f left ≡ whole → items ≡ whole
moved_all f items left whole none before = sym (append-nil items) ∙ (ap (λ zs. items ++ map f zs) (sym none) ∙ before)
