-- The value of a key in the pairs with which a store was opened.
use Rattle.std.proofs.Common.{ℕ, ◌≡◌, ◌≢◌, ◌↔◌, IsTrue, ◌+◌, ◌<◌, ◌≤◌, sym, ap, ◌∙◌, subst, List, [], ◌∷◌, length, drop, slice_index_or, Option, Some, None, Bool, true, false, cond}
use Rattle.std.specs.FinMap as map
use Rattle.std.specs.Cmp.Lexicographic.{nat_list_cmp_total}
use Rattle.std.proofs.lemmas.List.{drop_more, drop_all}
use Rattle.std.proofs.lemmas.Option.{same_Some}
use Rattle.sdbm_addr.specs.Pairs.{Pair, key_cmp, same_key, value_of}
use Rattle.sdbm_addr.proofs.PairLemmas.{same_key-refl}
use Rattle.bpf_helpers.specs.Runs.{AreBytes, record_limit}
use Rattle.stock_histories.specs.Turns.{IsRecord}
use Rattle.stock_histories.proofs.Projected.{other_key}

-- The value is not among the pairs before this place.
abbrev pub IsFrom : List Pair → List ℕ → ℕ → Type 0
IsFrom pairs key i = value_of pairs key ≡ value_of (drop i pairs) key

in_map : (pairs : List Pair) (key : List ℕ) → map.get (map.from_entries {R = key_cmp} pairs) key ≡ value_of pairs key
in_map pairs key = map.get-from_entries nat_list_cmp_total pairs key

first_value : (e : Pair) (pairs : List Pair) (key : List ℕ) (b : Bool) → same_key key e.0 ≡ b → value_of (e ∷ pairs) key ≡ cond b (Some e.1) (value_of pairs key)
first_value e pairs key b is = ap (λ (x : Bool). cond x (Some e.1) (value_of pairs key)) is

pub from_next : (pairs : List Pair) (key : List ℕ) (i : ℕ) (d e : Pair) → i < length pairs → e ≡ slice_index_or pairs i d → e.0 ≢ key → IsFrom pairs key i
    → IsFrom pairs key (i + 1)
from_next pairs key i d e lt is apart from =
    let more : drop i pairs ≡ e ∷ drop (i + 1) pairs = drop_more pairs i d lt ∙ ap (λ x. x ∷ drop (i + 1) pairs) (sym is) in
    from ∙ ap (λ x. value_of x key) more ∙ first_value e (drop (i + 1) pairs) key false (other_key e.0 key apart)

value_here : (pairs : List Pair) (key : List ℕ) (i : ℕ) (d e : Pair) → i < length pairs → e ≡ slice_index_or pairs i d → e.0 ≡ key → IsFrom pairs key i
    → map.get (map.from_entries {R = key_cmp} pairs) key ≡ Some e.1
value_here pairs key i d e lt is same from =
    let more : drop i pairs ≡ e ∷ drop (i + 1) pairs = drop_more pairs i d lt ∙ ap (λ x. x ∷ drop (i + 1) pairs) (sym is) in
    in_map pairs key ∙ from ∙ ap (λ x. value_of x key) more
    ∙ first_value e (drop (i + 1) pairs) key true (ap (λ (k : List ℕ). same_key key k) same ∙ same_key-refl key)

pub is_here : (pairs : List Pair) (key : List ℕ) (i : ℕ) (d e : Pair) → i < length pairs → e ≡ slice_index_or pairs i d → e.0 ≡ key → IsFrom pairs key i
    → (b : Bool) → IsTrue b ↔ (AreBytes e.1 × (length e.1 ≤ record_limit)) → IsTrue b ↔ IsRecord (map.get (map.from_entries {R = key_cmp} pairs) key)
is_here pairs key i d e lt is same from b h = (
  (λ yes value there. subst (λ (v : List ℕ). AreBytes v × (length v ≤ record_limit)) (same_Some _ _ (sym (value_here pairs key i d e lt is same from) ∙ there)) (h.0 yes)),
  (λ all. h.1 (all e.1 (value_here pairs key i d e lt is same from))),
)

pub is_absent : (pairs : List Pair) (key : List ℕ) (i : ℕ) → length pairs ≤ i → IsFrom pairs key i → IsRecord (map.get (map.from_entries {R = key_cmp} pairs) key)
is_absent pairs key i le from value there =
    let none : map.get (map.from_entries {R = key_cmp} pairs) key ≡ None = in_map pairs key ∙ from ∙ ap (λ x. value_of x key) (drop_all i pairs le) in
    let no : None ≡ Some value = sym none ∙ there in
    absurd cc
