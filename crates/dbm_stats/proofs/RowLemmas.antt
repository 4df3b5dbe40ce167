-- Lemmas on texts made of rows.
use Rattle.std.proofs.Common.{◌≡◌, ℕ, ◌+◌, ◌<◌, List, [], ◌∷◌, ◌++◌, length, get_or, map as map_list, append_assoc, sym, ap, ◌∙◌, arith}
use Rattle.std.proofs.lemmas.List.{append-nil}
use Rattle.std.proofs.lemmas.List.Concat.{flat_map-append}
use Rattle.std.proofs.lemmas.List.FromFn.{map-range_with_len_more}
use Rattle.std.proofs.lemmas.List.Folds.{flat_map-map}
use Rattle.std.specs.List.{flat_map, range_with_len}

-- appending the row of the next number
pub rows_more : (f : ℕ → List ℕ) (n : ℕ) → flat_map f (range_with_len 0 (n + 1)) ≡ flat_map f (range_with_len 0 n) ++ f n
rows_more f n =
    sym (flat_map-map (λ (k : ℕ). f k) (λ (k : ℕ). k) (range_with_len 0 (n + 1)))
    ∙ ap (flat_map f) (map-range_with_len_more (λ (k : ℕ). k) 0 n n (omega arith))
    ∙ flat_map-append f (map_list (λ (k : ℕ). k) (range_with_len 0 n)) (n ∷ [])
    ∙ ap (λ (text : List ℕ). text ++ flat_map f (n ∷ [])) (flat_map-map (λ (k : ℕ). f k) (λ (k : ℕ). k) (range_with_len 0 n))
    ∙ ap (λ (text : List ℕ). flat_map f (range_with_len 0 n) ++ text) (append-nil (f n))

pub text_more : (old start now row : List ℕ) (f : ℕ → List ℕ) (n : ℕ) → now ≡ old ++ row → old ≡ start ++ flat_map f (range_with_len 0 n) → row ≡ f n
    → now ≡ start ++ flat_map f (range_with_len 0 (n + 1))
text_more old start now row f n more is this =
    more ∙ ap (λ (text : List ℕ). text ++ row) is ∙ ap (λ (text : List ℕ). (start ++ flat_map f (range_with_len 0 n)) ++ text) this
    ∙ append_assoc start (flat_map f (range_with_len 0 n)) (f n) ∙ ap (λ (text : List ℕ). start ++ text) (sym (rows_more f n))

-- a text made of seven consecutive parts
pub seven_parts : (t0 t1 t2 t3 t4 t5 t6 t7 a b c d e f g : List ℕ) → t0 ≡ [] → t1 ≡ t0 ++ a → t2 ≡ t1 ++ b → t3 ≡ t2 ++ c → t4 ≡ t3 ++ d → t5 ≡ t4 ++ e → t6 ≡ t5 ++ f → t7 ≡ t6 ++ g
    → t7 ≡ a ++ b ++ c ++ d ++ e ++ f ++ g
seven_parts t0 t1 t2 t3 t4 t5 t6 t7 a b c d e f g none p q r s t u v =
    v ∙ ap (λ (x : List ℕ). x ++ g) (u ∙ ap (λ (x : List ℕ). x ++ f) (t ∙ ap (λ (x : List ℕ). x ++ e)
    (s ∙ ap (λ (x : List ℕ). x ++ d) (r ∙ ap (λ (x : List ℕ). x ++ c) (q ∙ ap (λ (x : List ℕ). x ++ b) (p ∙ ap (λ (x : List ℕ). x ++ a) none))))))
