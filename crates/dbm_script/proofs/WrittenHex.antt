-- Writing bytes in hex one after the other.
use Rattle.std.proofs.Common.{◌≡◌, ◌∙◌, ℕ, ◌+◌, ◌/◌, ◌%◌, ◌<◌, List, [], ◌∷◌, ◌++◌, length, take, slice_index, sym, ap, refl}
use Rattle.std.proofs.lemmas.List.{append_assoc, append-nil, take_more}
use Rattle.hex.specs.Hex.{encode_with}

-- appending a byte
pub encode_behind : (t xs : List ℕ) (b : ℕ) → encode_with t (xs ++ b ∷ []) ≡ encode_with t xs ++ (slice_index t (b / 16) ∷ slice_index t (b % 16) ∷ [])
unfolding encode_with
encode_behind t [] b = refl
encode_behind t (x ∷ xs) b = ap (λ (rest : List ℕ). slice_index t (x / 16) ∷ slice_index t (x % 16) ∷ rest) (encode_behind t xs b)

-- writing no bytes
pub written_none : (t before : List ℕ) → before ≡ before ++ encode_with t []
unfolding encode_with
written_none t before = sym (append-nil before)

-- writing one more byte
pub written_more : (t bytes before text : List ℕ) (i high low : ℕ) → i < length bytes → high ≡ slice_index bytes i / 16 → low ≡ slice_index bytes i % 16
    → text ≡ before ++ encode_with t (take i bytes) → (text ++ slice_index t high ∷ []) ++ slice_index t low ∷ [] ≡ before ++ encode_with t (take (i + 1) bytes)
written_more t bytes before text i high low within eh el so =
    let b = slice_index bytes i in
    let two : List ℕ = slice_index t (b / 16) ∷ slice_index t (b % 16) ∷ [] in
    let more : encode_with t (take (i + 1) bytes) ≡ encode_with t (take i bytes) ++ two = ap (encode_with t) (take_more bytes i 0 within) ∙ encode_behind t (take i bytes) b in
    let digits : (text ++ slice_index t high ∷ []) ++ slice_index t low ∷ [] ≡ (text ++ slice_index t (b / 16) ∷ []) ++ slice_index t (b % 16) ∷ [] =
    ap (λ (n : ℕ). (text ++ slice_index t n ∷ []) ++ slice_index t low ∷ []) eh ∙ ap (λ (n : ℕ). (text ++ slice_index t (b / 16) ∷ []) ++ slice_index t n ∷ []) el in
    digits ∙ (append_assoc text (slice_index t (b / 16) ∷ []) (slice_index t (b % 16) ∷ [])
    ∙ (ap (λ (xs : List ℕ). xs ++ two) so ∙ (append_assoc before (encode_with t (take i bytes)) two ∙ ap (λ (xs : List ℕ). before ++ xs) (sym more))))
