-- The tokens of a pair, written one by one.
use Rattle.std.proofs.Common.{◌≡◌, List, [], ◌∷◌, ◌++◌, ap, ◌∙◌, append_assoc}
use Rattle.json.specs.Token.{Token}

-- a token, a token, some tokens, a token, some tokens and a token
pub joined : (w0 w1 w2 w3 w4 w5 w6 text values : List Token) (b k v e : Token)
    → w1 ≡ w0 ++ b ∷ [] → w2 ≡ w1 ++ k ∷ [] → w3 ≡ w2 ++ text → w4 ≡ w3 ++ v ∷ [] → w5 ≡ w4 ++ values → w6 ≡ w5 ++ e ∷ []
    → w6 ≡ w0 ++ (b ∷ k ∷ (text ++ (v ∷ (values ++ e ∷ []))))
joined w0 w1 w2 w3 w4 w5 w6 text values b k v e p q r s t u =
    let two : w2 ≡ w0 ++ (b ∷ k ∷ []) = q ∙ ap (λ (x : List Token). x ++ k ∷ []) p ∙ append_assoc w0 (b ∷ []) (k ∷ []) in
    let three : w3 ≡ w0 ++ (b ∷ k ∷ text) = r ∙ ap (λ (x : List Token). x ++ text) two ∙ append_assoc w0 (b ∷ k ∷ []) text in
    let four : w4 ≡ w0 ++ (b ∷ k ∷ (text ++ v ∷ [])) = s ∙ ap (λ (x : List Token). x ++ v ∷ []) three ∙ append_assoc w0 (b ∷ k ∷ text) (v ∷ []) in
    let five : w5 ≡ w0 ++ (b ∷ k ∷ (text ++ (v ∷ values))) =
    t ∙ ap (λ (x : List Token). x ++ values) four ∙ append_assoc w0 (b ∷ k ∷ (text ++ v ∷ [])) values
    ∙ ap (λ (x : List Token). w0 ++ (b ∷ k ∷ x)) (append_assoc text (v ∷ []) values) in
    u ∙ ap (λ (x : List Token). x ++ e ∷ []) five ∙ append_assoc w0 (b ∷ k ∷ (text ++ (v ∷ values))) (e ∷ [])
    ∙ ap (λ (x : List Token). w0 ++ (b ∷ k ∷ x)) (append_assoc text (v ∷ values) (e ∷ []))
