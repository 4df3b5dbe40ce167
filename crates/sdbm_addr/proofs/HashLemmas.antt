-- The hash of a key with one more byte: the previous sum is multiplied by 65599.
use Rattle.std.proofs.Common.{◌≡◌, ℕ, suc, ◌+◌, ◌*◌, ◌^◌, List, [], ◌∷◌, ◌++◌, length, sym, ap, ◌∙◌, arith, length-append}
use Rattle.std.proofs.Math.Nat.{pow-suc, add-mul, mul_assoc}
use Rattle.std.proofs.lemmas.Nat.{pow-add}
use Rattle.sdbm_addr.specs.declared.KeyBytes.{KeyBytes}
use Rattle.sdbm_addr.specs.Hash.{byte_weight, weighted_sum}

one_more : (n : ℕ) → n + 1 ≡ suc n
one_more n = omega arith

moved : (w p s b : ℕ) → w * (p * 65599) + (s * 65599 + b) ≡ (w * p + s) * 65599 + b
moved w p s b = omega arith

pub weighted_sum-push : (kind : KeyBytes) (xs : List ℕ) (b : ℕ) → weighted_sum kind (xs ++ b ∷ []) ≡ weighted_sum kind xs * 65599 + byte_weight kind b
weighted_sum-push kind [] b = omega arith
weighted_sum-push kind (x ∷ xs) b =
    let long : length (xs ++ b ∷ []) ≡ length xs + 1 = length-append xs (b ∷ []) in
    let more : 65599 ^ length (xs ++ b ∷ []) ≡ 65599 ^ length xs * 65599 = ap (λ n. 65599 ^ n) (long ∙ one_more (length xs)) ∙ pow-suc 65599 (length xs) in
    ap (λ p. byte_weight kind x * p + weighted_sum kind (xs ++ b ∷ [])) more
    ∙ ap (λ s. byte_weight kind x * (65599 ^ length xs * 65599) + s) (weighted_sum-push kind xs b)
    ∙ moved (byte_weight kind x) (65599 ^ length xs) (weighted_sum kind xs) (byte_weight kind b)

-- the sum of a concatenation: the first part's sum is multiplied by 65599 for each byte of the second part
regroup : (w a p s t : ℕ) → w * (a * p) + (s * p + t) ≡ (w * a + s) * p + t
regroup w a p s t =
    let both : (w * a + s) * p ≡ w * (a * p) + s * p = add-mul (w * a) s p ∙ ap (λ y. y + s * p) (mul_assoc w a p) in
    let moved_t : w * (a * p) + (s * p + t) ≡ w * (a * p) + s * p + t = omega arith in
    moved_t ∙ sym (ap (λ y. y + t) both)

pub weighted_sum-append : (kind : KeyBytes) (xs ys : List ℕ) → weighted_sum kind (xs ++ ys) ≡ weighted_sum kind xs * 65599 ^ length ys + weighted_sum kind ys
weighted_sum-append kind [] ys = omega arith
weighted_sum-append kind (x ∷ xs) ys =
    let more : 65599 ^ length (xs ++ ys) ≡ 65599 ^ length xs * 65599 ^ length ys = ap (λ n. 65599 ^ n) (length-append xs ys) ∙ pow-add 65599 (length xs) (length ys) in
    ap (λ p. byte_weight kind x * p + weighted_sum kind (xs ++ ys)) more
    ∙ ap (λ s. byte_weight kind x * (65599 ^ length xs * 65599 ^ length ys) + s) (weighted_sum-append kind xs ys)
    ∙ regroup (byte_weight kind x) (65599 ^ length xs) (65599 ^ length ys) (weighted_sum kind xs) (weighted_sum kind ys)
