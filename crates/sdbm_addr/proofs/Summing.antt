-- Loop steps of the hash: the sum so far times 65599 to the number of bytes left, plus the sum of the bytes left.
use Rattle.std.proofs.Common.{◌≡◌, ℕ, ◌+◌, ◌-◌, ◌*◌, ◌%◌, ◌^◌, ◌<◌, ◌≤◌, List, ◌++◌, length, get_or, take, drop, slice_range, sym, ap, ◌∙◌, arith, length-append}
use Rattle.std.proofs.Math.Nat.{add-mod, mod-add-mod, add-mul, mul_assoc, pow-suc, mul_comm}
use Rattle.std.proofs.lemmas.List.{drop_more, drop_all, length-drop, take-append-drop}
use Rattle.std.proofs.lemmas.List.Folds.{drop_split}
use Rattle.std.proofs.lemmas.Nat.{mul-mod_first, mul-mod_second, pow-add}
use Rattle.sdbm_addr.specs.Hash.{byte_weight, weighted_sum, hash_of}
use Rattle.sdbm_addr.specs.declared.KeyBytes.{KeyBytes}
use Rattle.sdbm_addr.proofs.HashLemmas.{weighted_sum-append}

-- reducing a factor or a term first does not change the result
reduced : (x p s m : ℕ) → (x % m * p + s) % m ≡ (x * p + s) % m
reduced x p s m = sym (mod-add-mod (x % m * p) m s) ∙ ap (λ y. (y + s) % m) (mul-mod_first x p m) ∙ mod-add-mod (x * p) m s

spread : (h b w p s m : ℕ) → ((h * b + w) % m * p + s) % m ≡ (h * (b * p) + (w * p + s)) % m
spread h b w p s m =
    reduced (h * b + w) p s m
    ∙ ap (λ y. (y + s) % m) (add-mul (h * b) w p ∙ ap (λ y. y + w * p) (mul_assoc h b p)) ∙ ap (λ y. y % m) (omega arith)

-- one more byte
step : (h b w p s m : ℕ) → ((h * b % m + w) % m * p + s) % m ≡ (h * (b * p) + (w * p + s)) % m
step h b w p s m = ap (λ y. (y * p + s) % m) (mod-add-mod (h * b) m w) ∙ spread h b w p s m

-- four more bytes
leap : (h b w p s m : ℕ) → ((h * (b % m) % m + w % m) % m * p + s) % m ≡ (h * (b * p) + (w * p + s)) % m
leap h b w p s m =
    ap (λ y. ((y + w % m) % m * p + s) % m) (mul-mod_second h b m) ∙ ap (λ y. (y * p + s) % m) (sym (add-mod (h * b) w m)) ∙ spread h b w p s m

pub kept_four : (kind : KeyBytes) (key : List ℕ) (at h w : ℕ) → at + 4 ≤ length key → w ≡ hash_of kind (slice_range key at (at + 4))
    → ((h * 1139564289 % 2 ^ 32 + w) % 2 ^ 32 * 65599 ^ length (drop (at + 4) key) + weighted_sum kind (drop (at + 4) key)) % 2 ^ 32
    ≡ (h * 65599 ^ length (drop at key) + weighted_sum kind (drop at key)) % 2 ^ 32
unfolding hash_of
kept_four kind key at h w l e =
    let rest = drop (at + 4) key in
    let four = slice_range key at (at + 4) in
    let parts : drop at key ≡ four ++ rest = drop_split key at (at + 4) (omega arith) in
    let whole : length (drop at key) ≡ length four + length rest = ap length parts ∙ length-append four rest in
    let longer : length (drop at key) ≡ length key - at = length-drop at key in
    let shorter : length rest ≡ length key - (at + 4) = length-drop (at + 4) key in
    let long : length (drop at key) ≡ 4 + length rest = omega arith in
    ap (λ x. ((h * 1139564289 % 2 ^ 32 + x) % 2 ^ 32 * 65599 ^ length rest + weighted_sum kind rest) % 2 ^ 32) e
    ∙ leap h (65599 ^ 4) (weighted_sum kind four) (65599 ^ length rest) (weighted_sum kind rest) (2 ^ 32)
    ∙ ap (λ y. (h * y + (weighted_sum kind four * 65599 ^ length rest + weighted_sum kind rest)) % 2 ^ 32) (sym (ap (λ n. 65599 ^ n) long ∙ pow-add 65599 4 (length rest)))
    ∙ ap (λ y. (h * 65599 ^ length (drop at key) + y) % 2 ^ 32) (sym (ap (weighted_sum kind) parts ∙ weighted_sum-append kind four rest))

-- the loop step for one byte
pub kept : (kind : KeyBytes) (key : List ℕ) (i h b w : ℕ) → i < length key → b ≡ get_or key i 0 → w ≡ byte_weight kind b
    → ((h * 65599 % 2 ^ 32 + w) % 2 ^ 32 * 65599 ^ length (drop (i + 1) key) + weighted_sum kind (drop (i + 1) key)) % 2 ^ 32
    ≡ (h * 65599 ^ length (drop i key) + weighted_sum kind (drop i key)) % 2 ^ 32
kept kind key i h b w l e f =
    let rest = drop (i + 1) key in
    rw (drop_more key i 0 l, ← e, ← f)
    (step h 65599 w (65599 ^ length rest) (weighted_sum kind rest) (2 ^ 32)
    ∙ ap (λ y. (h * y + (w * 65599 ^ length rest + weighted_sum kind rest)) % 2 ^ 32) (mul_comm 65599 (65599 ^ length rest) ∙ sym (pow-suc 65599 (length rest))))

pub ended : (kind : KeyBytes) (key : List ℕ) (i h : ℕ) → length key ≤ i → h < 2 ^ 32
    → (h * 65599 ^ length (drop i key) + weighted_sum kind (drop i key)) % 2 ^ 32 ≡ weighted_sum kind key % 2 ^ 32 → h ≡ hash_of kind key
unfolding hash_of
ended kind key i h e small inv = let at_end = rw (drop_all i key e) at inv in omega arith

-- the hash of the first n bytes, and the bytes left
pub begun : (kind : KeyBytes) (key : List ℕ) (n h : ℕ) → h ≡ hash_of kind (take n key)
    → (h * 65599 ^ length (drop n key) + weighted_sum kind (drop n key)) % 2 ^ 32 ≡ weighted_sum kind key % 2 ^ 32
unfolding hash_of
begun kind key n h is =
    ap (λ x. (x * 65599 ^ length (drop n key) + weighted_sum kind (drop n key)) % 2 ^ 32) is
    ∙ reduced (weighted_sum kind (take n key)) (65599 ^ length (drop n key)) (weighted_sum kind (drop n key)) (2 ^ 32)
    ∙ ap (λ x. x % 2 ^ 32) (sym (weighted_sum-append kind (take n key) (drop n key)) ∙ ap (weighted_sum kind) (take-append-drop n key))
