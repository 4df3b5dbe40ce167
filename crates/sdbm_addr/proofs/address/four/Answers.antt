use Rattle.std.proofs.Common.{◌≡◌, ℕ, ◌+◌, ◌*◌, ◌%◌, ◌^◌, List, [], ◌∷◌, length, get_or, ap, ◌∙◌, arith}
use Rattle.sdbm_addr.specs.Hash.{byte_weight, hash_of}
use Rattle.sdbm_addr.specs.declared.KeyBytes.{KeyBytes}
use Rattle.sdbm_addr.proofs.address.four.Goals as goal

reduced_sum : (a b c d : ℕ) → (((a * 780587199 % 4294967296 + b * 8261505 % 4294967296) % 4294967296 + c * 65599 % 4294967296) % 4294967296 + d) % 4294967296
    ≡ (a * 65599 ^ 3 + (b * 65599 ^ 2 + (c * 65599 + d))) % 2 ^ 32
reduced_sum a b c d = omega arith

four_is : (kind : KeyBytes) (bytes : List ℕ) → length bytes ≡ 4 → (a b c d : ℕ) → a ≡ byte_weight kind (get_or bytes 0 0) → b ≡ byte_weight kind (get_or bytes 1 0) → c ≡ byte_weight kind (get_or bytes 2 0) → d ≡ byte_weight kind (get_or bytes 3 0)
    → (((a * 780587199 % 4294967296 + b * 8261505 % 4294967296) % 4294967296 + c * 65599 % 4294967296) % 4294967296 + d) % 4294967296 ≡ hash_of kind bytes
unfolding hash_of
four_is kind [] l a b c d e f g h = absurd (omega arith)
four_is kind (v ∷ []) l a b c d e f g h = absurd (omega arith)
four_is kind (v ∷ w ∷ []) l a b c d e f g h = absurd (omega arith)
four_is kind (v ∷ w ∷ x ∷ []) l a b c d e f g h = absurd (omega arith)
four_is kind (v ∷ w ∷ x ∷ y ∷ z ∷ zs) l a b c d e f g h = absurd (omega arith)
four_is kind (v ∷ w ∷ x ∷ y ∷ []) l a b c d e f g h =
    reduced_sum a b c d ∙ ap (λ n. n % 2 ^ 32) (rw (e, f, g, h) (omega arith))

pub returns : goal.returns
returns c = four_is c.args.kind c.args.bytes.now c.requires _ _ _ _ c.weight-first.ensures c.weight-second.ensures c.weight-third.ensures c.weight.ensures
