use Rattle.std.proofs.Common.{◌≡◌, ◌∙◌, ◌++◌, ◌∷◌, [], ◌-◌, ◌/◌, ◌%◌, ◌<◌, ℕ, List, ap, sym, append_assoc, rules}
use Rattle.byte_text.specs.Numbers.{low_bytes}
use Rattle.byte_text.proofs.LowBytes.{low_bytes-some}
use Rattle.byte_text.proofs.numbers.put_number.Goals as goal

pub loop-places-preserved : goal.loop-places-preserved
loop-places-preserved g c =
    let places = c.loop-places.places in
    let left = c.loop-places.left in
    let some : 0 < places = search rules in
    let pushed : c.push.new.self.items ≡ c.loop-places.bytes.items ++ (left % 256 ∷ []) = search rules in
    ap (λ (xs : List ℕ). xs ++ low_bytes (places - 1) (left / 256)) pushed
    ∙ append_assoc c.loop-places.bytes.items (left % 256 ∷ []) (low_bytes (places - 1) (left / 256))
    ∙ ap (λ (xs : List ℕ). c.loop-places.bytes.items ++ xs) (sym (low_bytes-some places left some))
    ∙ c.loop-places.invariant
