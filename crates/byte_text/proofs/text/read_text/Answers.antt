use Rattle.std.proofs.Common.{◌≡◌, ◌∙◌, ◌∷◌, ℕ, List, Bool, true, Some, ap, subst}
use Rattle.byte_text.specs.Text.{all_bytes, bytes_of_text, joined, part_bytes, parts_left, Puts}
use Rattle.byte_text.proofs.Steps.{got_part}
use Rattle.byte_text.proofs.text.read_text.Goals as goal

pub loop-rest-preserved : goal.loop-rest-preserved
loop-rest-preserved g c =
    let part = c.first_part.result.0.now in
    let after = c.first_part.result.1 in
    let old = c.loop-rest.bytes.items in
    let new = c.read_part.new.bytes.items in
    let left : parts_left c.loop-rest.rest ≡ part ∷ parts_left after = ap parts_left c.in-Some.is ∙ c.first_part.ensures in
    let puts : Puts (part_bytes part) true old new = subst (λ (good : Bool). Puts (part_bytes part) good old new) c.if-not-branch.false c.in_ok-read_part.ensures in
    got_part (bytes_of_text c.args.text.now) old new part (parts_left after)
    (c.loop-rest.invariant ∙ ap (λ (parts : List (List ℕ)). joined (Some old) (all_bytes parts)) left) puts
