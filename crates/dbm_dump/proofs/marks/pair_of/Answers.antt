use Rattle.std.proofs.Common.{◌≡◌, ◌∙◌, ◌∷◌, List, ℕ, sym, ap}
use Rattle.dbm_script.specs.Pieces.{pieces_left, pieces_of}
use Rattle.dbm_dump.specs.Marks.{pair_in}
use Rattle.dbm_dump.proofs.MoreMarks.{too_many}
use Rattle.dbm_dump.proofs.marks.pair_of.Goals as goal

pub returns-in-Some-rest : goal.returns-in-Some-rest
returns-in-Some-rest c =
    let second : pieces_of 32 c.in-Some.rest.now ≡ _ = c.first_piece-2.ensures ∙ ap (λ (left : List (List ℕ)). c.first_piece-2.result.0.now ∷ left) (ap (pieces_left 32) c.in-Some-rest.is) in
    let first : pieces_of 32 c.args.line.now ≡ _ = c.first_piece.ensures ∙ ap (λ (left : List (List ℕ)). c.first_piece.result.0.now ∷ left) (ap (pieces_left 32) c.in-Some.is ∙ second) in
    too_many c.first_piece.result.0.now c.first_piece-2.result.0.now c.in-Some-rest.field-0.now ∙ ap pair_in (sym first)
