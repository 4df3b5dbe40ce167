use Rattle.std.proofs.Common.{◌≡◌, ◌∙◌, ◌∷◌, List, ℕ, sym, ap}
use Rattle.dbm_script.specs.Pieces.{pieces_left, pieces_of}
use Rattle.dbm_script.specs.Lines.{ask_of}
use Rattle.dbm_script.proofs.Cuts.{too_many_words}
use Rattle.dbm_script.proofs.lines.read_long.Goals as goal

pub returns-in-Some-rest-2 : goal.returns-in-Some-rest-2
returns-in-Some-rest-2 g c =
    let third : pieces_of 32 c.in-Some-rest.rest.now ≡ _ = c.first_piece-3.ensures ∙ ap (λ (left : List (List ℕ)). c.first_piece-3.result.0.now ∷ left) (ap (pieces_left 32) c.in-Some-rest-2.is) in
    let second : pieces_of 32 c.in-Some.rest.now ≡ _ = c.first_piece-2.ensures ∙ ap (λ (left : List (List ℕ)). c.first_piece-2.result.0.now ∷ left) (ap (pieces_left 32) c.in-Some-rest.is ∙ third) in
    let first : pieces_of 32 c.args.rest.now ≡ _ = c.first_piece.ensures ∙ ap (λ (left : List (List ℕ)). c.first_piece.result.0.now ∷ left) (ap (pieces_left 32) c.in-Some.is ∙ second) in
    too_many_words c.args.notation.now c.args.name.now c.args.key.now c.args.prog.now c.first_piece.result.0.now c.first_piece-2.result.0.now c.first_piece-3.result.0.now c.in-Some-rest-2.field-0.now
    ∙ ap (λ (words : List (List ℕ)). ask_of c.args.notation.now (c.args.name.now ∷ c.args.key.now ∷ c.args.prog.now ∷ words)) (sym first)
