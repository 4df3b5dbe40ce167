use Rattle.std.proofs.Common.{◌≡◌, ◌∙◌, ◌∷◌, List, ℕ, sym, ap}
use Rattle.dbm_script.specs.Pieces.{pieces_left, pieces_of}
use Rattle.dbm_script.specs.Tasks.{task_of}
use Rattle.dbm_script.proofs.TaskLines.{too_many_for_a_task}
use Rattle.dbm_script.proofs.tasks.read_task.Goals as goal

pub returns-in-Some-rest-3 : goal.returns-in-Some-rest-3
returns-in-Some-rest-3 g c =
    let fourth : pieces_of 32 c.in-Some-rest-2.rest.now ≡ _ = c.first_piece-4.ensures ∙ ap (λ (left : List (List ℕ)). c.first_piece-4.result.0.now ∷ left) (ap (pieces_left 32) c.in-Some-rest-3.is) in
    let third : pieces_of 32 c.in-Some-rest.rest.now ≡ _ = c.first_piece-3.ensures ∙ ap (λ (left : List (List ℕ)). c.first_piece-3.result.0.now ∷ left) (ap (pieces_left 32) c.in-Some-rest-2.is ∙ fourth) in
    let second : pieces_of 32 c.in-Some.rest.now ≡ _ = c.first_piece-2.ensures ∙ ap (λ (left : List (List ℕ)). c.first_piece-2.result.0.now ∷ left) (ap (pieces_left 32) c.in-Some-rest.is ∙ third) in
    let first : pieces_of 32 c.args.line.now ≡ _ = c.first_piece.ensures ∙ ap (λ (left : List (List ℕ)). c.first_piece.result.0.now ∷ left) (ap (pieces_left 32) c.in-Some.is ∙ second) in
    too_many_for_a_task c.args.notation.now c.first_piece.result.0.now c.first_piece-2.result.0.now c.first_piece-3.result.0.now c.first_piece-4.result.0.now c.in-Some-rest-3.field-0.now ∙ ap (task_of c.args.notation.now) (sym first)
