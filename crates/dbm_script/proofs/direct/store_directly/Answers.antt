use Rattle.std.proofs.Common.{◌≡◌, ◌∙◌, ◌∷◌, List, ℕ, take, ap}
use Rattle.std.proofs.lemmas.Result.{IfOk-weaker}
use Rattle.store_cmd.specs.declared.Command.TheVariants.{Store}
use Rattle.dbm_script.specs.Direct.{store_name}
use Rattle.dbm_script.specs.Pieces.{pieces_left, pieces_of}
use Rattle.dbm_script.proofs.Directly.{asks_store, plain_line}
use Rattle.dbm_script.proofs.direct.store_directly.Goals as goal

pub returns-clause-done : goal.returns-clause-done
returns-clause-done g c =
    let n = c.args.notation.now in
    let key = take c.in-Some-read_short.key_count c.read_short.new.room in
    let value = take c.in-Some-read_short-2.value_count c.read_short-2.new.room in
    let cut : pieces_of 32 c.args.words.now ≡ c.first_piece.result.0.now ∷ pieces_of 32 c.in-Some.value.now = c.first_piece.ensures ∙ ap (λ (left : List (List ℕ)). c.first_piece.result.0.now ∷ left) (ap (pieces_left 32) c.in-Some.is) in
    let asks = asks_store n c.args.mode c.args.words.now c.first_piece.result.0.now c.in-Some.value.now key value c.requires cut c.in-Some-read_short.ensures.bytes c.in-Some-read_short-2.ensures.bytes in
    IfOk-weaker c.answer_store.result _ _
    (λ done answered programs. plain_line _ n programs (store_name c.args.mode ∷ pieces_of 32 c.args.words.now) (Store key value c.args.mode) done c.args.image.now c.answer_store.new.image c.args.text.now.items c.answer_store.new.text.items asks (answered n))
    c.answer_store.ensures.done
