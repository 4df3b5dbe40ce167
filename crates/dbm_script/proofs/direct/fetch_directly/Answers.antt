use Rattle.std.proofs.Common.{◌∷◌, true, take, codes}
use Rattle.store_cmd.specs.declared.Command.TheVariants.{Fetch}
use Rattle.dbm_script.specs.Pieces.{pieces_of}
use Rattle.dbm_script.proofs.Directly.{asks_fetch, plain_line}
use Rattle.dbm_script.proofs.direct.fetch_directly.Goals as goal

pub returns : goal.returns
returns g c = λ programs.
    let key = take c.in-Some.count c.read_short.new.room in
    let n = c.args.notation.now in
    plain_line _ n programs (codes "fetch" ∷ pieces_of 32 c.args.word.now) (Fetch key) true c.args.image.now c.args.image.now c.args.text.now.items c.answer_fetch.new.text.items
    (asks_fetch n c.args.word.now key c.requires c.in-Some.ensures.bytes) c.in_ok-answer_fetch.ensures
