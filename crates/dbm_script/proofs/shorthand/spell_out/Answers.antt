use Rattle.std.proofs.Common.{◌≡◌, ◌∙◌, ◌∷◌, ap, is_some, true, rules}
use Rattle.dbm_script.specs.Pieces.{pieces_left, pieces_of}
use Rattle.dbm_script.specs.Shorthand.{spelled_text, spelled_line}
use Rattle.dbm_script.proofs.LinesStay.{lines_stay}
use Rattle.dbm_script.proofs.SpelledLines.{lines_left, next_line}
use Rattle.dbm_script.proofs.shorthand.spell_out.Goals as goal

pub loop-rest-preserved-in_ok-push : goal.loop-rest-preserved-in_ok-push
loop-rest-preserved-in_ok-push g c =
    let line = c.first_piece.result.0.now in
    let after = c.first_piece.result.1 in
    let left : pieces_left 10 c.loop-rest.rest ≡ line ∷ pieces_left 10 after = ap (pieces_left 10) c.in-Some.is ∙ c.first_piece.ensures in
    let goes : is_some after ≡ true = search rules in
    next_line (spelled_line c.args.lines c.args.time) c.loop-rest.text.items c.spell_line.new.text.items c.push.new.self.items line _ _ _ left (lines_left after goes) c.in_ok-spell_line.ensures c.in_ok-push.ensures.items c.loop-rest.invariant

pub returns-clause-lines : goal.returns-clause-lines
returns-clause-lines g c =
    let is : c.loop-rest.text.items ≡ spelled_text c.args.lines c.args.time c.args.input.now = search rules in
    ap (pieces_of 10) is ∙ lines_stay c.args.lines c.args.time c.args.input.now
