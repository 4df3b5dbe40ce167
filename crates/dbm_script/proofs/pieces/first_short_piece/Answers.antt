use Rattle.std.proofs.Common.{◌≡◌, ◌==◌, Some, None, rules}
use Rattle.std.specs.Prelude.{position}
use Rattle.dbm_script.proofs.Cuts.{pieces_at, pieces_whole}
use Rattle.dbm_script.proofs.pieces.first_short_piece.Goals as goal

pub returns-in-Some : goal.returns-in-Some
returns-in-Some c =
    let is : position (λ b. b == c.args.end) c.args.text.now ≡ Some c.in-Some.at = search rules in
    pieces_at c.args.end c.args.text.now c.in-Some.at is

pub returns-in-None : goal.returns-in-None
returns-in-None c =
    let is : position (λ b. b == c.args.end) c.args.text.now ≡ None = search rules in
    pieces_whole c.args.end c.args.text.now is
