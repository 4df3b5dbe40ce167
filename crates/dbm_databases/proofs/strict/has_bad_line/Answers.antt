use Rattle.std.proofs.Common.{◌≡◌, ◌∙◌, ◌∷◌, ap, false, rules, sym, true}
use Rattle.std.specs.List.{list_any}
use Rattle.dbm_script.specs.Pieces.{pieces_left}
use Rattle.dbm_databases.specs.Playing.{is_bad_line}
use Rattle.dbm_databases.proofs.BadLines.{found, passed}
use Rattle.dbm_databases.proofs.strict.has_bad_line.Goals as goal

pub loop-rest-preserved : goal.loop-rest-preserved
loop-rest-preserved c =
    let n = c.args.notation.now in
    let line = c.first_piece.result.0.now in
    let behind = pieces_left 10 c.first_piece.result.1 in
    let left : pieces_left 10 c.loop-rest.rest ≡ line ∷ behind = ap (pieces_left 10) c.in-Some.is ∙ c.first_piece.ensures in
    let good : is_bad_line n line ≡ false = search rules in
    record { left = passed n line behind _ good (sym (ap (list_any (is_bad_line n)) left) ∙ c.loop-rest.invariant.left) }

pub returns-then-bad : goal.returns-then-bad
returns-then-bad c =
    let n = c.args.notation.now in
    let line = c.first_piece.result.0.now in
    let behind = pieces_left 10 c.first_piece.result.1 in
    let left : pieces_left 10 c.loop-rest.rest ≡ line ∷ behind = ap (pieces_left 10) c.in-Some.is ∙ c.first_piece.ensures in
    let bad : is_bad_line n line ≡ true = search rules in
    sym (found n line behind bad) ∙ sym (ap (list_any (is_bad_line n)) left) ∙ c.loop-rest.invariant.left
