use Rattle.std.proofs.Common.{◌≡◌, ◌<◌, ◌∙◌, Bool, true, List, ℕ, sym, ap, subst, rules}
use Rattle.dbm_script.specs.LineInput.{GivesNextLine, lines_left}
use Rattle.dbm_dump.proofs.Ends.{IsEnd, gives_rest}
use Rattle.dbm_dump.proofs.loading.next_line.Goals as goal

pub returns-clause-given : goal.returns-clause-given
returns-clause-given g c =
    let known = g.R.Read.remaining c.next_piece.new.reader in
    let left = lines_left c.args.lines.now (g.R.Read.remaining c.args.reader.now) in
    let left' = lines_left c.next_piece.new.lines known in
    let line = c.next_piece.new.line.items in
    let gives : GivesNextLine left true line left' = subst (λ (b : Bool). GivesNextLine left b line left') c.if-not-branch.false c.in_ok-next_piece.ensures.given in
    let more : 1 < c.args.number = search rules in
    let end : IsEnd c.next_piece.new.lines line ≡ c.is_empty_end.result
    = ap (λ (l : List ℕ). IsEnd c.next_piece.new.lines l) (sym c.as_slice.ensures.value) ∙ sym c.is_empty_end.ensures in
    gives_rest c.args.number left line c.next_piece.new.lines known c.is_empty_end.result more gives end
