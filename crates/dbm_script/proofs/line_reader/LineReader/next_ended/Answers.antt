use Rattle.std.proofs.Common.{Bool, true, not, sym, subst}
use Rattle.dbm_script.specs.LineInput.{GivesNextLine, GivesEnded, lines_left}
use Rattle.dbm_script.proofs.LinesGiven.{gives_ended}
use Rattle.dbm_script.proofs.line_reader.LineReader.next_ended.Goals as goal

pub returns-clause-given : goal.returns-clause-given
returns-clause-given g c =
    let known = g.R.Read.remaining c.next.new.reader in
    let left = lines_left c.args.self.now (g.R.Read.remaining c.args.reader.now) in
    let left' = lines_left c.next.new.self known in
    let gives : GivesNextLine left true c.next.new.line.items left' = subst (λ (b : Bool). GivesNextLine left b c.next.new.line.items left') c.if-not-branch.false c.in_ok-next.ensures.given in
    subst (λ (b : Bool). GivesEnded left (not b) c.next.new.line.items left') (sym c.has_ended.ensures) (gives_ended left c.next.new.line.items c.next.new.self known gives)
