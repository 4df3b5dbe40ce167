use Rattle.std.proofs.Common.{◌≡◌, ◌<◌, ◌∙◌, [], List, ℕ, Bool, true, false, length, refl, subst, rules}
use Rattle.dbm_script.specs.LineInput.{IsPiece, Refills, TakesPiece}
use Rattle.dbm_script.proofs.CutTexts.{SameText, open_found, open_last, open_long, same_refilled, same_taken, taken_piece, unread}
use Rattle.dbm_script.proofs.line_reader.LineReader.next.Goals as goal

pub returns-then-len-most-clause-long : goal.returns-then-len-most-clause-long
returns-then-len-most-clause-long g c = λ _.
    let long : c.args.most < length c.take_piece.new.line.items = search rules in
    open_long c.args.most c.in_ok-found.found c.args.self.now (g.R.Read.remaining c.args.reader.now) (g.R.Read.remaining c.loop-found.reader) c.loop-found.line.items c.loop-found.self.rest
    c.take_piece.new.line.items c.take_piece.new.self.rest c.loop-found.invariant.was_open c.loop-found.invariant.same c.loop-found.invariant.piece c.in_ok-found.ensures.taken long

pub returns-then-found-clause-given : goal.returns-then-found-clause-given
returns-then-found-clause-given g c =
    open_found c.args.self.now c.take_piece.new.self (g.R.Read.remaining c.args.reader.now) (g.R.Read.remaining c.loop-found.reader) c.loop-found.line.items c.loop-found.self.rest
    c.take_piece.new.line.items c.loop-found.invariant.was_open (c.in_ok-found.ensures.same ∙ c.loop-found.invariant.is_open) c.loop-found.invariant.same c.loop-found.invariant.piece
    (subst (λ (b : Bool). TakesPiece b c.loop-found.self.rest c.loop-found.line.items c.take_piece.new.line.items c.take_piece.new.self.rest) c.if-found.true c.in_ok-found.ensures.taken)

pub returns-then-not-branch-clause-given : goal.returns-then-not-branch-clause-given
returns-then-not-branch-clause-given g c =
    let before = c.loop-found.invariant in
    let known₀ = g.R.Read.remaining c.args.reader.now in
    let known = g.R.Read.remaining c.loop-found.reader in
    let known' = g.R.Read.remaining c.refill.new.reader in
    let line = c.loop-found.line.items in
    let rest = c.loop-found.self.rest in
    let line' = c.take_piece.new.line.items in
    let rest' = c.take_piece.new.self.rest in
    let takes : TakesPiece false rest line line' rest' = subst (λ (b : Bool). TakesPiece b rest line line' rest') c.if-found.false c.in_ok-found.ensures.taken in
    let fills : Refills false c.refill.new.self.rest known' = subst (λ (b : Bool). Refills b c.refill.new.self.rest known') c.if-not-branch.true c.in_ok-refill.ensures.more in
    let same : SameText c.args.self.now.rest known₀ line' c.refill.new.self.rest known'
    = same_refilled c.args.self.now.rest known₀ line' rest' known c.refill.new.self.rest known' (same_taken c.args.self.now.rest known₀ line rest known line' rest' before.same takes) takes.1.0
    c.in_ok-refill.ensures.read in
    open_last c.args.self.now (unread [] true) known₀ known' line' c.refill.new.self.rest before.was_open refl same (taken_piece false line rest line' rest' before.piece takes) fills.0 fills.1
