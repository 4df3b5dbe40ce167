use Rattle.std.proofs.Common.{◌≡◌, length, ◌≤◌, ap, ◌∙◌, arith}
use Rattle.hold_modes.specs.declared.modes.Held.{Held}
use Rattle.hold_modes.specs.Uses.{uses_of, uses_in, more}
use Rattle.hold_modes.proofs.HeldLemmas.{obeys_rule-push}
use Rattle.hold_modes.proofs.UsesLemmas.{uses_at-is, uses_in-le, index-kept, index-push}
use Rattle.hold_modes.proofs.indexed.Indexed.take_free.Goals as goal

pub with-requires : goal.with-requires
with-requires g c =
    let hs = c.self.inside.taken in
    let used : c.at-uses.result ≡ uses_of c.args.page hs = c.at-uses.ensures ∙ uses_at-is c.self.inside.pages.uses hs c.self.invariant.1 c.args.page in
    let le : uses_in c.args.mode c.at-uses.result ≤ length hs = rw used (uses_in-le c.args.mode c.args.page hs) in
    omega (arith, le, c.in_ok-push.ensures.fits)

pub invariant_of-self-2 : goal.invariant_of-self-2
invariant_of-self-2 g c =
    let hs = c.self.inside.taken in
    let used : c.at-uses.result ≡ uses_of c.args.page hs = c.at-uses.ensures ∙ uses_at-is c.self.inside.pages.uses hs c.self.invariant.1 c.args.page in
    let held : Held = record { page = c.args.page; mode = c.args.mode; ticket = c.args.ticket } in
    let index = index-push c.reserve.new.self.uses hs (index-kept c.self.inside.pages.uses hs c.self.invariant.1 c.reserve.new.self.uses c.reserve.ensures.same) c.put.new.self.uses held c.with.result (c.with.ensures ∙ ap (more c.args.mode) used) c.put.ensures in
    rw c.in_ok-push.ensures.ok (obeys_rule-push hs held c.self.invariant.0 (rw c.self.view_is c.requires.free) (rw c.self.view_is c.requires.ticket), index)

pub returns-clause-rule : goal.returns-clause-rule
returns-clause-rule g c =
    let hs = c.self.inside.taken in
    let held : Held = record { page = c.args.page; mode = c.args.mode; ticket = c.args.ticket } in
    rw c.in_ok-push.ensures.ok (obeys_rule-push hs held c.self.invariant.0 (rw c.self.view_is c.requires.free) (rw c.self.view_is c.requires.ticket))
