use Rattle.std.proofs.Common.{◌≡◌, true, ap, sym, ◌∙◌}
use Rattle.std.specs.List.{list_any}
use Rattle.hold_modes.specs.declared.modes.Held.{Held}
use Rattle.hold_modes.specs.Held.{bars, is_of, obeys_rule}
use Rattle.hold_modes.specs.Few.{all_of}
use Rattle.hold_modes.proofs.HeldLemmas.{obeys_rule-push}
use Rattle.hold_modes.proofs.holds.Holds.take_free.Goals as goal

pub invariant_of-self-then-len-lt-FEW : goal.invariant_of-self-then-len-lt-FEW
invariant_of-self-then-len-lt-FEW g c =
    let hs = c.self.inside.few.items in
    let now : hs ≡ c.args.self.now = ap (all_of hs) (sym c.in_default.is) ∙ c.self.view_is in
    let before : obeys_rule hs ≡ true = ap (λ many. obeys_rule (all_of hs many)) (sym c.in_default.is) ∙ c.self.invariant in
    let held : Held = record { page = c.args.page; mode = c.args.mode; ticket = c.args.ticket } in
    let pushed = obeys_rule-push hs held before (ap (list_any (bars held.page held.mode)) now ∙ c.requires.free) (ap (list_any (is_of held.ticket)) now ∙ c.requires.ticket) in
    let after : obeys_rule (all_of c.push.new.self.items c.self.inside.many) ≡ true = ap (λ many. obeys_rule (all_of c.push.new.self.items many)) c.in_default.is ∙ (ap obeys_rule c.in_ok-push.ensures.items ∙ pushed) in
    after

pub returns-then-len-lt-FEW-clause-rule : goal.returns-then-len-lt-FEW-clause-rule
returns-then-len-lt-FEW-clause-rule g c =
    let hs = c.self.inside.few.items in
    let now : hs ≡ c.args.self.now = ap (all_of hs) (sym c.in_default.is) ∙ c.self.view_is in
    let before : obeys_rule hs ≡ true = ap (λ many. obeys_rule (all_of hs many)) (sym c.in_default.is) ∙ c.self.invariant in
    let held : Held = record { page = c.args.page; mode = c.args.mode; ticket = c.args.ticket } in
    let pushed = obeys_rule-push hs held before (ap (list_any (bars held.page held.mode)) now ∙ c.requires.free) (ap (list_any (is_of held.ticket)) now ∙ c.requires.ticket) in
    let after : obeys_rule (all_of c.push.new.self.items c.self.inside.many) ≡ true = ap (λ many. obeys_rule (all_of c.push.new.self.items many)) c.in_default.is ∙ (ap obeys_rule c.in_ok-push.ensures.items ∙ pushed) in
    after
