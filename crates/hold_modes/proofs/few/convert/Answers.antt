use Rattle.std.proofs.Common.{◌≡◌, true, false, ap, sym, ◌∙◌, refl}
use Rattle.std.specs.List.{list_any}
use Rattle.hold_modes.specs.declared.modes.Held.{Held}
use Rattle.hold_modes.specs.declared.modes.Hold.TheVariants.{Read}
use Rattle.hold_modes.specs.Held.{is_beside, is_shared, update_in, obeys_rule}
use Rattle.hold_modes.proofs.HeldLemmas.{not_found, obeys_rule-made}
use Rattle.hold_modes.proofs.FewLemmas.{first, page_of-first, made-first, none}
use Rattle.hold_modes.proofs.few.convert.Goals as goal

pub unreachable-requires : goal.unreachable-requires
unreachable-requires c =
    let nothing = (not_found c.args.ticket c.args.few.now (none c.args.ticket c.args.few.now (sym c.place.ensures ∙ c.in_default.is))).0 in
    (let no : true ≡ false = sym c.requires.updating ∙ ap update_in nothing in absurd cc)

pub returns-then-has_others-clause-busy : goal.returns-then-has_others-clause-busy
returns-then-has_others-clause-busy c =
    let hs = c.args.few.now in
    let some : Held = record { page = 0; mode = Read; ticket = record { 0 = 0 } } in
    let page = page_of-first c.args.ticket hs c.in-Some.at some (first c.args.ticket hs c.in-Some.at some (sym c.place.ensures ∙ c.in-Some.is)) in
    let shared : is_shared c.args.ticket hs ≡ c.has_others.result = ap (λ p. list_any (is_beside p c.args.ticket) hs) page ∙ sym c.has_others.ensures in
    (λ _. shared ∙ c.if-has_others.true, λ _. refl)

pub returns-clause-ok : goal.returns-clause-ok
returns-clause-ok c =
    let some : Held = record { page = 0; mode = Read; ticket = record { 0 = 0 } } in
    made-first c.args.ticket c.args.few.now c.in-Some.at some (first c.args.ticket c.args.few.now c.in-Some.at some (sym c.place.ensures ∙ c.in-Some.is))

pub returns-clause-busy : goal.returns-clause-busy
returns-clause-busy c =
    let hs = c.args.few.now in
    let some : Held = record { page = 0; mode = Read; ticket = record { 0 = 0 } } in
    let page = page_of-first c.args.ticket hs c.in-Some.at some (first c.args.ticket hs c.in-Some.at some (sym c.place.ensures ∙ c.in-Some.is)) in
    let shared : is_shared c.args.ticket hs ≡ c.has_others.result = ap (λ p. list_any (is_beside p c.args.ticket) hs) page ∙ sym c.has_others.ensures in
    (λ z. absurd cc, λ y. absurd (let z : true ≡ false = sym y ∙ (shared ∙ c.if-has_others.false) in cc))

pub returns-clause-rule : goal.returns-clause-rule
returns-clause-rule c =
    let hs = c.args.few.now in
    let some : Held = record { page = 0; mode = Read; ticket = record { 0 = 0 } } in
    let at = first c.args.ticket hs c.in-Some.at some (sym c.place.ensures ∙ c.in-Some.is) in
    let shared : is_shared c.args.ticket hs ≡ c.has_others.result = ap (λ p. list_any (is_beside p c.args.ticket) hs) (page_of-first c.args.ticket hs c.in-Some.at some at) ∙ sym c.has_others.ensures in
    ap obeys_rule (made-first c.args.ticket hs c.in-Some.at some at) ∙ obeys_rule-made c.args.ticket hs c.requires.rule (shared ∙ c.if-has_others.false)
