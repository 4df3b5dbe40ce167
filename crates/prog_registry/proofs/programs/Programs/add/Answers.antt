use Rattle.std.proofs.Common.{arith, ◌≡◌, ◌<◌, ℕ, List, Some, length, sym, ◌∙◌, ap, subst}
use Rattle.std.proofs.lemmas.List.{length-map}
use Rattle.bpf_verify.specs.Verified.{Accepted}
use Rattle.prog_registry.specs.Programs.{IsNew, program_limit}
use Rattle.prog_registry.specs.Kept.{values_of, IsKept}
use Rattle.prog_registry.proofs.Outcomes.{on_ok}
use Rattle.prog_registry.proofs.Numbers.{kept_added, values_more}
use Rattle.prog_registry.proofs.programs.Programs.add.Goals as goal

pub invariant_of-self-2 : goal.invariant_of-self-2
invariant_of-self-2 g c =
    let old = values_of c.self.inside.list.items in
    let more = values_more c.self.inside.list.items c.reserve.new.self.items c.push_reserved.new.self.items c.in_ok-key.shared c.args.program c.push_reserved.ensures.items c.reserve.ensures.items c.in_ok-key.ensures.shared in
    let updates = on_ok c.insert.result _ c.insert.ensures.updates (sym c.is_err.ensures.value ∙ c.if-is_err.false) in
    let next : c.len-number.result ≡ length old = simp length-map (c.len-number.ensures ∙ (c.reserve.ensures.len ∙ c.self.inside.list.ok.0)) in
    subst (λ (ps : List Accepted). IsKept ps c.insert.new.self.entries) (sym more)
    (kept_added old c.args.program c.args.image.now c.in_ok-key.key c.self.inside.numbers.entries c.insert.new.self.entries c.self.invariant
    (subst (λ (s : List Accepted). length s < program_limit) (sym c.self.view_is) c.requires.room)
    (subst (λ (s : List Accepted). IsNew s c.args.image.now) (sym c.self.view_is) c.requires.new)
    c.requires.program c.in_ok-key.ensures.key (updates.1 ∙ ap (λ (n : ℕ). Some n) next) updates.3)

pub returns-clause-ok : goal.returns-clause-ok
returns-clause-ok g c =
    rw (← c.self.view_is) (values_more c.self.inside.list.items c.reserve.new.self.items c.push_reserved.new.self.items c.in_ok-key.shared c.args.program c.push_reserved.ensures.items c.reserve.ensures.items c.in_ok-key.ensures.shared)

pub returns-clause-number : goal.returns-clause-number
returns-clause-number g c =
    let next : c.len-number.result ≡ length (values_of c.self.inside.list.items) = simp length-map (c.len-number.ensures ∙ (c.reserve.ensures.len ∙ c.self.inside.list.ok.0)) in
    rw (← c.self.view_is) next

pub invariant_of-self : goal.invariant_of-self
invariant_of-self g c = rw c.reserve.ensures.items c.self.invariant

pub invariant_of-self-in_err-key : goal.invariant_of-self-in_err-key
invariant_of-self-in_err-key g c = rw c.reserve.ensures.items c.self.invariant

pub overflow_cast-number : goal.overflow_cast-number
overflow_cast-number g c =
    let next : c.len-number.result ≡ length (values_of c.self.inside.list.items) = simp length-map (c.len-number.ensures ∙ (c.reserve.ensures.len ∙ c.self.inside.list.ok.0)) in
    let room : length (values_of c.self.inside.list.items) < program_limit = rw c.self.view_is c.requires.room in
    omega (arith, next, room)

pub returns-then-is_err-clause-err : goal.returns-then-is_err-clause-err
returns-then-is_err-clause-err g c = ap values_of c.reserve.ensures.items ∙ c.self.view_is

pub push_reserved-requires : goal.push_reserved-requires
push_reserved-requires g c = let room = c.in_ok-reserve.ensures.ok in omega (arith, room)
