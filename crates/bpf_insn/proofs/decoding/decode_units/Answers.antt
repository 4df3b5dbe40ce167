use Rattle.std.proofs.Common.{◌≡◌, ◌<◌, length, rules, subst, sym}
use Rattle.std.proofs.lemmas.List.{nil_from_length}
use Rattle.bpf_insn.specs.Decoding.{HasFault}
use Rattle.bpf_insn.proofs.Images.{holds_unit, has_room, goes_on, ends, only_code, none_begins, fails, no_code, has_fault, IsRead}
use Rattle.bpf_insn.proofs.decoding.decode_units.Goals as goal

pub first_insn-requires : goal.first_insn-requires
first_insn-requires g c =
    let more : 0 < length c.loop-rest.rest.now = search rules in
    holds_unit _ _ _ c.loop-rest.invariant c.requires.whole more

pub returns-in-Err-clause-only : goal.returns-in-Err-clause-only
returns-in-Err-clause-only g c = λ code h.
    let more : 0 < length c.loop-rest.rest.now = search rules in
    absurd (no_code _ _ _ c.loop-rest.invariant more (none_begins _ c.in-Err.fault c.in-Err.ensures.only) code h)

pub returns-in-Err-clause-fault : goal.returns-in-Err-clause-fault
returns-in-Err-clause-fault g c =
    let more : 0 < length c.loop-rest.rest.now = search rules in
    let failed = fails _ _ _ c.loop-rest.invariant c.requires.whole c.requires.short more (none_begins _ c.in-Err.fault c.in-Err.ensures.only) in
    subst (HasFault c.args.image.now) (sym c.at.ensures) (rw c.units.ensures.value (has_fault _ _ c.in-Err.fault failed))

pub push-requires-clause-room : goal.push-requires-clause-room
push-requires-clause-room g c = has_room _ _ _ c.in-Ok.insn _ c.loop-rest.invariant c.requires.short c.in-Ok.ensures.found.1

pub loop-rest-preserved : goal.loop-rest-preserved
loop-rest-preserved g c =
    rw (c.split_at.ensures.back, c.units-in-loop-rest.ensures, c.in_ok-push.ensures.ok)
    (goes_on c.args.image.now c.loop-rest.code c.loop-rest.rest.now c.in-Ok.insn _ c.loop-rest.invariant c.in-Ok.ensures.found.0 c.in-Ok.ensures.found.1 c.in-Ok.ensures.only)

pub returns-clause-found : goal.returns-clause-found
returns-clause-found g c =
    let none : length c.loop-rest.rest.now ≡ 0 = search rules in
    ends _ _ (subst (IsRead c.args.image.now c.loop-rest.code) (nil_from_length _ none) c.loop-rest.invariant) c.requires.short

pub returns-clause-only : goal.returns-clause-only
returns-clause-only g c =
    let none : length c.loop-rest.rest.now ≡ 0 = search rules in
    only_code _ _ (subst (IsRead c.args.image.now c.loop-rest.code) (nil_from_length _ none) c.loop-rest.invariant)
