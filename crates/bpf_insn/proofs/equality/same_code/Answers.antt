use Rattle.std.proofs.Common.{◌≡◌, sym, ◌∙◌, refl, arith}
use Rattle.bpf_insn.specs.Code.{unit_count}
use Rattle.bpf_insn.proofs.Tells.{units_tell}
use Rattle.bpf_insn.proofs.equality.same_code.Goals as goal

pub returns-clause-same : goal.returns-clause-same
returns-clause-same g c =
    let units : unit_count c.args.a.now ≡ unit_count c.args.b.now = sym c.units-units.ensures.value ∙ c.if-units.false ∙ c.units.ensures.value in
    (λ t. units_tell c.args.a.now c.args.b.now units (λ u lt. c.loop-unit.invariant u (omega (arith, lt, c.units-units.ensures.value))), λ e. refl)
