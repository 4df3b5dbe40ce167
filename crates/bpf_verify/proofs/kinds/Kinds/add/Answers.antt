use Rattle.std.proofs.Common.{arith, rules}
use Rattle.std.proofs.lemmas.List.{get_or_default}
use Rattle.bpf_range.specs.declared.kinds.Kind.TheVariants.{Unset}
use Rattle.bpf_verify.proofs.Rows.{one_place}
use Rattle.bpf_verify.proofs.kinds.Kinds.add.Goals as goal

pub loop-register-preserved : goal.loop-register-preserved
loop-register-preserved g c =
    let i = c.loop-register.invariant in
    record {
      places = one_place _ c.loop-register.row c.loop-register.register _ c.args.state.now (omega (arith, i.eleven)) (λ r l. c.place.ensures.extends _ _ (i.places r l)) (rw (get_or_default c.args.state.now.kinds c.loop-register.register c.index-state-register.result Unset (search rules)) at c.in_ok-row.ensures.at);
      extends = λ place kind at. c.place.ensures.extends place kind (i.extends place kind at);
      eleven = search rules;
      few = omega (arith, c.place.ensures.few, i.few);
      rows = search rules;
    }
