use Rattle.std.proofs.Common.{◌≡◌, rules, arith, refl, ◌∙◌}
use Rattle.std.proofs.lemmas.List.{get_or-set_other}
use Rattle.bpf_range.specs.declared.kinds.Kind.TheVariants.{Unset}
use Rattle.bpf_flow.proofs.Joined.{Wider, wider_fits, wider_more}
use Rattle.bpf_flow.specs.States.{kind_in}
use Rattle.bpf_flow.proofs.joining.join_states.Goals as goal

pub loop-r-init : goal.loop-r-init
loop-r-init c = record {
  first = record { long = search rules; each = λ k h. absurd (omega arith) };
  second = record { long = search rules; each = λ k h. absurd (omega arith) };
  behind = λ k h. refl;
  bytes = refl;
  argument = refl;
}

pub loop-r-preserved : goal.loop-r-preserved
loop-r-preserved c =
    let i = c.loop-r.invariant in
    let k : c.kind.result ≡ kind_in c.args.a.now c.loop-r.r = c.kind.ensures ∙ i.behind c.loop-r.r (omega arith) in
    let a : Wider c.args.a.now.bytes c.args.a.now.argument (kind_in c.args.a.now c.loop-r.r) c.join_kinds-kind.result = record { by = λ m n v p q h. c.join_kinds-kind.ensures.left m n v (rw i.bytes p) (rw i.argument q) (rw k h) } in
    let b : Wider c.args.b.now.bytes c.args.b.now.argument (kind_in c.args.b.now c.loop-r.r) c.join_kinds-kind.result = record { by = λ m n v p q h. c.join_kinds-kind.ensures.right m n v p q (rw c.kind-in-loop-r.ensures h) } in
    record {
      first = wider_more _ _ _ _ c.loop-r-test.true i.first a;
      second = wider_more _ _ _ _ c.loop-r-test.true i.second b;
      behind = λ j h. get_or-set_other c.loop-r.a.kinds c.loop-r.r j c.join_kinds-kind.result Unset (λ e. absurd (omega arith)) ∙ i.behind j (omega arith);
      bytes = i.bytes;
      argument = i.argument;
    }

pub returns-clause-left : goal.returns-clause-left
returns-clause-left c =
    let i = c.loop-r.invariant in
    λ d f. wider_fits c.args.a.now _ d (record { long = i.first.long; each = λ k h. i.first.each k (omega arith) }) (λ n h. c.hull-a.ensures.left n (rw i.bytes h)) (λ n h. c.hull-a-2.ensures.left n (rw i.argument h)) f

pub returns-clause-right : goal.returns-clause-right
returns-clause-right c = λ d f. wider_fits c.args.b.now _ d (record { long = c.loop-r.invariant.second.long; each = λ k h. c.loop-r.invariant.second.each k (omega arith) }) c.hull-a.ensures.right c.hull-a-2.ensures.right f
