use Rattle.std.proofs.Common.{◌≡◌, ◌<◌, ◌∙◌, arith, length, sym, ap, subst}
use denote.Param.Send.{sendable}
use Rattle.std.specs.Prelude.{IfSome}
use Rattle.std.specs.List.{slice_get}
use Rattle.std.proofs.lemmas.List.Elements.{All-get_or}
use Rattle.std.proofs.lemmas.Option.{slice_get_within, get_or_from_slice_get}
use Rattle.worker_pool.specs.Shares.{IsUnused, HasWorked}
use Rattle.worker_pool.proofs.PoolLemmas.{some_each}
use Rattle.worker_pool.proofs.crew.set_to_work.Goals as goal

pub for_each_mut-requires-clause-accepts : goal.for_each_mut-requires-clause-accepts
for_each_mut-requires-clause-accepts g c κs within i p near is =
    ((near, (c.requires.begun, subst (λ x. IsUnused x.session x.replies.items) (sym is) (All-get_or (λ x. IsUnused x.session x.replies.items) c.args.crew.now i p.now near c.requires.unused))), search sendable depth 20)

pub returns-clause-sizes : goal.returns-clause-sizes
returns-clause-sizes g c = λ w.
    some_each (λ x. IfSome (slice_get c.args.crew.now w) (λ y. x.session.size ≡ y.session.size)) (slice_get c.for_each_mut.new.s w) (λ x here.
    some_each (λ y. x.session.size ≡ y.session.size) (slice_get c.args.crew.now w) (λ y was.
    let call = (c.for_each_mut.ensures w x (slice_get_within c.args.crew.now w y was)).1 in
    sym (ap (λ v. v.session.size) (call.left ∙ get_or_from_slice_get c.for_each_mut.new.s w x x here)) ∙ (call.call.0 ∙ ap (λ v. v.session.size) (call.argument_is ∙ get_or_from_slice_get c.args.crew.now w y x was))))

pub returns-clause-worked : goal.returns-clause-worked
returns-clause-worked g c = λ w.
    let crew = length c.args.crew.now in
    some_each (λ x. HasWorked c.args.registry.now.programs c.args.tasks.now crew w x.session x.replies.items x.refused) (slice_get c.for_each_mut.new.s w) (λ x here.
    let near : w < length c.for_each_mut.new.s = slice_get_within c.for_each_mut.new.s w x here in
    let call = (c.for_each_mut.ensures w x (omega arith)).1 in
    subst (λ v. HasWorked c.args.registry.now.programs c.args.tasks.now crew w v.session v.replies.items v.refused) (call.left ∙ get_or_from_slice_get c.for_each_mut.new.s w x x here) call.call.1)
