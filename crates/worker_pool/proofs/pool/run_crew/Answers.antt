use Rattle.std.proofs.Common.{◌≡◌, ◌∙◌, ◌++◌, arith, length, ap, subst, List, ℕ}
use Rattle.std.specs.Prelude.{map, take, drop, Option, Some, None}
use Rattle.std.specs.Vec.Iter.{into_iter_items}
use Rattle.std.specs.declared.vec.IntoIter.{IntoIter}
use Rattle.std.proofs.lemmas.List.{length-map}
use Rattle.store_cmd.specs.declared.Reply.{Reply}
use Rattle.store_cmd.specs.declared.Refusal.{Refusal}
use Rattle.store_shared.specs.Shared.{SessionState}
use Rattle.worker_pool.specs.declared.crew.Worker.{Worker}
use Rattle.worker_pool.specs.Shares.{IsFirstIn}
use Rattle.worker_pool.proofs.PoolLemmas.{pool_done, pool_refused, pool_shares, pool_taken, sized_all, IsBack, crew_back}
use Rattle.worker_pool.proofs.pool.run_crew.Goals as goal

pub returns-in-Some-clause-err : goal.returns-in-Some-clause-err
returns-in-Some-clause-err g c = λ size sized.
    let A : Type 0 = g.row.A.Denot in
    let W : Type 0 = Worker g.row.A.Denot g.row.G.Denot in
    let session : W → SessionState A = λ x. x.session in
    let replies : W → List (Reply A) = λ x. x.replies.items in
    let refused : W → Option (ℕ × Refusal) = λ x. x.refused in
    let programs = c.args.registry.now.programs in
    let tasks = c.args.tasks.now in
    let items : List W = c.args.crew.items in
    let crew : List W = take c.args.crew.len (c.set_to_work.new.crew ++ drop (length c.set_to_work.new.crew) c.args.crew.items) in
    let back : IsBack session replies refused programs tasks items crew = crew_back session replies refused programs tasks items c.as_mut_slice.result.now c.set_to_work.new.crew c.args.crew.len c.as_mut_slice.ensures.value c.set_to_work.auto.crew c.as_mut_slice.ensures.len c.set_to_work.ensures.worked c.set_to_work.ensures.sizes in
    let first : IsFirstIn (map refused crew) (Some (c.in-Some.task, c.in-Some.refusal)) = subst (λ xs. IsFirstIn (map refused xs) (Some (c.in-Some.task, c.in-Some.refusal))) c.as_slice.ensures.value (subst (λ r. IsFirstIn (map refused c.as_slice.result.now) r) c.in-Some.is c.first_refused-refused.ensures) in
    pool_refused session replies refused programs tasks (length items) size crew c.dismiss.new.calls.items (c.in-Some.task, c.in-Some.refusal) c.requires.begun.some back.count back.worked (sized_all session size items crew back.count back.sizes sized) first c.dismiss.ensures.calls

pub gather-requires-clause-some : goal.gather-requires-clause-some
gather-requires-clause-some g c =
    let A : Type 0 = g.row.A.Denot in
    let W : Type 0 = Worker g.row.A.Denot g.row.G.Denot in
    let session : W → SessionState A = λ x. x.session in
    let replies : W → List (Reply A) = λ x. x.replies.items in
    let refused : W → Option (ℕ × Refusal) = λ x. x.refused in
    let programs = c.args.registry.now.programs in
    let tasks = c.args.tasks.now in
    let items : List W = c.args.crew.items in
    let crew : List W = take c.args.crew.len (c.set_to_work.new.crew ++ drop (length c.set_to_work.new.crew) c.args.crew.items) in
    let back : IsBack session replies refused programs tasks items crew = crew_back session replies refused programs tasks items c.as_mut_slice.result.now c.set_to_work.new.crew c.args.crew.len c.as_mut_slice.ensures.value c.set_to_work.auto.crew c.as_mut_slice.ensures.len c.set_to_work.ensures.worked c.set_to_work.ensures.sizes in
    let view : IntoIter (Reply A) A → List (Reply A) = λ list. into_iter_items list in
    let lists : List (IntoIter (Reply A) A) = c.as_mut_slice-2.result.now in
    let same : map view lists ≡ map replies crew = ap (map view) c.as_mut_slice-2.ensures.value ∙ c.dismiss.ensures.lists in
    let some = c.requires.begun.some in
    let long = length-map lists view in
    let crew_long = length-map crew replies in
    let both : length (map view lists) ≡ length (map replies crew) = ap length same in
    let count = back.count in
    omega arith

pub gather-requires-clause-shares : goal.gather-requires-clause-shares
gather-requires-clause-shares g c =
    let A : Type 0 = g.row.A.Denot in
    let W : Type 0 = Worker g.row.A.Denot g.row.G.Denot in
    let session : W → SessionState A = λ x. x.session in
    let replies : W → List (Reply A) = λ x. x.replies.items in
    let refused : W → Option (ℕ × Refusal) = λ x. x.refused in
    let programs = c.args.registry.now.programs in
    let tasks = c.args.tasks.now in
    let items : List W = c.args.crew.items in
    let crew : List W = take c.args.crew.len (c.set_to_work.new.crew ++ drop (length c.set_to_work.new.crew) c.args.crew.items) in
    let back : IsBack session replies refused programs tasks items crew = crew_back session replies refused programs tasks items c.as_mut_slice.result.now c.set_to_work.new.crew c.args.crew.len c.as_mut_slice.ensures.value c.set_to_work.auto.crew c.as_mut_slice.ensures.len c.set_to_work.ensures.worked c.set_to_work.ensures.sizes in
    let none : IsFirstIn (map refused crew) None = subst (λ xs. IsFirstIn (map refused xs) None) c.as_slice.ensures.value (subst (λ r. IsFirstIn (map refused c.as_slice.result.now) r) c.in_default.is c.first_refused-refused.ensures) in
    let view : IntoIter (Reply A) A → List (Reply A) = λ list. into_iter_items list in
    let lists : List (IntoIter (Reply A) A) = c.as_mut_slice-2.result.now in
    let same : map view lists ≡ map replies crew = ap (map view) c.as_mut_slice-2.ensures.value ∙ c.dismiss.ensures.lists in
    pool_shares session replies refused programs tasks (length items) view crew lists back.count same back.worked none

pub returns-clause-ok : goal.returns-clause-ok
returns-clause-ok g c = λ size sized.
    let A : Type 0 = g.row.A.Denot in
    let W : Type 0 = Worker g.row.A.Denot g.row.G.Denot in
    let session : W → SessionState A = λ x. x.session in
    let replies : W → List (Reply A) = λ x. x.replies.items in
    let refused : W → Option (ℕ × Refusal) = λ x. x.refused in
    let programs = c.args.registry.now.programs in
    let tasks = c.args.tasks.now in
    let items : List W = c.args.crew.items in
    let crew : List W = take c.args.crew.len (c.set_to_work.new.crew ++ drop (length c.set_to_work.new.crew) c.args.crew.items) in
    let back : IsBack session replies refused programs tasks items crew = crew_back session replies refused programs tasks items c.as_mut_slice.result.now c.set_to_work.new.crew c.args.crew.len c.as_mut_slice.ensures.value c.set_to_work.auto.crew c.as_mut_slice.ensures.len c.set_to_work.ensures.worked c.set_to_work.ensures.sizes in
    let none : IsFirstIn (map refused crew) None = subst (λ xs. IsFirstIn (map refused xs) None) c.as_slice.ensures.value (subst (λ r. IsFirstIn (map refused c.as_slice.result.now) r) c.in_default.is c.first_refused-refused.ensures) in
    let view : IntoIter (Reply A) A → List (Reply A) = λ list. into_iter_items list in
    let lists : List (IntoIter (Reply A) A) = c.as_mut_slice-2.result.now in
    let same : map view lists ≡ map replies crew = ap (map view) c.as_mut_slice-2.ensures.value ∙ c.dismiss.ensures.lists in
    pool_done session replies refused programs tasks (length items) size crew c.dismiss.new.calls.items c.gather.new.replies.items c.requires.begun back.count back.worked (sized_all session size items crew back.count back.sizes sized) none c.dismiss.ensures.calls c.gather.ensures.all (pool_taken session replies refused programs tasks (length items) view crew lists c.gather.new.replies.items back.count same c.gather.ensures.shares)
