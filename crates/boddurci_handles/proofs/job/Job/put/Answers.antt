use Rattle.std.proofs.Common.{◌≡◌, true, Option, IfSome, is_some, sym, subst}
use Rattle.std.specs.declared.alloc.Global.{Global}
use Rattle.store_moves.specs.declared.worked.Worked.{Worked}
use Rattle.store_moves.specs.Acts.{Acts}
use Rattle.boddurci_handles.specs.Asked.{Asked, IsWorkedOut, asked_result}
use Rattle.boddurci_handles.specs.Growth.{has_pairs, may_grow, most_in}
use Rattle.boddurci_handles.specs.Asked.{IsCurrent}
use Rattle.boddurci_handles.proofs.Jobs.{may_put, put_acts, put_fits, put_within}
use Rattle.boddurci_handles.proofs.job.Job.put.Goals as goal

pub put_marked-requires : goal.put_marked-requires
put_marked-requires c =
    let a : Asked = record { command = c.self.inside.command; place = c.self.inside.place; kind = c.self.inside.kind; page = c.self.inside.page; is_worked = is_some c.self.inside.worked } in
    let now : IsCurrent c.args.image.now a = subst (λ (x : Asked). IsCurrent c.args.image.now x) (sym c.self.view_is) c.requires.current in
    let out : IsWorkedOut a c.in-Some.field-0 = subst (λ (w : Option (Worked Global)). IfSome w (IsWorkedOut a)) (sym c.in-Some.ensures.value) c.self.invariant.done in
    may_put c.args.image.now c.requires.database a c.in-Some.field-0 now c.self.invariant.workable out

pub returns-in-Ok-clause-ok : goal.returns-in-Ok-clause-ok
returns-in-Ok-clause-ok c =
    let a : Asked = record { command = c.self.inside.command; place = c.self.inside.place; kind = c.self.inside.kind; page = c.self.inside.page; is_worked = is_some c.self.inside.worked } in
    let now : IsCurrent c.args.image.now a = subst (λ (x : Asked). IsCurrent c.args.image.now x) (sym c.self.view_is) c.requires.current in
    let out : IsWorkedOut a c.in-Some.field-0 = subst (λ (w : Option (Worked Global)). IfSome w (IsWorkedOut a)) (sym c.in-Some.ensures.value) c.self.invariant.done in
    subst (λ (x : Asked). Acts c.args.image.now (record { session = 0; command = x.command; reply = c.in-Some.field-0.reply }) c.put_marked.new.image) c.self.view_is
    (put_acts c.args.image.now c.requires.database a c.in-Some.field-0 now c.self.invariant.workable out c.put_marked.new.image c.in-Ok.ensures.ok)

pub returns-in-Ok-clause-fits : goal.returns-in-Ok-clause-fits
returns-in-Ok-clause-fits c =
    let a : Asked = record { command = c.self.inside.command; place = c.self.inside.place; kind = c.self.inside.kind; page = c.self.inside.page; is_worked = is_some c.self.inside.worked } in
    let now : IsCurrent c.args.image.now a = subst (λ (x : Asked). IsCurrent c.args.image.now x) (sym c.self.view_is) c.requires.current in
    let out : IsWorkedOut a c.in-Some.field-0 = subst (λ (w : Option (Worked Global)). IfSome w (IsWorkedOut a)) (sym c.in-Some.ensures.value) c.self.invariant.done in
    let grows = subst (λ (x : Asked). may_grow (most_in x.page.size c.args.limit) (has_pairs x.page.pairs) x.place.page (asked_result x).change ≡ true) (sym c.self.view_is) c.requires.grows in
    put_fits c.args.image.now c.requires.database a c.in-Some.field-0 now c.self.invariant.workable out c.args.limit grows c.put_marked.new.image c.in-Ok.ensures.ok

pub returns-in-Ok-clause-within : goal.returns-in-Ok-clause-within
returns-in-Ok-clause-within c =
    let a : Asked = record { command = c.self.inside.command; place = c.self.inside.place; kind = c.self.inside.kind; page = c.self.inside.page; is_worked = is_some c.self.inside.worked } in
    let now : IsCurrent c.args.image.now a = subst (λ (x : Asked). IsCurrent c.args.image.now x) (sym c.self.view_is) c.requires.current in
    let out : IsWorkedOut a c.in-Some.field-0 = subst (λ (w : Option (Worked Global)). IfSome w (IsWorkedOut a)) (sym c.in-Some.ensures.value) c.self.invariant.done in
    let grows = subst (λ (x : Asked). may_grow (most_in x.page.size c.args.limit) (has_pairs x.page.pairs) x.place.page (asked_result x).change ≡ true) (sym c.self.view_is) c.requires.grows in
    put_within c.args.image.now c.requires.database a c.in-Some.field-0 now c.self.invariant.workable out c.args.limit grows c.put_marked.new.image c.in-Ok.ensures.ok
