use Rattle.std.proofs.Common.{◌≡◌, ℕ, List, Option, IfSome, IsNone, length, refl, sym, subst}
use Rattle.std.proofs.lemmas.Result.{IfOk-weaker}
use Rattle.sdbm_addr.specs.declared.PageSize.{PageSize}
use Rattle.sdbm_saves.specs.Parts.{IsMarkedIn, ReadPages}
use Rattle.sdbm_saves.specs.declared.marked.Marked.{Marked}
use Rattle.store_saves.proofs.MarkedIn.{marked_in, some_weaker}
use Rattle.store_saves.proofs.noted.plan_noted.Goals as goal

pub returns-clause-plan : goal.returns-clause-plan
returns-clause-plan c =
    let pag = c.args.old.pages.now in
    let old : Marked = record { directory = c.args.old.directory; len = length c.args.old.pages.now; numbers = c.args.numbers; pages = c.as_slice.result } in
    let marked : IsMarkedIn old c.args.image.now pag = marked_in old c.args.base.now.database c.args.image.now pag c.args.old.directory.now c.requires.files c.requires.differ refl
    (subst (λ (s : PageSize). ReadPages s c.args.numbers.now c.as_slice.result.now pag) c.page_size.ensures (subst (λ (l : List ℕ). ReadPages c.page_size.result c.args.numbers.now l pag) (sym c.as_slice.ensures.value) c.in_ok-pages.ensures.reads)) in
    IfOk-weaker c.plan_marked.result _ _ (λ plan made. some_weaker plan _ _ (λ p saving. saving pag marked) made) c.plan_marked.ensures.plan

pub returns-clause-none : goal.returns-clause-none
returns-clause-none c =
    let pag = c.args.old.pages.now in
    let old : Marked = record { directory = c.args.old.directory; len = length c.args.old.pages.now; numbers = c.args.numbers; pages = c.as_slice.result } in
    let marked : IsMarkedIn old c.args.image.now pag = marked_in old c.args.base.now.database c.args.image.now pag c.args.old.directory.now c.requires.files c.requires.differ refl
    (subst (λ (s : PageSize). ReadPages s c.args.numbers.now c.as_slice.result.now pag) c.page_size.ensures (subst (λ (l : List ℕ). ReadPages c.page_size.result c.args.numbers.now l pag) (sym c.as_slice.ensures.value) c.in_ok-pages.ensures.reads)) in
    IfOk-weaker c.plan_marked.result _ _ (λ plan none is. none is pag marked) c.plan_marked.ensures.none
