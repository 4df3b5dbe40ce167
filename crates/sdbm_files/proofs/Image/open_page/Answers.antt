use Rattle.std.proofs.Common.{◌≡◌, ◌∙◌, ap, sym, subst, Option, IfOk, IfSome}
use Rattle.std.specs.Prelude.{IfNone}
use Rattle.sdbm_addr.specs.Pairs.{page_bytes}
use Rattle.sdbm_addr.specs.Database.{Database, empty_database}
use Rattle.sdbm_files.specs.Opened.{SpellsNoPart}
use Rattle.sdbm_files.proofs.Image.open_page.Goals as goal

pub reopen_page-requires : goal.reopen_page-requires
unfolding empty_database
reopen_page-requires g c = c.requires ∙ ap (λ (db : Database). page_bytes db.size) (sym c.empty.ensures)

pub returns-clause-kind : goal.returns-clause-kind
unfolding empty_database
returns-clause-kind g c =
    subst (λ (known : Database). IfOk c.reopen_page-2.result (λ (opened : Option Database). IfSome opened (λ (image : Database). image.kind ≡ known.kind))) c.empty.ensures c.reopen_page-2.ensures.kind

pub returns-clause-none : goal.returns-clause-none
unfolding empty_database
returns-clause-none g c =
    subst (λ (known : Database). IfOk c.reopen_page-2.result (λ (opened : Option Database). IfNone opened (SpellsNoPart known.kind known.size c.args.dir.now c.args.number c.args.page.now))) c.empty.ensures c.reopen_page-2.ensures.none
