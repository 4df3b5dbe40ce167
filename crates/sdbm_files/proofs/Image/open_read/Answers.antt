use Rattle.std.proofs.Common.{◌≡◌, ◌≢◌, ℕ, List, IfOk, IfErr, rules, ◌∙◌, subst}
use Rattle.sdbm_addr.specs.declared.PageSize.{PageSize}
use Rattle.sdbm_addr.specs.Database.{Database}
use Rattle.sdbm_addr.specs.Files.{SpellsDatabase}
use Rattle.sdbm_files.specs.Opened.{SpellsNoDatabase}
use Rattle.sdbm_files.specs.declared.opening.OpenFault.TheVariants as faults
use Rattle.sdbm_files.proofs.Image.open_read.Goals as goal

pub returns-then-eq-clause-only : goal.returns-then-eq-clause-only
returns-then-eq-clause-only g c =
    let same : c.args.pag.now.size ≡ c.args.size = search rules in
    subst (λ (size : PageSize). IfOk c.open_parsed.result (λ image. (db : Database) → db.kind ≡ c.args.kind → db.size ≡ size → SpellsDatabase db c.args.dir.now c.args.pag.now.bytes → db ≡ image)) same c.open_parsed.ensures.only

pub returns-then-eq-clause-none : goal.returns-then-eq-clause-none
returns-then-eq-clause-none g c =
    let same : c.args.pag.now.size ≡ c.args.size = search rules in
    subst (λ (size : PageSize). IfErr c.open_parsed.result (λ fault. fault ≢ faults.NoMemory → SpellsNoDatabase c.args.kind size c.args.dir.now c.args.pag.now.bytes)) same c.open_parsed.ensures.none

pub returns-clause-only : goal.returns-clause-only
returns-clause-only g c =
    let same = c.as_slice.ensures.value ∙ c.in-Ok.ensures in
    subst (λ (pag : List ℕ). IfOk c.open.result (λ image. (db : Database) → db.kind ≡ c.args.kind → db.size ≡ c.args.size → SpellsDatabase db c.args.dir.now pag → db ≡ image)) same c.open.ensures.only

pub returns-clause-none : goal.returns-clause-none
returns-clause-none g c =
    let same = c.as_slice.ensures.value ∙ c.in-Ok.ensures in
    subst (λ (pag : List ℕ). IfErr c.open.result (λ fault. fault ≢ faults.NoMemory → SpellsNoDatabase c.args.kind c.args.size c.args.dir.now pag)) same c.open.ensures.none
