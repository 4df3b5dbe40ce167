use Rattle.std.proofs.Common.{◌≡◌, ◌≢◌, IfErr, ap, ◌∙◌, subst}
use Rattle.sdbm_files.specs.Opened.{SpellsNoDatabase}
use Rattle.sdbm_files.specs.declared.opening.OpenFault.TheVariants as faults
use Rattle.sdbm_files.specs.Reading.{PagRead, with_piece}
use Rattle.boddurci_c.proofs.opening.open.Goals as goal

pub returns-clause-none : goal.returns-clause-none
returns-clause-none c =
    let read_is : c.push.new.self ≡ record { size = c.args.size; bytes = c.args.pag.now } = c.in-Ok.ensures.ok ∙ ap (λ (r : PagRead). with_piece r c.args.pag.now) c.new-read.ensures in
    subst (λ (r : PagRead). IfErr c.open_read.result (λ fault. fault ≢ faults.NoMemory → SpellsNoDatabase c.args.kind c.args.size c.args.dir.now r.bytes)) read_is c.open_read.ensures.none
