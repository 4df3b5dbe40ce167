use Rattle.std.proofs.Common.{subst}
use Rattle.sdbm_addr.specs.declared.PageSize.{PageSize}
use Rattle.sdbm_addr.specs.Layout.{bytes_of_page}
use Rattle.sdbm_addr.specs.Database.{pairs_at}
use Rattle.sdbm_saves.specs.Parts.{ReadsPage}
use Rattle.sdbm_files.proofs.Fitting.{FitsFiles-spelled}
use Rattle.boddurci_c.proofs.Bases.{reads_opened}
use Rattle.boddurci_c.proofs.opening.open_read.Goals as goal

pub returns-clause-ok : goal.returns-clause-ok
returns-clause-ok c = record {
  spells = c.in-Ok.ensures.database;
  kind_is = c.in-Ok.ensures.kind;
  size_is = c.in-Ok.ensures.size;
  only = c.in-Ok.ensures.only;
  programs = c.requires;
  fits = FitsFiles-spelled c.in-Ok.image c.args.dir.now c.args.pag.now.bytes c.in-Ok.ensures.database;
  limit = c.pages_in-limit.ensures;
  base = c.of-base.ensures;
  reads = λ n none. subst (λ (size : PageSize). ReadsPage size c.args.pag.now.bytes n (bytes_of_page size (pairs_at c.in-Ok.image n))) c.in-Ok.ensures.size
      (reads_opened c.in-Ok.image c.args.dir.now c.args.pag.now.bytes c.in-Ok-foreign_pages.marks c.in-Ok.ensures.database c.in-Ok-foreign_pages.ensures n none);
}
