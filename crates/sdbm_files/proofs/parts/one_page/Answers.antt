use Rattle.sdbm_files.proofs.OnePage.{no_page}
use Rattle.sdbm_files.proofs.parts.one_page.Goals as goal

pub returns-in_default-clause-pages : goal.returns-in_default-clause-pages
returns-in_default-clause-pages g c = no_page c.new-pages.result.entries c.args.number c.args.page c.new-pages.ensures.empty c.in_default.is
