use Rattle.std.proofs.Common.{◌∙◌, sym}
use Rattle.sdbm_files.proofs.SomePages.{pairs_there, pairs_nowhere}
use Rattle.sdbm_files.proofs.Image.has_pairs.Goals as goal

pub returns-clause-yes : goal.returns-clause-yes
returns-clause-yes g c = λ there. pairs_there c.args.self.now c.page.ensures.database c.args.number c.page.result c.page.ensures.pairs (sym c.is_some.ensures ∙ there)

pub returns-clause-no : goal.returns-clause-no
returns-clause-no g c = λ missing. pairs_nowhere c.args.self.now c.args.number c.page.result c.page.ensures.pairs (sym c.is_some.ensures ∙ missing)
