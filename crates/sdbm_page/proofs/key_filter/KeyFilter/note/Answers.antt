use Rattle.std.proofs.Common.{arith}
use Rattle.sdbm_page.proofs.Apart.{note_kept, note_added}
use Rattle.sdbm_page.proofs.key_filter.KeyFilter.note.Goals as goal

pub returns-clause-noted : goal.returns-clause-noted
returns-clause-noted c = note_added _ _ _ _ (omega arith) c.stirred-sum.ensures c.marks.ensures

pub returns-clause-kept : goal.returns-clause-kept
returns-clause-kept c = λ other h. note_kept _ other _ _ (omega arith) h
