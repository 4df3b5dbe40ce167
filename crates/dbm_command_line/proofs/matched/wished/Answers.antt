use Rattle.std.proofs.Common.{refl}
use Rattle.dbm_command_line.proofs.Matches.{differs}
use Rattle.dbm_command_line.proofs.matched.wished.Goals as goal

pub returns-in_default-clause-none : goal.returns-in_default-clause-none
returns-in_default-clause-none c = λ _. rw (differs _ _ c.requires.session, differs _ _ c.requires.backup, differs _ _ c.requires.programs, differs _ _ c.in_default.not-fetch, differs _ _ c.in_default.not-store, differs _ _ c.in_default.not-delete, differs _ _ c.in_default.not-rename, differs _ _ c.in_default.not-list, differs _ _ c.in_default.not-keys, differs _ _ c.in_default.not-count, differs _ _ c.in_default.not-check, differs _ _ c.in_default.not-stats, differs _ _ c.in_default.not-script, differs _ _ c.in_default.not-widen, differs _ _ c.in_default.not-compact, differs _ _ c.in_default.not-dump, differs _ _ c.in_default.not-load, differs _ _ c.in_default.not-asm, differs _ _ c.in_default.not-disasm, differs _ _ c.in_default.not-verify, differs _ _ c.in_default.not-run, differs _ _ c.in_default.not-incr, differs _ _ c.in_default.not-each, differs _ _ c.in_default.not-batch) refl
