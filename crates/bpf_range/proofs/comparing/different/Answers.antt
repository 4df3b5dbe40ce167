use Rattle.std.proofs.Common.{sym}
use Rattle.bpf_range.proofs.comparing.different.Goals as goal

pub returns-clause-keeps : goal.returns-clause-keeps
returns-clause-keeps c = λ x y p q ne. (c.without.ensures.keeps x y p q ne, c.without-2.ensures.keeps y x q p (λ e. ne (sym e)))
