use Rattle.std.proofs.Common.{arith}
use Rattle.std.proofs.lemmas.Bool.{false_from_ne_true}
use Rattle.byte_text.proofs.Cuts.{whole_from_none}
use Rattle.byte_text.proofs.parts.first_part.Goals as goal

pub returns-in-None : goal.returns-in-None
returns-in-None c = whole_from_none c.args.text.now (λ k h. false_from_ne_true _ (c.in-None.ensures k (omega arith) h))
