use Rattle.std.proofs.Common.{arith}
use Rattle.std.proofs.lemmas.Bool.{false_from_ne_true}
use Rattle.byte_text.proofs.Steps.{no_escape}
use Rattle.byte_text.proofs.escapes.read_escapes.Goals as goal

pub returns-in-None : goal.returns-in-None
returns-in-None g c = rw (no_escape c.args.text.now (λ k h. false_from_ne_true _ (c.in-None.ensures k (omega arith) h))) c.put_all.ensures
