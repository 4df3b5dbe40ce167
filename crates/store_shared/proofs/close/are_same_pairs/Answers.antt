use Rattle.std.proofs.lemmas.Slice.Eq.{slice_eq-Decides}
use Rattle.store_shared.proofs.CloseLemmas.{same_pair}
use Rattle.store_shared.proofs.close.are_same_pairs.Goals as goal

pub returns : goal.returns
returns g c = slice_eq-Decides same_pair c.args.one.now c.args.other.now c.eq.result c.eq.ensures
