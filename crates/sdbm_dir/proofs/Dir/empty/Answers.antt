use Rattle.std.proofs.Common.{◌≡◌, [], refl, sym, ap, ◌∙◌, arith, subst}
use Rattle.std.specs.FinSet as set
use Rattle.sdbm_addr.specs.Directory.{IsDirectory, Splits}
use Rattle.sdbm_dir.specs.Bitmap.{splits_of}
use Rattle.sdbm_dir.proofs.BitmapLemmas.{IsDirectory-empty}
use Rattle.sdbm_dir.proofs.Dir.empty.Goals as goal

none : splits_of [] ≡ set.empty
unfolding splits_of
none = refl

pub invariant_of-result : goal.invariant_of-result
invariant_of-result g c = rw c.new.ensures.items record {
  directory = subst (λ (d : Splits). IsDirectory d) (sym none) IsDirectory-empty;
  short = omega arith;
  blocks = omega arith;
}

pub returns-clause-splits : goal.returns-clause-splits
returns-clause-splits g c = ap splits_of c.new.ensures.items ∙ none
