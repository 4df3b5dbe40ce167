use Rattle.std.proofs.Common.{◌≡◌, ℕ, ◌<◌, ◌*◌, ◌/◌, ◌%◌, ◌^◌, ◌-◌, List, sym, ap, ◌∙◌, arith, subst, length, set as set_item, get_or, bit_or, length-set}
use Rattle.std.specs.FinSet as set
use Rattle.sdbm_addr.specs.Directory.{IsDirectory, Splits}
use Rattle.sdbm_dir.specs.Words.{word_of, HasParent}
use Rattle.sdbm_dir.specs.Bitmap.{splits_of, IsBitmap}
use Rattle.sdbm_dir.specs.Marks.{Marks}
use Rattle.sdbm_dir.proofs.BitmapLemmas.{IsDirectory-more, HasBitMore-set, splits_of-more}
use Rattle.sdbm_dir.proofs.Dir.mark.Goals as goal

marked : (bytes : List ℕ) (bit old : ℕ) → bit < 8 * length bytes → old ≡ get_or bytes (bit / 8) old
    → splits_of (set_item bytes (bit / 8) (bit_or old (1 * 2 ^ (bit % 8) % 2 ^ 8))) ≡ set.insert (splits_of bytes) (word_of bit)
marked bytes bit old l e = splits_of-more bytes _ bit (HasBitMore-set bytes bit old (omega arith) e)

IsBitmap-more : (bytes : List ℕ) (bit old : ℕ) → IsBitmap bytes → bit < 8 * length bytes → bit < 2 ^ 31 - 1 → HasParent (splits_of bytes) bit → old ≡ get_or bytes (bit / 8) old
    → IsBitmap (set_item bytes (bit / 8) (bit_or old (1 * 2 ^ (bit % 8) % 2 ^ 8)))
IsBitmap-more bytes bit old p l low has e = record {
  directory = subst (λ (d : Splits). IsDirectory d) (sym (marked bytes bit old l e)) (IsDirectory-more (splits_of bytes) bit p.directory low has);
  short = rw length-set p.short;
  blocks = rw length-set p.blocks;
}

pub invariant_of-self : goal.invariant_of-self
invariant_of-self g c =
    let grown = rw (← c.self.view_is) at c.requires.grown in
    let has = rw (← c.self.view_is) at c.requires.parent in
    IsBitmap-more c.self.inside.bits.items c.args.bit c.index_mut.result.now c.self.invariant grown c.requires.shallow has c.index_mut.ensures.value

pub returns-clause-splits : goal.returns-clause-splits
returns-clause-splits g c =
    let grown = rw (← c.self.view_is) at c.requires.grown in
    marked c.self.inside.bits.items c.args.bit c.index_mut.result.now grown c.index_mut.ensures.value ∙ ap (λ (m : Marks). set.insert m.splits (word_of c.args.bit)) c.self.view_is
