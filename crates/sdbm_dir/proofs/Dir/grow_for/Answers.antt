use Rattle.std.proofs.Common.{◌≡◌, ◌<◌, ◌≤◌, ◌+◌, ◌*◌, ◌^◌, ◌/◌, ℕ, List, length, get_or, arith, subst, sym, ap, ◌∙◌, refl}
use Rattle.sdbm_addr.specs.Directory.{IsDirectory, Splits}
use Rattle.sdbm_dir.specs.Bitmap.{splits_of, IsBitmap}
use Rattle.sdbm_dir.specs.Marks.{Marks}
use Rattle.sdbm_dir.proofs.BitmapLemmas.{splits_of-same}
use Rattle.sdbm_dir.proofs.FileLemmas.{bits_same, padded}
use Rattle.sdbm_dir.proofs.Dir.grow_for.Goals as goal

grown : (old new : List ℕ) (size len : ℕ) → len ≡ length old → length old < size → length new ≡ size
    → ((k : ℕ) (d : ℕ) → k < size → k < len → get_or new k d ≡ get_or old k d) → ((k : ℕ) (d : ℕ) → len ≤ k → k < size → get_or new k d ≡ 0) → splits_of new ≡ splits_of old
grown old new size len is l e low high = splits_of-same old new (bits_same old new (padded old new size len is (omega arith) e low high))

IsBitmap-grown : (old new : List ℕ) (bit : ℕ) → bit < 2 ^ 32 → IsBitmap old → length new ≡ (bit / 8 / 4096 + 1) * 4096 → splits_of new ≡ splits_of old → IsBitmap new
IsBitmap-grown old new bit l p e s = record {
  directory = subst (λ (d : Splits). IsDirectory d) (sym s) p.directory;
  short = omega arith;
  blocks = omega arith;
}

pub invariant_of-self : goal.invariant_of-self
invariant_of-self g c =
    IsBitmap-grown c.self.inside.bits.items c.resize.new.self.items c.args.bit (omega (arith, c.ranges.bit)) c.self.invariant (sym c.resize.new.self.ok.0 ∙ c.in_ok-resize.ensures.len)
    (grown c.self.inside.bits.items c.resize.new.self.items _ _ c.self.inside.bits.ok.0 (omega (arith, c.if-size-len.true, c.len.ensures)) (sym c.resize.new.self.ok.0 ∙ c.in_ok-resize.ensures.len) c.in_ok-resize.ensures.by_index.0 (λ k d. c.in_ok-resize.ensures.by_index.1 k d refl))

pub returns-in_ok-resize-clause-splits : goal.returns-in_ok-resize-clause-splits
returns-in_ok-resize-clause-splits g c =
    grown c.self.inside.bits.items c.resize.new.self.items _ _ c.self.inside.bits.ok.0 (omega (arith, c.if-size-len.true, c.len.ensures)) (sym c.resize.new.self.ok.0 ∙ c.in_ok-resize.ensures.len) c.in_ok-resize.ensures.by_index.0 (λ k d. c.in_ok-resize.ensures.by_index.1 k d refl)
    ∙ ap (λ (m : Marks). m.splits) c.self.view_is
