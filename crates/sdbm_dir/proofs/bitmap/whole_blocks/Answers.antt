use Rattle.std.proofs.Common.{◌≡◌, ◌++◌, ℕ, List, length, get_or, arith, sym, ap, ◌∙◌, refl}
use Rattle.sdbm_dir.proofs.FileLemmas.{padded}
use Rattle.sdbm_dir.proofs.bitmap.whole_blocks.Goals as goal

pub returns-clause-same : goal.returns-clause-same
returns-clause-same g c =
    let held : c.extend_from_slice.new.self.items ≡ c.args.bytes.now = c.in_ok-extend_from_slice.ensures.items ∙ ap (λ xs. xs ++ c.args.bytes.now) c.in_ok-made.ensures.items in
    let long : length c.extend_from_slice.new.self.items ≡ length c.args.bytes.now = ap length held in
    λ k. padded c.extend_from_slice.new.self.items c.resize.new.self.items _ _ c.extend_from_slice.new.self.ok.0 (omega (arith, c.div_ceil-size.ensures, long)) (sym c.resize.new.self.ok.0 ∙ c.in_ok-resize.ensures.len)
    c.in_ok-resize.ensures.by_index.0 (λ i d. c.in_ok-resize.ensures.by_index.1 i d refl) k
    ∙ ap (λ (xs : List ℕ). get_or xs k 0) held
