use Rattle.std.proofs.Common.{◌≡◌, ◌<◌, ◌≤◌, ◌+◌, ◌-◌, ◌∙◌, ℕ, List, get_or, take, drop, replicate, ap, sym, arith}
use Rattle.std.proofs.lemmas.Slice.Eq.{bytes_eq-Decides}
use Rattle.std.proofs.lemmas.List.{get_or-take, get_or-drop, get_or-replicate}
use Rattle.sdbm_dir.proofs.bitmap.is_zero_piece.Goals as goal

-- a byte of a piece that equals zeros is zero
zero_at : (bytes zeros : List ℕ) (start n k : ℕ) → n ≡ 64 → take n (drop start bytes) ≡ zeros → zeros ≡ replicate 64 0 → start ≤ k → k < start + 64 → get_or bytes k 0 ≡ 0
zero_at bytes zeros start n k size same are from to =
    let place : start + (k - start) ≡ k = omega arith in
    ap (λ i. get_or bytes i 0) (sym place) ∙ sym (get_or-drop start bytes (k - start) 0) ∙ sym (get_or-take n (drop start bytes) (k - start) 0 (omega arith))
    ∙ ap (λ (xs : List ℕ). get_or xs (k - start) 0) (same ∙ are) ∙ get_or-replicate 64 (k - start) 0 0 (omega arith)

pub returns : goal.returns
returns c = λ t k from to.
    let cut = take (c.args.start + 64 - c.args.start) (drop c.args.start c.args.bytes.now) in
    let same : cut ≡ c.as_slice.result.now = (bytes_eq-Decides cut c.as_slice.result.now).0 (sym c.eq.ensures ∙ t) in
    zero_at c.args.bytes.now c.as_slice.result.now c.args.start (c.args.start + 64 - c.args.start) k (omega arith) same c.as_slice.ensures from to
