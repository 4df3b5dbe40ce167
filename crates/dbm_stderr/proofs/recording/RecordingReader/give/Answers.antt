use Rattle.std.proofs.Common.{◌≡◌, ◌-◌, ℕ, List, ◌++◌, length, take, drop, sym, ◌∙◌, ap, arith, length-take-le, length-drop}
use Rattle.std.proofs.lemmas.List.{take-append-drop, drop-drop, take_all}
use Rattle.std.proofs.Math.Seq.{take-append_seam}
use Rattle.dbm_stderr.proofs.recording.RecordingReader.give.Goals as goal

pub returns-clause-bytes : goal.returns-clause-bytes
returns-clause-bytes g c =
    let n : ℕ = c.min-count.result in
    let ahead : List ℕ = c.args.self.now.ahead.items in
    let xs : List ℕ = drop c.args.self.now.given ahead in
    let copied : List ℕ = c.copy_from_slice.new.self in
    let rest : List ℕ = drop n c.args.buf.now in
    let given : ℕ = c.args.self.now.given in
    let is : copied ≡ take n xs =
    c.copy_from_slice.ensures.after
    ∙ ap (λ (l : List ℕ). take n (take (length l - given) (drop given l))) c.deref.ensures.value
    ∙ ap (λ (l : List ℕ). take n l) (take_all (length ahead - given) xs (omega (arith, length-drop given ahead))) in
    let long : length copied ≡ n = omega (arith, c.copy_from_slice.ensures.len, length-take-le n c.args.buf.now (omega (arith, c.min-count.ensures))) in
    let first : take n (copied ++ rest) ≡ copied = ap (λ (k : ℕ). take k (copied ++ rest)) (sym long) ∙ take-append_seam copied rest in
    sym (take-append-drop n xs)
    ∙ ap (λ (l : List ℕ). l ++ drop n xs) (sym (first ∙ is))
    ∙ ap (λ (l : List ℕ). take n (copied ++ rest) ++ l) (drop-drop n c.args.self.now.given ahead)
