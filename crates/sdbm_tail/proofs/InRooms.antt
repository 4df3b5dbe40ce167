-- A plan in a buffer, joined with the next plan.
use Rattle.std.proofs.Common.{◌≡◌, ℕ, zero, suc, ◌+◌, ◌≤◌, List, ◌++◌, length, take, drop, sym, refl, ◌∙◌, ap, arith, length-append, append_assoc}
use Rattle.std.proofs.lemmas.List.{take-append-le, drop-append-le, drop_all, take_all, length-take-le}
use Rattle.sdbm_saves.specs.Disk.{written}
use Rattle.sdbm_log.specs.Log.{joined, next_plan}

-- the bytes before and after those that were written
take_written : (at : ℕ) (bytes old : List ℕ) → at ≤ length old → take at (written at bytes old) ≡ take at old
take_written at bytes old inside =
    let front : length (take at old) ≡ at = length-take-le at old inside in
    take-append-le at (take at old) (bytes ++ drop (at + length bytes) old) (omega (arith, front)) ∙ take_all at (take at old) (omega (arith, front))

drop_written : (at : ℕ) (bytes old : List ℕ) → at ≤ length old → drop at (written at bytes old) ≡ bytes ++ drop (at + length bytes) old
drop_written at bytes old inside =
    let front : length (take at old) ≡ at = length-take-le at old inside in
    drop-append-le at (take at old) (bytes ++ drop (at + length bytes) old) (omega (arith, front))
    ∙ ap (λ (l : List ℕ). l ++ (bytes ++ drop (at + length bytes) old)) (drop_all at (take at old) (omega (arith, front)))

-- bytes at the front, and bytes that were written after them
pub front_and_more : (at : ℕ) (head bytes old : List ℕ) → length head ≡ at → at + length bytes ≤ length old → take (at + length bytes) (head ++ drop at (written at bytes old)) ≡ head ++ bytes
front_and_more at head bytes old long inside =
    let rest : List ℕ = drop (at + length bytes) old in
    let sum : length (head ++ bytes) ≡ at + length bytes = omega (arith, length-append head bytes, long) in
    ap (λ (l : List ℕ). take (at + length bytes) (head ++ l)) (drop_written at bytes old (omega (arith, inside)))
    ∙ ap (λ (l : List ℕ). take (at + length bytes) l) (sym (append_assoc head bytes rest))
    ∙ take-append-le (at + length bytes) (head ++ bytes) rest (omega (arith, sum))
    ∙ take_all (at + length bytes) (head ++ bytes) (omega (arith, sum))

pub front_kept : (at : ℕ) (bytes old : List ℕ) → at ≤ length old → take at (written at bytes old) ≡ take at old
front_kept at bytes old inside = take_written at bytes old inside

-- a plan that is there
pub next_some : (n : ℕ) (first next : List ℕ) → 1 ≤ n → next_plan n first next ≡ joined first next
next_some zero first next some = absurd (omega (arith, some))
next_some (suc n) first next some = refl
