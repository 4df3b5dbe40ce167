-- Expanding shorthand line by line.
use Rattle.std.proofs.Common.{◌≡◌, ℕ, ◌<◌, List, [], ◌∷◌, ◌++◌, length, map, Option, Some, None, Bor, true, is_some, eqb, sym, ap, ◌∙◌, append_assoc, arith, rules}
use Rattle.std.proofs.lemmas.List.Splits.{length-slice_split}
use Rattle.std.specs.List.{join_with_byte}
use Rattle.dbm_script.specs.Pieces.{pieces_left}

-- a text that continues has lines left
pub lines_left : (after : Option (Bor (List ℕ))) → is_some after ≡ true → 0 < length (pieces_left 10 after)
lines_left None goes = let f : ⊥ = cc in absurd f
lines_left (Some text) goes = let long = length-slice_split (λ b. eqb b 10) text.now in omega arith

-- appending a line, and an LF if lines are left
pub next_line : (f : List ℕ → List ℕ) (text mid new line whole : List ℕ) (left rest : List (List ℕ)) → left ≡ line ∷ rest → 0 < length rest → mid ≡ text ++ f line → new ≡ mid ++ 10 ∷ []
    → text ++ join_with_byte 10 (map f left) ≡ whole → new ++ join_with_byte 10 (map f rest) ≡ whole
next_line f text mid new line whole left [] first more is end goes = absurd (search (rules, more))
next_line f text mid new line whole left (next ∷ rest) first more is end goes =
    let others = join_with_byte 10 (map f (next ∷ rest)) in
    ap (λ (t : List ℕ). t ++ others) end ∙ append_assoc mid (10 ∷ []) others ∙ ap (λ (t : List ℕ). t ++ 10 ∷ others) is ∙ append_assoc text (f line) (10 ∷ others)
    ∙ ap (λ (lines : List (List ℕ)). text ++ join_with_byte 10 (map f lines)) (sym first) ∙ goes
