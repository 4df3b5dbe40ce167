use Rattle.std.proofs.Common.{◌≡◌, ◌≤◌, ℕ, List, take, replicate, refl, ap, ◌∙◌}
use Rattle.std.proofs.lemmas.List.{take-replicate}
use Rattle.dbm_stats.proofs.bar_lines.signs.Goals as goal

first_signs : (n : ℕ) (signs : List ℕ) → n ≤ 40 → signs ≡ replicate 40 35 → take n signs ≡ replicate n 35
first_signs n signs h are = ap (take n) are ∙ take-replicate n 40 35 h

pub returns : goal.returns
returns c = first_signs c.args.count _ c.requires refl
