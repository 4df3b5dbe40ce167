-- Checking lines one by one.
use Rattle.std.proofs.Common.{◌≡◌, ◌||◌, ◌∷◌, Bool, List, ℕ, false, refl, subst, sym, true}
use Rattle.std.specs.List.{list_any}
use Rattle.std.specs.declared.alloc.Global.{Global}
use Rattle.dbm_script.specs.declared.notations.Notation.{Notation}
use Rattle.dbm_databases.specs.Playing.{is_bad_line}

-- after a good line, the rest decides
pub passed : (n : Notation Global) (line : List ℕ) (rest : List (List ℕ)) (whole : Bool) → is_bad_line n line ≡ false → list_any (is_bad_line n) (line ∷ rest) ≡ whole → list_any (is_bad_line n) rest ≡ whole
passed n line rest whole good is = subst (λ (b : Bool). (b || list_any (is_bad_line n) rest) ≡ whole) good is

-- a bad line decides
pub found : (n : Notation Global) (line : List ℕ) (rest : List (List ℕ)) → is_bad_line n line ≡ true → list_any (is_bad_line n) (line ∷ rest) ≡ true
found n line rest bad = subst (λ (b : Bool). (b || list_any (is_bad_line n) rest) ≡ true) (sym bad) refl
