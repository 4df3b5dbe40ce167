-- A page with another value in one of its pairs, or with one pair removed.
use Rattle.std.specs.Prelude.{ℕ, List, slice_set, remove}
use Rattle.sdbm_addr.specs.Pairs.{Pair, Content, key_at}

-- the result of replacing the value of pair i
abbrev pub with_value_in : List Pair → ℕ → List ℕ → List Pair
with_value_in pairs i value = slice_set pairs i (key_at pairs i, value)

abbrev pub rewritten : Content → ℕ → List ℕ → Content
rewritten content i value = record { size = content.size; pairs = with_value_in content.pairs i value }

-- the page without pair i
abbrev pub removed : Content → ℕ → Content
removed content i = record { size = content.size; pairs = remove content.pairs i }
