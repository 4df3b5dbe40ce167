-- Totals over pairs.
use Rattle.std.specs.Prelude.{ℕ, ◌+◌, ◌≤◌, max, List, length}
use Rattle.std.specs.List.{fold, sum_by}
use Rattle.sdbm_addr.specs.Pairs.{Pair}
use Rattle.dbm_stats.specs.declared.totals.PairTotals.{PairTotals}

-- the greatest value of f on the list, or 0 if the list is empty
abbrev pub greatest : {X : Type 0} → (X → ℕ) → List X → ℕ
greatest f xs = fold (λ a x. max a (f x)) 0 xs

-- the number of pairs, the lengths of all keys and of all values, and the lengths of the longest key and of the longest pair
abbrev pub totals_of : List Pair → PairTotals
totals_of pairs = record {
  count = length pairs;
  key_bytes = sum_by (λ e. length e.0) pairs;
  value_bytes = sum_by (λ e. length e.1) pairs;
  longest_key = greatest (λ e. length e.0) pairs;
  longest_pair = greatest (λ e. length e.0 + length e.1) pairs;
}

-- the totals over two lists of pairs together
abbrev pub joined_totals : PairTotals → PairTotals → PairTotals
joined_totals a b = record {
  count = a.count + b.count;
  key_bytes = a.key_bytes + b.key_bytes;
  value_bytes = a.value_bytes + b.value_bytes;
  longest_key = max a.longest_key b.longest_key;
  longest_pair = max a.longest_pair b.longest_pair;
}

-- the number of pairs, the bytes of keys and the bytes of values are at most n each
pub record AreBelow (t : PairTotals) (n : ℕ) : Type 0 where
  pub count : t.count ≤ n
  pub key_bytes : t.key_bytes ≤ n
  pub value_bytes : t.value_bytes ≤ n
