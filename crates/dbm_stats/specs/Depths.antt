-- The depths of pages.
use Rattle.std.specs.Prelude.{ℕ, min, List, slice_index_or}
use Rattle.std.specs.List.{fold, sum}
use Rattle.dbm_stats.specs.Totals.{greatest}
use Rattle.dbm_stats.specs.declared.depths.Depths.{Depths}

-- the least of the numbers, or 0 if the list is empty
abbrev pub least : List ℕ → ℕ
least ns = fold (λ a n. min a n) (slice_index_or ns 0 0) ns

abbrev pub depths_of : List ℕ → Depths
depths_of ds = record { least = least ds; greatest = greatest (λ d. d) ds; sum = sum ds }
