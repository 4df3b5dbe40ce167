-- The statistics of a database as text, one on each line, and as a JSON object.
use Rattle.std.specs.Prelude.{ℕ, ◌+◌, ◌-◌, ◌*◌, ◌/◌, ◌%◌, ◌==◌, ◌++◌, max, min, cond, codes, decimal, drop, length, replicate, slice_index_or, List, [], ◌∷◌}
use Rattle.std.specs.List.{flat_map, range_with_len}
use Rattle.dbm_stats.specs.declared.stats.Stats.{Stats}
use Rattle.dbm_stats.specs.declared.totals.PairTotals.{PairTotals}
use Rattle.dbm_stats.specs.declared.depths.Depths.{Depths}
use Rattle.dbm_stats.specs.declared.fullest.PageRoom.{PageRoom}
use Rattle.dbm_stats.specs.Totals.{greatest}
use Rattle.dbm_stats.specs.Json.{field, next_field}

-- ---- text

-- a line with a label and a number
abbrev pub row : List ℕ → ℕ → List ℕ
row label n = label ++ (decimal n ++ 10 ∷ [])

abbrev pub pair_rows : PairTotals → List ℕ
pair_rows t =
    row (codes "pairs                    ") t.count ++ row (codes "bytes of keys            ") t.key_bytes ++ row (codes "bytes of values          ") t.value_bytes
    ++ row (codes "bytes of longest key     ") t.longest_key ++ row (codes "bytes of longest pair    ") t.longest_pair

abbrev pub file_rows : {A : Type 0} → Stats A → List ℕ
file_rows s =
    row (codes "pages with pairs         ") s.used ++ row (codes "pages without (holes)    ") s.holes ++ row (codes "bytes of .dir            ") s.dir_bytes
    ++ row (codes "bytes of .pag            ") s.pag_bytes ++ row (codes "bytes of .pag, widened   ") s.wide_bytes

-- a quotient with one decimal, rounded down; a divisor of 0 counts as 1
abbrev pub quotient : ℕ → ℕ → List ℕ
quotient sum n = decimal (sum / max n 1) ++ (46 ∷ decimal (sum % max n 1 * 10 / max n 1))

abbrev pub depth_rows : ℕ → Depths → ℕ → List ℕ
depth_rows splits d used =
    row (codes "splits                   ") splits ++ row (codes "least depth of a page    ") d.least
    ++ (codes "average depth            " ++ (quotient d.sum used ++ 10 ∷ [])) ++ row (codes "greatest depth           ") d.greatest

-- the length of the bar for n, if 40 signs represent `most`; an n above 0 has at least one sign
abbrev pub bar_length : ℕ → ℕ → ℕ
bar_length most n = min ((40 * n + (most - 1)) / max most 1) 40

abbrev pub percent : ℕ → List ℕ
percent i = cond (i == 0) (32 ∷ 48 ∷ []) (decimal (10 * i))

-- the line of the n pages that are at least i and less than i + 1 tenths full: a bar and the number n
abbrev pub bar_row : ℕ → ℕ → ℕ → List ℕ
bar_row most i n = codes "from " ++ (percent i ++ (codes "%  " ++ (replicate (bar_length most n) 35 ++ (32 ∷ (decimal n ++ 10 ∷ [])))))

abbrev pub bar_rows : List ℕ → List ℕ
bar_rows bars = flat_map (λ i. bar_row (greatest (λ n. n) bars) i (slice_index_or bars i 0)) (range_with_len 0 (length bars))

abbrev pub full_row : PageRoom → List ℕ
full_row r = codes "page " ++ (decimal r.number ++ (codes ": " ++ (decimal r.free ++ codes " bytes free\n")))

abbrev pub figures_text : {A : Type 0} → Stats A → List ℕ
figures_text s =
    pair_rows s.pairs ++ file_rows s ++ depth_rows s.splits s.depths s.used ++ codes "pages by how full they are\n" ++ bar_rows s.bars.items
    ++ codes "pages nearest to full\n" ++ flat_map full_row s.fullest.items

-- ---- JSON

-- the texts of the elements of a list, made by f, separated by commas
abbrev pub between_commas : {X : Type 0} → (X → List ℕ) → List X → List ℕ
between_commas f xs = drop 1 (flat_map (λ x. 44 ∷ f x) xs)

abbrev pub room_object : PageRoom → List ℕ
room_object r = 123 ∷ (field (codes "page") r.number ++ (next_field (codes "free") r.free ++ 125 ∷ []))

abbrev pub pair_fields : PairTotals → List ℕ
pair_fields t =
    field (codes "pairs") t.count ++ next_field (codes "key_bytes") t.key_bytes ++ next_field (codes "value_bytes") t.value_bytes
    ++ next_field (codes "longest_key") t.longest_key ++ next_field (codes "longest_pair") t.longest_pair

abbrev pub file_fields : {A : Type 0} → Stats A → List ℕ
file_fields s =
    next_field (codes "pages") s.used ++ next_field (codes "holes") s.holes ++ next_field (codes "dir_bytes") s.dir_bytes
    ++ next_field (codes "pag_bytes") s.pag_bytes ++ next_field (codes "wide_bytes") s.wide_bytes

abbrev pub depth_fields : ℕ → Depths → List ℕ
depth_fields splits d =
    next_field (codes "splits") splits ++ next_field (codes "least_depth") d.least ++ next_field (codes "greatest_depth") d.greatest
    ++ next_field (codes "depth_sum") d.sum

abbrev pub figures_object : {A : Type 0} → Stats A → List ℕ
figures_object s =
    (123 ∷ []) ++ pair_fields s.pairs ++ file_fields s ++ depth_fields s.splits s.depths ++ (44 ∷ 34 ∷ (codes "fill" ++ (34 ∷ 58 ∷ 91 ∷ []))) ++ between_commas decimal s.bars.items
    ++ (93 ∷ 44 ∷ 34 ∷ (codes "fullest" ++ (34 ∷ 58 ∷ 91 ∷ []))) ++ between_commas room_object s.fullest.items ++ (93 ∷ 125 ∷ 10 ∷ [])
