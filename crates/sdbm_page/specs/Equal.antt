-- Comparison of pages.
use Rattle.std.specs.Prelude.{ℕ, List, ◌∷◌}
use Rattle.sdbm_addr.specs.Pairs.{Content, page_bytes}
use Rattle.sdbm_addr.specs.Layout.{bytes_of_page}

-- the page size in bytes, followed by the bytes of the page
abbrev pub sized_bytes : Content → List ℕ
sized_bytes page = page_bytes page.size ∷ bytes_of_page page.size page.pairs
