-- Existing pages, and page numbers.
use Rattle.std.proofs.Common.{◌≡◌, ◌≢◌, ℕ, List, [], Bor, true, false, Option, Some, None, IfSome, is_some, unwrap_or, sym, ap, ◌∙◌, ◌∷◌, refl, suc, arith, Contains}
use Rattle.std.specs.Option.{option_map}
use Rattle.std.specs.FinMap as map
use Rattle.sdbm_addr.specs.declared.KeyBytes.{KeyBytes}
use Rattle.sdbm_addr.specs.declared.PageSize.{PageSize}
use Rattle.sdbm_addr.specs.DirectoryFile.{SpellsDirectory}
use Rattle.sdbm_addr.specs.Layout.{Spells}
use Rattle.sdbm_addr.specs.Pairs.{Pair, Content}
use Rattle.sdbm_addr.specs.Database.{Database, IsDatabase, pairs_at}
use Rattle.sdbm_saves.specs.declared.part.Part.{Part}
use Rattle.store_parts.specs.Parts.{IsOpenedPage}

-- the postconditions of opening a page, as one record
pub opened_as : (part : Part) (kind : KeyBytes) (size : PageSize) (opened : Option Database) → IfSome opened (λ db. SpellsDirectory part.directory.now db.splits) → IfSome opened (λ db. db.kind ≡ kind) → IfSome opened (λ db. db.size ≡ size)
    → IfSome opened (λ db. Spells size part.page.now (pairs_at db part.number)) → IfSome opened (λ db. (n : ℕ) → n ≢ part.number → pairs_at db n ≡ []) → IfSome opened (IsOpenedPage part kind size)
opened_as part kind size None directory kinds sizes page others = tt
opened_as part kind size (Some db) directory kinds sizes page others = record { kind_is = kinds; size_is = sizes; directory = directory; page = page; others = others }

-- a number in front, followed by the rest
pub at_first : (x : ℕ) (xs : List ℕ) → Contains (x ∷ xs) x
at_first x xs = (0, omega arith, refl)

pub behind_first : (x : ℕ) (xs : List ℕ) (y : ℕ) → Contains xs y → Contains (x ∷ xs) y
behind_first x xs y h = let lt = h.1 in (suc h.0, omega arith, h.2)
