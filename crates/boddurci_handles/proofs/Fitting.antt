-- Databases within the longest `.pag`, before and after calls.
use Rattle.std.proofs.Common.{◌≡◌, ◌≢◌, ℕ, ◌<◌, ◌≤◌, ◌||◌, nat_lt, List, [], ◌∷◌, Bool, true, false, cond, unwrap_or, Option, Some, None, refl, sym, ap, ◌∙◌, subst, arith, eqb}
use Rattle.std.proofs.lemmas.Bool.{eqb-true}
use Rattle.std.specs.List.{list_all}
use Rattle.std.specs.Ordering.{nat_cmp}
use Rattle.std.specs.FinMap as map
use Rattle.std.specs.FinMap.{FinMap}
use Rattle.std.specs.Option.{option_map}
use Rattle.std.specs.declared.alloc.Global.{Global}
use Rattle.sdbm_addr.specs.declared.PageSize.{PageSize}
use Rattle.sdbm_addr.specs.Pairs.{Pair, Content}
use Rattle.sdbm_addr.specs.Database.{Database, IsDatabase, pairs_at, put_page}
use Rattle.sdbm_dir.specs.declared.Place.{Place}
use Rattle.sdbm_split.specs.Planned.{PageChange}
use Rattle.sdbm_files.specs.Installed.{put_all}
use Rattle.sdbm_files.specs.Limits.{most_pages, is_bare, FitsFiles}
use Rattle.sdbm_files.proofs.PutLemmas.{pairs-put_page}
use Rattle.sdbm_files.proofs.Fitting.{both}
use Rattle.store_cmd.specs.Command.{IsSmall}
use Rattle.store_cmd.specs.declared.Command.{Command}
use Rattle.store_cmd.specs.declared.Reply.{Reply}
use Rattle.store_moves.specs.Acts.{Acts}
use Rattle.store_moves.specs.Leads.{FillsNone, IsPlaceOf, MayChange, changed_by}
use Rattle.store_moves.specs.Worked.{IsWorked}
use Rattle.store_moves.specs.Works.{works, change_of, key_of, HasKey, HasEnd}
use Rattle.store_moves.specs.declared.worked.Worked.{Worked}
use Rattle.store_moves.proofs.Acting.{Acts-on_page}
use Rattle.store_moves.proofs.Lifting.{works_lead}
use Rattle.boddurci_handles.specs.Growth.{FitsWithin, has_pairs, has_room, may_grow, most_in}

-- ---- pages put in

below : (n m : ℕ) → nat_lt n m ≡ true → n < m
below n m t = grind arith

not_below : (n m : ℕ) → nat_lt n m ≡ false → m ≤ n
not_below n m t = grind arith

least : (limit most : ℕ) → (cond (nat_lt limit most) limit most ≤ most) × (cond (nat_lt limit most) limit most ≤ limit)
least limit most = at (nat_lt limit most) refl
  where
    at : (b : Bool) → nat_lt limit most ≡ b → (cond b limit most ≤ most) × (cond b limit most ≤ limit)
    at true t = let low : limit < most = below limit most t in (omega (arith, low), omega arith)
    at false t = (omega arith, not_below limit most t)

-- each page that has pairs has a number below `bound`
abbrev AreBelow : ℕ → FinMap nat_cmp (List Pair) → Type 0
AreBelow bound pages = (n : ℕ) → unwrap_or (map.get pages n) [] ≢ [] → n < bound

placed : (most bound n : ℕ) (pairs : List Pair) → most ≤ bound → (is_bare pairs || nat_lt n most) ≡ true → pairs ≢ [] → n < bound
placed most bound n [] few t some = absurd (some refl)
placed most bound n (e ∷ es) few t some = let low : n < most = below n most t in omega (arith, low, few)

put_below : (bound : ℕ) (pages : FinMap nat_cmp (List Pair)) (k : ℕ) (pairs : List Pair) → (pairs ≢ [] → k < bound) → AreBelow bound pages → AreBelow bound (put_page pages k pairs)
put_below bound pages k pairs place all n some = at (eqb n k) refl (subst (λ (ps : List Pair). ps ≢ []) (pairs-put_page pages k pairs n) some)
  where
    at : (b : Bool) → eqb n k ≡ b → cond b pairs (unwrap_or (map.get pages n) []) ≢ [] → n < bound
    at true t here = subst (λ (i : ℕ). i < bound) (sym (eqb-true n k t)) (place here)
    at false t there = all n there

all_below : (most bound : ℕ) → most ≤ bound → (pages : FinMap nat_cmp (List Pair)) (es : List (ℕ × Content)) → list_all (has_room most) es ≡ true → AreBelow bound pages → AreBelow bound (put_all pages es)
all_below most bound few pages [] t all = all
all_below most bound few pages (e ∷ es) t all =
    let parts = both (has_room most e) (list_all (has_room most) es) t in
    all_below most bound few (put_page pages e.0 e.1.pairs) es parts.1 (put_below bound pages e.0 e.1.pairs (placed most bound e.0 e.1.pairs few parts.0) all)

-- a page that had pairs before keeps its place
place_stays : (most bound : ℕ) (before : List Pair) (number : ℕ) (leaf : Content) → most ≤ bound → (has_pairs before || has_room most (number, leaf)) ≡ true → (before ≢ [] → number < bound) → leaf.pairs ≢ [] → number < bound
place_stays most bound [] number leaf few place low some = placed most bound number leaf.pairs few place some
place_stays most bound (e ∷ es) number leaf few place low some = low (λ none. let no : e ∷ es ≡ [] = none in cc)

-- a change whose pages are among the first `most`
within_changed : (db : Database) (number : ℕ) (change : Option PageChange) (most bound : ℕ) → most ≤ bound → may_grow most (has_pairs (pairs_at db number)) number change ≡ true → FitsWithin bound db → FitsWithin bound (changed_by db number change)
within_changed db number None most bound few may fits = fits
within_changed db number (Some change) most bound few may fits =
    let parts = both (has_pairs (pairs_at db number) || has_room most (number, change.leaf)) (list_all (has_room most) change.twins) may in
    all_below most bound few (put_page db.pages number change.leaf.pairs) change.twins parts.1
    (put_below bound db.pages number change.leaf.pairs (place_stays most bound (pairs_at db number) number change.leaf few parts.0 (fits number)) fits)

fits_changed : (db : Database) (number : ℕ) (change : Option PageChange) (limit : ℕ) → may_grow (most_in db.size limit) (has_pairs (pairs_at db number)) number change ≡ true → FitsFiles db → FitsFiles (changed_by db number change)
fits_changed db number None limit may fits = fits
fits_changed db number (Some change) limit may fits = within_changed db number (Some change) (most_in db.size limit) (most_pages db.size) (least limit (most_pages db.size)).0 may fits

-- a command that gave pairs to no page without pairs
pub fits_filled : {A : Type 0} (old new : Database) (command : Command A) (reply : Reply A) → Acts old (record { session = 0; command = command; reply = reply }) new → FillsNone old new → FitsFiles old → FitsFiles new
fits_filled old new command reply acts fills fits n some = subst (λ (size : PageSize). n < most_pages size) (sym acts.move.size) (fits n (λ none. some (fills n none)))

pub within_filled : (bound : ℕ) (old new : Database) → FillsNone old new → FitsWithin bound old → FitsWithin bound new
within_filled bound old new fills fits n some = fits n (λ none. some (fills n none))

-- a result that was computed on the page of its place, and put in
module _ (db : Database) (ok : IsDatabase db) (place : Place) (command : Command Global) (keyed : HasKey command) (small : IsSmall db.size command) (leads : IsPlaceOf db (key_of command) place) (worked : Worked Global) (is : IsWorked (works place db.kind db.size (pairs_at db place.page) 0 command) worked) where
  pub may_put_worked : MayChange db place.page (option_map change_of worked.change)
  may_put_worked = subst (λ (x : Option PageChange). MayChange db place.page x) (sym is.change) (works_lead db ok place 0 command keyed small leads).may

  pub put_worked : HasEnd (pairs_at db place.page) 0 command → (db' : Database) → db' ≡ changed_by db place.page (option_map change_of worked.change) → Acts db (record { session = 0; command = command; reply = worked.reply }) db'
  put_worked ends db' installed =
      Acts-on_page db db' ok place 0 command worked.reply keyed small leads ends is.reply (installed ∙ ap (λ x. changed_by db place.page x) is.change)

  module _ (limit : ℕ) (may : may_grow (most_in db.size limit) (has_pairs (pairs_at db place.page)) place.page (option_map change_of worked.change) ≡ true) (db' : Database) (installed : db' ≡ changed_by db place.page (option_map change_of worked.change)) where
    pub fits_worked : FitsFiles db → FitsFiles db'
    fits_worked fits = subst FitsFiles (sym installed) (fits_changed db place.page (option_map change_of worked.change) limit may fits)

    pub within_worked : FitsWithin limit db → FitsWithin limit db'
    within_worked fits =
        subst (λ (d : Database). FitsWithin limit d) (sym installed)
        (within_changed db place.page (option_map change_of worked.change) (most_in db.size limit) limit (least limit (most_pages db.size)).1 may fits)
