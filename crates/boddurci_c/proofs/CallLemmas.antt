-- The effects of calls on a handle.
use Rattle.std.proofs.Common.{◌≡◌, ℕ, ◌*◌, ◌%◌, List, [], Option, Some, None, unwrap_or, length, refl, sym, ap, ◌∙◌, subst}
use Rattle.std.specs.FinMap as map
use Rattle.std.proofs.Math.Nat.{mul-mod_left}
use Rattle.sdbm_addr.specs.Hash.{hash_of}
use Rattle.sdbm_addr.specs.Directory.{page_of}
use Rattle.sdbm_addr.specs.Pairs.{Pair, value_of, value_at, IsPlace, page_bytes}
use Rattle.sdbm_addr.specs.declared.KeyBytes.{KeyBytes}
use Rattle.sdbm_addr.specs.declared.PageSize.{PageSize}
use Rattle.sdbm_addr.specs.Database.{Database, IsDatabase, map_of, pairs_at}
use Rattle.sdbm_addr.proofs.DatabaseLemmas.{get-map_of}
use Rattle.boddurci_handles.specs.declared.opened.Db.{Db}
use Rattle.boddurci_handles.specs.declared.status.Status.{Status}
use Rattle.boddurci_handles.specs.declared.status.Status.TheVariants.{Closed}
use Rattle.boddurci_handles.specs.Statuses.{status_code}
use Rattle.boddurci_c.specs.Calls.{HandleShows, Why, CallDenies, IsDbOpened, open_word}

-- a call of a closed handle
pub closed_denies : (P : Db → Status → Type 0) (old new : Option Db) (code : ℕ) → old ≡ None → new ≡ None → code ≡ status_code Closed → CallDenies P old code new
closed_denies P old new code e e' is = record { status = Closed; code_is = is; same = e' ∙ sym e; why = subst (λ o. Why P o Closed) (sym e) refl }

-- a call that is denied by an open handle's database
pub denies : (P : Db → Status → Type 0) (old new : Option Db) (code : ℕ) (d d' : Db) (status : Status) → old ≡ Some d → new ≡ Some d' → d' ≡ d → code ≡ status_code status → P d status → CallDenies P old code new
denies P old new code d d' status e e' same is why = record { status = status; code_is = is; same = e' ∙ ap Some same ∙ sym e; why = subst (λ o. Why P o status) (sym e) why }

-- a call that only reads
pub shows : (P : Db → Type 0) (old new : Option Db) (d d' : Db) → old ≡ Some d → new ≡ Some d' → d' ≡ d → P d → HandleShows old new P
shows P old new d d' e e' same is = record { db = d; old_is = e; same = e' ∙ ap Some same ∙ sym e; is = is }

-- a handle that is not open
pub shut : (held : Option Db) → (open_word held ≡ 1 → ⊥) → held ≡ None
shut None wrong = refl
shut (Some d) wrong = absurd (wrong refl)

-- the files of a database have whole pages
pub whole : (kind : KeyBytes) (size : PageSize) (dir pag : List ℕ) (d : Db) → IsDbOpened kind size dir pag d → length pag % page_bytes size ≡ 0
whole kind size dir pag d is =
    ap (λ n. n % page_bytes size) (is.spells.pages.long ∙ ap (λ s. is.spells.count * page_bytes s) is.size_is) ∙ mul-mod_left is.spells.count (page_bytes size)

-- the value of a key is on the page of the key
module _ (db : Database) (ok : IsDatabase db) (key : List ℕ) (n : ℕ) (leads : n ≡ page_of db.splits (hash_of db.kind key)) where
  on_page : (page : Option (List Pair)) → page ≡ map.get db.pages n → value_of (unwrap_or page []) key ≡ map.get (map_of db) key
  on_page page e = ap (λ o. value_of (unwrap_or o []) key) e ∙ ap (λ k. value_of (pairs_at db k) key) leads ∙ sym (get-map_of db ok key)

  pub no_page : None ≡ map.get db.pages n → None ≡ map.get (map_of db) key
  no_page e = on_page None e

  pub not_there : (pairs : List Pair) → Some pairs ≡ map.get db.pages n → value_of pairs key ≡ None → None ≡ map.get (map_of db) key
  not_there pairs e absent = sym absent ∙ on_page (Some pairs) e

  pub there : (pairs : List Pair) (i : ℕ) → Some pairs ≡ map.get db.pages n → IsPlace pairs key i → Some (value_at pairs i) ≡ map.get (map_of db) key
  there pairs i e place = sym place.has_value ∙ on_page (Some pairs) e
