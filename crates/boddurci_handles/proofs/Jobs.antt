-- A result computed on an unchanged page is the effect of one command on the database.
use Rattle.std.proofs.Common.{◌≡◌, ℕ, List, true, false, sym, ap, ◌∙◌, subst}
use Rattle.std.specs.Option.{option_map}
use Rattle.std.specs.declared.alloc.Global.{Global}
use Rattle.sdbm_addr.specs.declared.KeyBytes.{KeyBytes}
use Rattle.sdbm_addr.specs.declared.PageSize.{PageSize}
use Rattle.sdbm_addr.specs.Pairs.{Pair}
use Rattle.sdbm_addr.specs.Database.{Database, IsDatabase, pairs_at}
use Rattle.store_cmd.specs.Command.{IsSmall}
use Rattle.store_moves.specs.declared.worked.Worked.{Worked}
use Rattle.store_moves.specs.Acts.{Acts}
use Rattle.store_moves.specs.Leads.{MayChange, changed_by}
use Rattle.store_moves.specs.Worked.{IsWorked}
use Rattle.store_moves.specs.Works.{PageResult, works, change_of, HasEnd, IsWorkable}
use Rattle.boddurci_handles.specs.Asked.{Asked, asked_result, IsWorkedOut}
use Rattle.sdbm_files.specs.Limits.{FitsFiles}
use Rattle.boddurci_handles.specs.Growth.{FitsWithin, has_pairs, may_grow, most_in, Outgrows}
use Rattle.boddurci_handles.specs.Asked.{IsCurrent}
use Rattle.boddurci_handles.proofs.Fitting.{may_put_worked, put_worked, fits_worked, within_worked}

-- a command requested of the current database
module _ (db : Database) (a : Asked) (now : IsCurrent db a) where
  result_now : asked_result a ≡ works a.place db.kind db.size (pairs_at db a.place.page) 0 a.command
  result_now = ap (λ (k : KeyBytes). works a.place k a.page.size a.page.pairs 0 a.command) now.kind
      ∙ ap (λ (s : PageSize). works a.place db.kind s a.page.pairs 0 a.command) now.size
      ∙ ap (λ (ps : List Pair). works a.place db.kind db.size ps 0 a.command) now.pairs

  pub outgrows : (limit : ℕ) → may_grow (most_in a.page.size limit) (has_pairs a.page.pairs) a.place.page (asked_result a).change ≡ false → Outgrows limit db a.command
  outgrows limit out = record {
    place = a.place;
    leads = now.place;
    out = ap (λ (s : PageSize). may_grow (most_in s limit) (has_pairs (pairs_at db a.place.page)) a.place.page (works a.place db.kind db.size (pairs_at db a.place.page) 0 a.command).change) (sym now.size)
        ∙ ap (λ (ps : List Pair). may_grow (most_in a.page.size limit) (has_pairs ps) a.place.page (works a.place db.kind db.size (pairs_at db a.place.page) 0 a.command).change) (sym now.pairs)
        ∙ ap (λ (r : PageResult Global). may_grow (most_in a.page.size limit) (has_pairs a.page.pairs) a.place.page r.change) (sym result_now) ∙ out;
  }

module _ (db : Database) (ok : IsDatabase db) (a : Asked) (w : Worked Global) (now : IsCurrent db a) (may : IsWorkable a.place a.kind a.page.size a.page.pairs a.command) (out : IsWorkedOut a w) where
  small : IsSmall db.size a.command
  small = subst (λ (s : PageSize). IsSmall s a.command) now.size may.small

  here : IsWorked (works a.place db.kind db.size (pairs_at db a.place.page) 0 a.command) w
  here = subst (λ (r : PageResult Global). IsWorked r w) (result_now db a now) out.is

  pub may_put : MayChange db a.place.page (option_map change_of w.change)
  may_put = may_put_worked db ok a.place a.command may.keyed small now.place w here

  pub put_acts : (db' : Database) → db' ≡ changed_by db a.place.page (option_map change_of w.change) → Acts db (record { session = 0; command = a.command; reply = w.reply }) db'
  put_acts = put_worked db ok a.place a.command may.keyed small now.place w here (subst (λ (ps : List Pair). HasEnd ps 0 a.command) now.pairs out.ends)

  grows : (limit : ℕ) → may_grow (most_in a.page.size limit) (has_pairs a.page.pairs) a.place.page (asked_result a).change ≡ true
      → may_grow (most_in db.size limit) (has_pairs (pairs_at db a.place.page)) a.place.page (option_map change_of w.change) ≡ true
  grows limit may =
      ap (may_grow (most_in db.size limit) (has_pairs (pairs_at db a.place.page)) a.place.page) out.is.change
      ∙ ap (λ (s : PageSize). may_grow (most_in s limit) (has_pairs (pairs_at db a.place.page)) a.place.page (asked_result a).change) (sym now.size)
      ∙ ap (λ (ps : List Pair). may_grow (most_in a.page.size limit) (has_pairs ps) a.place.page (asked_result a).change) (sym now.pairs) ∙ may

  module _ (limit : ℕ) (place : may_grow (most_in a.page.size limit) (has_pairs a.page.pairs) a.place.page (asked_result a).change ≡ true) (db' : Database) (installed : db' ≡ changed_by db a.place.page (option_map change_of w.change)) where
    pub put_fits : FitsFiles db → FitsFiles db'
    put_fits = fits_worked db ok a.place a.command may.keyed small now.place w here limit (grows limit place) db' installed

    pub put_within : FitsWithin limit db → FitsWithin limit db'
    put_within = within_worked db ok a.place a.command may.keyed small now.place w here limit (grows limit place) db' installed
