-- The result of a store that is done in place.
use Rattle.std.proofs.Common.{◌≡◌, ℕ, ◌+◌, ◌≤◌, List, [], length, Option, Some, sym, ap, ◌∙◌, subst, refl}
use Rattle.std.specs.List.{All}
use Rattle.sdbm_addr.specs.declared.Mode.{Mode}
use Rattle.sdbm_addr.specs.Hash.{hash_of}
use Rattle.sdbm_addr.specs.Pairs.{Content, pair_limit}
use Rattle.sdbm_addr.specs.Database.{Database, IsDatabase, pairs_at}
use Rattle.sdbm_dir.specs.declared.Place.{Place}
use Rattle.sdbm_split.specs.InPlace.{MayStore, with_stored}
use Rattle.sdbm_split.specs.Planned.{PageChange}
use Rattle.sdbm_split.proofs.Plans.{Leads, Leads-own, IsLeastSplits-none, leaf-none}
use Rattle.sdbm_files.specs.Installed.{installed, content_at, IsInstallable}
use Rattle.store_cmd.specs.declared.Command.TheVariants.{Store}
use Rattle.store_cmd.specs.declared.Reply.TheVariants as reply
use Rattle.store_moves.specs.Works.{PageResult, works}
use Rattle.store_moves.specs.Leads.{IsPlaceOf, MayChange, changed_by}
use Rattle.store_moves.specs.Acts.{IsPutIn}
use Rattle.store_moves.proofs.Lifting.{works_lead, keys_lead}
use Rattle.store_moves.proofs.WorkLemmas.{stored-fits}

module _ (A : Type 0) (db : Database) (ok : IsDatabase db) (place : Place) (key value : List ℕ) (mode : Mode) (small : length key + length value ≤ pair_limit db.size) (leads : IsPlaceOf db key place) (may : MayStore mode (content_at db place.page) key value) where
  abbrev page : Content
  page = content_at db place.page

  abbrev change : PageChange
  change = record { leaf = with_stored page key value; twins = []; bits = [] }

  all_lead : All (Leads db.kind (hash_of db.kind key) place.depth) page.pairs
  all_lead = Leads-own db.kind page.pairs key place.depth place.page (sym leads.low_bits) (keys_lead db ok (hash_of db.kind key) place.depth place.page leads.depth leads.low_bits)

  result_is : (session : ℕ) → works {A = A} place db.kind db.size (pairs_at db place.page) session (Store key value mode) ≡ record { reply = reply.Stored; change = Some change }
  result_is session =
      stored-fits {A = A} mode db.kind page key value place.depth 0 may.allowed (IsLeastSplits-none db.kind page key value place.depth leads.shallow all_lead may.room)
      ∙ ap (λ (c : Content). let r : PageResult A = record { reply = reply.Stored; change = Some (record { leaf = c; twins = []; bits = [] }) } in r)
      (sym (leaf-none db.kind page (with_stored page key value) key value place.depth all_lead refl))

  pub may_store : IsInstallable db place.page (with_stored page key value) [] []
  may_store =
      subst (λ (x : Option PageChange). MayChange db place.page x) (ap (λ (r : PageResult A). r.change) (result_is 0))
      (works_lead db ok place 0 (Store key value mode) tt small leads).may

  pub stored_so : (session : ℕ) (db' : Database) → db' ≡ installed db place.page (with_stored page key value) [] [] → IsPutIn {A = A} db place session (Store key value mode) reply.Stored db'
  stored_so session db' is = record {
    leads = leads;
    ends = tt;
    reply_is = sym (ap (λ (r : PageResult A). r.reply) (result_is session));
    database = is ∙ sym (ap (λ (r : PageResult A). changed_by db place.page r.change) (result_is session));
  }
