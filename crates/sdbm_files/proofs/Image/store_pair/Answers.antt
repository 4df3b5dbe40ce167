use Rattle.std.proofs.Common.{◌≡◌, ◌≢◌, ◌+◌, ◌≤◌, [], length, Bool, true, false, refl, sym, ap, ◌∙◌, subst}
use Rattle.sdbm_addr.specs.declared.PageSize.{PageSize}
use Rattle.sdbm_addr.specs.Pairs.{pair_limit}
use Rattle.sdbm_addr.specs.Database.{Database, IsDatabase, pairs_at}
use Rattle.sdbm_split.specs.InPlace.{MayStore, with_stored}
use Rattle.sdbm_files.specs.Kept.{database_of}
use Rattle.sdbm_files.specs.Installed.{installed, content_at}
use Rattle.sdbm_files.proofs.InstallLemmas.{database_is}
use Rattle.sdbm_files.proofs.PutLemmas.{IsPage-pairs_at}
use Rattle.sdbm_files.proofs.Storing.{stored_may, stored_is, stored_there}
use Rattle.sdbm_files.proofs.Image.store_pair.Goals as goal

pub store_pair-requires-clause-small : goal.store_pair-requires-clause-small
store_pair-requires-clause-small g c = λ content under.
    subst (λ (s : PageSize). length c.args.key.now + length c.args.value.now ≤ pair_limit s) (sym (ap (λ (d : Database). d.size) c.self.view_is) ∙ sym (c.self.invariant.sizes c.args.number content under)) c.requires.small

pub store_pair-requires-clause-distinct : goal.store_pair-requires-clause-distinct
store_pair-requires-clause-distinct g c =
    (IsPage-pairs_at (database_of c.self.inside.kind c.self.inside.size c.self.inside.dir.splits c.self.inside.pages.entries) c.self.invariant.database c.args.number).distinct

pub returns-clause-may : goal.returns-clause-may
returns-clause-may g c = λ t.
    subst (λ (db : Database). MayStore c.args.mode (content_at db c.args.number) c.args.key.now c.args.value.now) c.self.view_is
    (stored_may c.args.mode c.self.inside.kind c.self.inside.size c.self.inside.dir.splits c.self.inside.pages.entries c.store_pair.new.pages.entries c.args.number c.args.key.now c.args.value.now c.self.invariant.sizes (c.store_pair.ensures.stored t))

pub returns-clause-there : goal.returns-clause-there
returns-clause-there g c = λ t.
    subst (λ (db : Database). pairs_at db c.args.number ≢ []) c.self.view_is
    (stored_there c.args.mode c.self.inside.kind c.self.inside.size c.self.inside.dir.splits c.self.inside.pages.entries c.store_pair.new.pages.entries c.args.number c.args.key.now c.args.value.now c.self.invariant.sizes (c.store_pair.ensures.stored t)
    c.self.invariant.database)

pub returns-clause-stored : goal.returns-clause-stored
returns-clause-stored g c = λ t.
    stored_is c.args.mode c.self.inside.kind c.self.inside.size c.self.inside.dir.splits c.self.inside.pages.entries c.store_pair.new.pages.entries c.args.number c.args.key.now c.args.value.now c.self.invariant.sizes (c.store_pair.ensures.stored t)
    ∙ ap (λ (db : Database). installed db c.args.number (with_stored (content_at db c.args.number) c.args.key.now c.args.value.now) [] []) c.self.view_is

pub invariant_of-self : goal.invariant_of-self
invariant_of-self g c = record {
  sizes = c.store_pair.ensures.sizes c.self.inside.size c.self.invariant.sizes;
  database = at c.store_pair.result refl;
}
  where
    at : (b : Bool) → c.store_pair.result ≡ b → IsDatabase (database_of c.self.inside.kind c.self.inside.size c.self.inside.dir.splits c.store_pair.new.pages.entries)
    at true t =
        let may = subst (λ (db : Database). MayStore c.args.mode (content_at db c.args.number) c.args.key.now c.args.value.now) c.self.view_is
        (stored_may c.args.mode c.self.inside.kind c.self.inside.size c.self.inside.dir.splits c.self.inside.pages.entries c.store_pair.new.pages.entries c.args.number c.args.key.now c.args.value.now c.self.invariant.sizes (c.store_pair.ensures.stored t)) in
        let is = stored_is c.args.mode c.self.inside.kind c.self.inside.size c.self.inside.dir.splits c.self.inside.pages.entries c.store_pair.new.pages.entries c.args.number c.args.key.now c.args.value.now c.self.invariant.sizes (c.store_pair.ensures.stored t)
        ∙ ap (λ (db : Database). installed db c.args.number (with_stored (content_at db c.args.number) c.args.key.now c.args.value.now) [] []) c.self.view_is in
        subst IsDatabase (sym is) (c.requires.installable may).database
    at false f =
        let is = database_is c.self.inside.kind c.self.inside.size c.self.inside.dir.splits c.self.inside.dir.splits c.store_pair.new.pages.entries _ refl (c.store_pair.ensures.kept f) in
        subst IsDatabase (sym is) c.self.invariant.database
