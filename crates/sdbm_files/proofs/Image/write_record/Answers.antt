use Rattle.std.proofs.Common.{◌≡◌, [], Bool, true, false, refl, sym, ap, ◌∙◌, subst}
use Rattle.sdbm_page.specs.Rewritten.{rewritten}
use Rattle.sdbm_addr.specs.Database.{Database, IsDatabase}
use Rattle.sdbm_files.specs.Kept.{database_of}
use Rattle.sdbm_files.specs.Installed.{installed, content_at}
use Rattle.sdbm_files.proofs.InstallLemmas.{database_is}
use Rattle.sdbm_files.proofs.Image.write_record.Goals as goal

pub invariant_of-self : goal.invariant_of-self
invariant_of-self g c = record {
  sizes = c.write_record.ensures.sizes c.self.inside.size c.self.invariant.sizes;
  database = at c.write_record.result refl;
}
  where
    written : c.write_record.result ≡ true → database_of c.self.inside.kind c.self.inside.size c.self.inside.dir.splits c.write_record.new.pages.entries ≡ installed c.args.self.now c.args.number (rewritten (content_at c.args.self.now c.args.number) c.args.i c.args.value.now) [] []
    written t =
        database_is c.self.inside.kind c.self.inside.size c.self.inside.dir.splits c.self.inside.dir.splits c.write_record.new.pages.entries _ refl (c.write_record.ensures.written t)
        ∙ ap (λ (db : Database). installed db c.args.number (rewritten (content_at db c.args.number) c.args.i c.args.value.now) [] []) c.self.view_is

    kept : c.write_record.result ≡ false → database_of c.self.inside.kind c.self.inside.size c.self.inside.dir.splits c.write_record.new.pages.entries ≡ database_of c.self.inside.kind c.self.inside.size c.self.inside.dir.splits c.self.inside.pages.entries
    kept f = database_is c.self.inside.kind c.self.inside.size c.self.inside.dir.splits c.self.inside.dir.splits c.write_record.new.pages.entries _ refl (c.write_record.ensures.kept f)

    at : (b : Bool) → c.write_record.result ≡ b → IsDatabase (database_of c.self.inside.kind c.self.inside.size c.self.inside.dir.splits c.write_record.new.pages.entries)
    at true t = subst IsDatabase (sym (written t)) c.requires.installable.database
    at false f = subst IsDatabase (sym (kept f)) c.self.invariant.database
