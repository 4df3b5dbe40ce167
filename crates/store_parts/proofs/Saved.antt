-- The law of a part: a command on the page of its key, and on the whole database.
use Rattle.std.proofs.Common.{◌≡◌, ℕ, List, Option, Some, None, IfSome, IsNone, refl, sym, subst}
use Rattle.std.specs.Global.{Vec}
use Rattle.std.specs.declared.alloc.Global.{Global}
use Rattle.sdbm_addr.specs.declared.KeyBytes.{KeyBytes}
use Rattle.sdbm_addr.specs.declared.PageSize.{PageSize}
use Rattle.sdbm_addr.specs.Database.{Database}
use Rattle.sdbm_saves.specs.Saves.{AreFilesFor, IsSaving}
use Rattle.sdbm_saves.specs.Parts.{IsPartOf}
use Rattle.sdbm_saves.specs.declared.part.Part.{Part}
use Rattle.store_cmd.specs.declared.Entry.{Entry}
use Rattle.store_moves.specs.Works.{key_of}
use Rattle.store_moves.proofs.Parts.{acts_alike}
use Rattle.store_parts.specs.Parts.{AreWhole, IsOpenedPart, IsSameOnWhole, IsServed, SavesAs}
use Rattle.store_parts.proofs.PartOf.{alike_of, part_of}

pub saves_by : (after : Database) (pag dir : List ℕ) (plan : Option (Vec ℕ)) → IfSome plan (λ p. IsSaving after p.items pag dir) → (IsNone plan → AreFilesFor after pag dir) → SavesAs (Some after) plan pag dir
saves_by after pag dir None some none = none refl
saves_by after pag dir (Some p) some none = some

pub some_of : (P Q : Vec ℕ → Type 0) (plan : Option (Vec ℕ)) → ((p : Vec ℕ) → P p → Q p) → IfSome plan P → IfSome plan Q
some_of P Q None f h = tt
some_of P Q (Some p) f h = f p h

pub same : (part : Part) (kind : KeyBytes) (size : PageSize) (entry : Entry Global) (before after : Database) (numbers : List ℕ) (plan : Option (Vec ℕ)) → IsServed part kind size entry before after numbers plan
    → (db : Database) (pag : List ℕ) → db.kind ≡ kind → db.size ≡ size → AreWhole part numbers db pag → IsSameOnWhole part entry plan db pag
same part kind size entry before after numbers plan served db pag kinds sizes whole =
    let key : List ℕ = key_of entry.command in
    let opened : IsOpenedPart key part db.kind db.size before =
    subst (λ (k : KeyBytes). IsOpenedPart key part k db.size before) (sym kinds) (subst (λ (z : PageSize). IsOpenedPart key part kind z before) (sym sizes) served.opened) in
    let done = acts_alike before db whole.spells.database part.number (alike_of key part numbers before db pag opened whole) entry after served.keyed served.opened.place opened.leads opened.here served.acts in
    let planned = served.planned in
    record {
      after = done.0;
      acts = done.1.0;
      saves = λ files.
          let is_part : IsPartOf part numbers after done.0 pag = part_of key part numbers before db after done.0 pag opened whole files done.1.1 planned.named planned.covers planned.ends in
          saves_by done.0 pag part.directory.now plan
          (some_of (λ p. (other : Database) (file : List ℕ) → IsPartOf part numbers after other file → IsSaving other p.items file part.directory.now) (λ p. IsSaving done.0 p.items pag part.directory.now) plan (λ p saves. saves done.0 pag is_part) planned.saves)
          (λ none. planned.none none done.0 pag is_part);
    }
