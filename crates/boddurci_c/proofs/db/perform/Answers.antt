use Rattle.std.proofs.Common.{ℕ, Bool, List, Option, inr, refl, sym, ap, ◌∙◌, subst}
use Rattle.std.specs.Option.{option_map}
use Rattle.sdbm_addr.specs.declared.PageSize.{PageSize}
use Rattle.sdbm_addr.specs.Database.{pairs_at}
use Rattle.sdbm_split.specs.Planned.{PageChange}
use Rattle.store_moves.specs.Leads.{IsPlaceOf}
use Rattle.store_moves.specs.Works.{change_of, key_of}
use Rattle.boddurci_handles.specs.Growth.{has_pairs, may_grow, most_in}
use Rattle.boddurci_handles.proofs.Fitting.{may_put_worked, put_worked, fits_worked, within_worked}
use Rattle.store_marks.proofs.Marked.{differ_either}
use Rattle.boddurci_c.proofs.Bases.{same_db}
use Rattle.boddurci_c.proofs.db.perform.Goals as goal

pub put_marked-requires : goal.put_marked-requires
put_marked-requires c =
    let db = c.args.db.now.image in
    let p = c.place-place.ensures in
    let leads : IsPlaceOf db (key_of c.args.command) c.place-place.result =
    subst (λ (key : List ℕ). IsPlaceOf db key c.place-place.result) c.key_in.ensures (record { depth = p.depth; shallow = p.shallow; low_bits = p.low_bits; bit = p.bit }) in
    may_put_worked db p.database c.place-place.result c.args.command c.requires.keyed c.requires.small leads c.in-Ok.worked c.in-Ok.ensures.worked

pub returns-in-Ok-put_marked-clause-ok : goal.returns-in-Ok-put_marked-clause-ok
returns-in-Ok-put_marked-clause-ok c =
    let db = c.args.db.now.image in
    let p = c.place-place.ensures in
    let leads : IsPlaceOf db (key_of c.args.command) c.place-place.result =
    subst (λ (key : List ℕ). IsPlaceOf db key c.place-place.result) c.key_in.ensures (record { depth = p.depth; shallow = p.shallow; low_bits = p.low_bits; bit = p.bit }) in
    let may =
    ap (λ (s : PageSize). may_grow (most_in s c.args.db.now.limit) (has_pairs (pairs_at db c.place-place.result.page)) c.place-place.result.page (option_map change_of c.in-Ok.worked.change)) (sym c.page_size.ensures)
    ∙ ap (λ (most : ℕ). may_grow most (has_pairs (pairs_at db c.place-place.result.page)) c.place-place.result.page (option_map change_of c.in-Ok.worked.change)) (sym c.most_pages-most.ensures)
    ∙ ap (λ (there : Bool). may_grow c.most_pages-most.result there c.place-place.result.page (option_map change_of c.in-Ok.worked.change)) (sym c.has_pairs-there.ensures) ∙ sym c.if-not-may_grow.ensures in
    record {
      acts = put_worked db p.database c.place-place.result c.args.command c.requires.keyed c.requires.small leads c.in-Ok.worked c.in-Ok.ensures.worked c.in-Ok.ensures.ends c.put_marked.new.image c.in-Ok-put_marked.ensures.ok;
      fits = fits_worked db p.database c.place-place.result c.args.command c.requires.keyed c.requires.small leads c.in-Ok.worked c.in-Ok.ensures.worked c.args.db.now.limit may c.put_marked.new.image c.in-Ok-put_marked.ensures.ok;
      within = within_worked db p.database c.place-place.result c.args.command c.requires.keyed c.requires.small leads c.in-Ok.worked c.in-Ok.ensures.worked c.args.db.now.limit may c.put_marked.new.image c.in-Ok-put_marked.ensures.ok;
      registry = refl;
      limit = refl;
      base = refl;
      marks = c.in-Ok-put_marked.ensures.more;
    }

pub invariant_of-db : goal.invariant_of-db
invariant_of-db c = record {
  differ = differ_either c.put_marked.result c.args.db.now.base.database c.args.db.now.image c.put_marked.new.image c.args.db.now.marks c.put_marked.new.marks c.put_marked.ensures.differ c.put_marked.ensures.err c.put_marked.ensures.kept c.args.db.now.differ;
}

pub returns-clause-err : goal.returns-clause-err
returns-clause-err c = same_db c.args.db.now c.put_marked.new.image c.put_marked.new.marks _ c.in-Err.ensures.err c.in-Err.ensures.kept

pub returns-then-not-may_grow-clause-why : goal.returns-then-not-may_grow-clause-why
returns-then-not-may_grow-clause-why c =
    let db = c.args.db.now.image in
    let p = c.place-place.ensures in
    let page = c.place-place.result.page in
    let change = option_map change_of c.in-Ok.worked.change in
    let leads : IsPlaceOf db (key_of c.args.command) c.place-place.result =
    subst (λ (key : List ℕ). IsPlaceOf db key c.place-place.result) c.key_in.ensures (record { depth = p.depth; shallow = p.shallow; low_bits = p.low_bits; bit = p.bit }) in
    let out =
    ap (λ (put : Option PageChange). may_grow (most_in db.size c.args.db.now.limit) (has_pairs (pairs_at db page)) page put) (sym c.in-Ok.ensures.worked.change)
    ∙ ap (λ (s : PageSize). may_grow (most_in s c.args.db.now.limit) (has_pairs (pairs_at db page)) page change) (sym c.page_size.ensures)
    ∙ ap (λ (most : ℕ). may_grow most (has_pairs (pairs_at db page)) page change) (sym c.most_pages-most.ensures)
    ∙ ap (λ (there : Bool). may_grow c.most_pages-most.result there page change) (sym c.has_pairs-there.ensures) ∙ sym c.if-not-may_grow.ensures in
    inr (refl, record { place = c.place-place.result; leads = leads; out = out })
