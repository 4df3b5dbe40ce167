use Rattle.std.proofs.Common.{List, ℕ, sym, ap, ◌∙◌, subst}
use Rattle.boddurci_handles.specs.declared.pieces.Pieces.{Pieces}
use Rattle.boddurci_handles.specs.Pieces.{bytes_read}
use Rattle.boddurci_c.specs.Sizes.{IsLook}
use Rattle.boddurci_c.proofs.Looks.{look_is}
use Rattle.boddurci_c.proofs.sizes.look_at_reading.Goals as goal

pub returns-clause-look : goal.returns-clause-look
returns-clause-look c =
    subst (λ (pag : List ℕ). IsLook c.args.kind c.args.dir.now pag c.args.looks.now c.set_looks.new.looks c.set_looks.result)
    (ap (λ (p : Pieces). p.pages.bytes) c.deref.ensures ∙ sym (ap bytes_read c.in-Some.ensures.some))
    (look_is c.args.kind c.args.dir.now c.deref.result.now.pages.bytes c.args.looks.now c.set_looks.new.looks c.set_looks.result c.pages_look_small-found.result
    c.pages_look_small-found.ensures.is c.pages_look_small-found.ensures.none c.set_looks.ensures.ok c.set_looks.ensures.err)
