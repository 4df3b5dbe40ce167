use Rattle.std.proofs.Common.{◌↔◌, ◌*◌, IsTrue, subst, sym}
use Rattle.std.proofs.lemmas.Result.{IfOk-weaker}
use Rattle.sdbm_sizes.specs.Sizes.{IsSmallPart, LooksSmall}
use Rattle.sdbm_sizes.proofs.page_looks_small.Goals as goal

pub returns : goal.returns
returns g c =
    let kind = c.args.kind in
    let dir = c.args.dir.now in
    let n = c.args.number in
    IfOk-weaker c.is_small_part.result (λ small. IsTrue small ↔ IsSmallPart kind dir (8 * n) c.split_at.result.0.now) (λ small. IsTrue small ↔ LooksSmall kind dir n c.args.page.now)
    (λ small is. (
      λ t. record { written = c.is_written.ensures.0 c.if-not-is_written.false; part = subst (IsSmallPart kind dir (8 * n)) c.split_at.ensures.front (is.0 t) },
      λ looks. is.1 (subst (IsSmallPart kind dir (8 * n)) (sym c.split_at.ensures.front) looks.part),
    )) c.is_small_part.ensures
