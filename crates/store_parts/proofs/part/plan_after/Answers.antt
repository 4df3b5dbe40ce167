use Rattle.std.proofs.Common.{List, ℕ, IfSome, IsNone, subst, rules}
use Rattle.sdbm_addr.specs.Database.{Database}
use Rattle.sdbm_saves.specs.Redo.{IsPlan, Knows}
use Rattle.sdbm_saves.specs.Saves.{AreFilesFor, IsSaving}
use Rattle.sdbm_saves.specs.Parts.{IsPartOf, IsReadSo}
use Rattle.store_parts.proofs.part.plan_after.Goals as goal

pub returns : goal.returns
returns c =
    let part = c.args.part in
    let after = c.args.after.now in
    let plan = c.in-Ok-plan_part.plan in
    let same = c.as_slice.ensures.value in
    let ensures = c.in-Ok-plan_part.ensures in
    record {
      named = c.in-Ok.ensures.first;
      covers = c.in-Ok.ensures.covers;
      ends = c.ends_bare.ensures (search rules);
      saves = subst (λ (l : List ℕ). IfSome plan (λ p. (whole : Database) (pag : List ℕ) → IsPartOf part l after whole pag → IsSaving whole p.items pag part.directory.now)) same ensures.plan;
      none = subst (λ (l : List ℕ). IsNone plan → (whole : Database) (pag : List ℕ) → IsPartOf part l after whole pag → AreFilesFor whole pag part.directory.now) same ensures.none;
      knows = subst (λ (l : List ℕ). IfSome plan (λ p. IsPlan p.items × ((pag : List ℕ) → IsReadSo part l after.size pag → Knows p.items (pag, part.directory.now)))) same ensures.whole;
    }
