use Rattle.std.proofs.Common.{ℕ, List, refl, sym, subst, below_more}
use Rattle.std.specs.List.{Contains}
use Rattle.sdbm_addr.specs.Layout.{bytes_of_page}
use Rattle.sdbm_addr.specs.Database.{pairs_at}
use Rattle.sdbm_saves.specs.Parts.{ReadsPage}
use Rattle.store_marks.proofs.Marked.{still}
use Rattle.boddurci_c.proofs.opening.foreign_pages.Goals as goal
use Rattle.boddurci_c.proofs.opening.foreign_pages.Goals.{then-not-is_own+in_ok-add, else-not-is_own}

pub loop-number-preserved : goal.loop-number-preserved
loop-number-preserved c =
    let Reads : ℕ → Type 0 = λ n. ReadsPage c.args.image.now.size c.args.pag.now.bytes n (bytes_of_page c.args.image.now.size (pairs_at c.args.image.now n)) in
    below_more (λ (n : ℕ). (Contains c.if-not-is_own.marks n → ⊥) → Reads n) c.loop-number.number
    (elim c.if-not-is_own.branch [
      | then-not-is_own+in_ok-add w ↦ λ n low none. c.loop-number.invariant n low (λ there. none (subst (λ (l : List ℕ). Contains l n) (sym w.marks-is) (still c.loop-number.marks w.add.new.self w.in_ok-add.ensures.more n there)))
      | else-not-is_own w ↦ λ n low none. c.loop-number.invariant n low (λ there. none (subst (λ (l : List ℕ). Contains l n) (sym w.marks-is) there))
    ])
    (elim c.if-not-is_own.branch [
      | then-not-is_own+in_ok-add w ↦ λ none. absurd (none (subst (λ (l : List ℕ). Contains l c.loop-number.number) (sym w.marks-is) w.in_ok-add.ensures.ok))
      | else-not-is_own w ↦ λ none. w.if-not-is_own.ensures refl
    ])
