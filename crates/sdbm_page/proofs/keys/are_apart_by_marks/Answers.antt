use Rattle.std.proofs.Common.{sym, ◌∙◌, subst, arith}
use Rattle.std.proofs.lemmas.Bool.{false≢true}
use Rattle.sdbm_page.specs.Marks.{IsNoted}
use Rattle.sdbm_page.proofs.Apart.{apart_next, none_before, other_noted, noted_next}
use Rattle.sdbm_page.proofs.keys.are_apart_by_marks.Goals as goal
use Rattle.sdbm_page.proofs.keys.are_apart_by_marks.Goals.{then-note+else-doubted-eq-DOUBTED+else-comes_before, else-note}

pub loop-i-preserved : goal.loop-i-preserved
loop-i-preserved c =
    let bytes = c.args.bytes.now in
    let i = c.loop-i.i in
    let noted = c.loop-i.invariant.1 in (
      apart_next bytes i
          (elim c.if-note.branch [
            | then-note+else-doubted-eq-DOUBTED+else-comes_before w ↦ none_before bytes i (λ b. false≢true (sym w.if-comes_before.false ∙ w.comes_before.ensures.1 b))
            | else-note w ↦
                other_noted c.loop-i.noted.words bytes i noted (λ h. false≢true (sym w.if-note.false ∙ c.note.ensures.told.1 (subst (IsNoted c.loop-i.noted.words) (sym c.key_in.ensures) h)))
          ])
          c.loop-i.invariant.0,
      noted_next c.loop-i.noted.words c.note.new.self.words bytes i (subst (IsNoted c.note.new.self.words) c.key_in.ensures c.note.ensures.noted) c.note.ensures.kept noted,
      elim c.if-note.branch [
        | then-note+else-doubted-eq-DOUBTED+else-comes_before w ↦ omega (arith, w.doubted-is, w.if-doubted-eq-DOUBTED, c.loop-i.invariant.2)
        | else-note w ↦ omega (arith, w.doubted-is, c.loop-i.invariant.2)
      ],
    )
