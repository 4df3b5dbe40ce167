use Rattle.std.proofs.Common.{◌≡◌, ℕ, List, true, false, get_or, inl, inr, refl, sym, ◌∙◌, subst, arith, below_more}
use Rattle.std.proofs.lemmas.List.{get_or_default}
use Rattle.std.proofs.lemmas.List.Elements.{Contains-get_or}
use Rattle.std.specs.List.{Contains}
use Rattle.store_marks.specs.Marks.{AreAmong}
use Rattle.store_marks.proofs.Marked.{still, each_there}
use Rattle.boddurci_c.proofs.plans.are_among.Goals as goal
use Rattle.boddurci_c.proofs.plans.are_among.Goals.{then-has+in_ok-add, else-has}

pub loop-number-preserved : goal.loop-number-preserved
loop-number-preserved c =
    let was = c.loop-number.invariant in
    let numbers = c.args.numbers.now in
    let i = c.loop-number.number-index in
    record {
      only = λ n there. elim c.if-has.branch [
        | then-has+in_ok-add w ↦ elim (w.in_ok-add.ensures.only n (subst (λ (l : List ℕ). Contains l n) w.given-is there)) [
          | inl before ↦ was.only n before
          | inr is ↦ subst (λ (m : ℕ). Contains numbers m) (sym is) (Contains-get_or numbers i 0 c.loop-number-test.true)
        ]
        | else-has w ↦ was.only n (subst (λ (l : List ℕ). Contains l n) w.given-is there)
      ];
      each = below_more (λ (k : ℕ). Contains c.args.marks.now (get_or numbers k 0) → Contains c.if-has.given (get_or numbers k 0)) i
          (λ k low there. elim c.if-has.branch [
            | then-has+in_ok-add w ↦ subst (λ (l : List ℕ). Contains l (get_or numbers k 0)) (sym w.given-is) (still c.loop-number.given w.add.new.self w.in_ok-add.ensures.more (get_or numbers k 0) (was.each k low there))
            | else-has w ↦ subst (λ (l : List ℕ). Contains l (get_or numbers k 0)) (sym w.given-is) (was.each k low there)
          ])
          (elim c.if-has.branch [
            | then-has+in_ok-add w ↦ λ there. subst (λ (l : List ℕ). Contains l (get_or numbers i 0)) (sym w.given-is) w.in_ok-add.ensures.ok
            | else-has w ↦ λ there. absurd (let wrong : false ≡ true = w.if-has.ensures.1 there in cc)
          ]);
    }

pub loop-mark-preserved : goal.loop-mark-preserved
loop-mark-preserved c =
    let items = c.as_slice-mark-items.result.now in
    below_more (λ (k : ℕ). Contains c.args.numbers.now (get_or items k 0)) c.loop-mark.mark-index c.loop-mark.invariant
    (c.loop-number.invariant.only (get_or items c.loop-mark.mark-index 0) (c.if-not-has.ensures.0 refl))

pub returns-then-not-has : goal.returns-then-not-has
returns-then-not-has c =
    let items = c.as_slice-mark-items.result.now in
    let numbers = c.args.numbers.now in
    let mark : ℕ = get_or items c.loop-mark.mark-index 0 in
    let there : Contains c.args.marks.now mark = subst (λ (l : List ℕ). Contains l mark) c.as_slice-mark-items.ensures (Contains-get_or items c.loop-mark.mark-index 0 c.loop-mark-test.true) in (
      λ is. absurd (let wrong : false ≡ true = is in cc),
      λ among.
          let at = among mark there in
          let same : get_or numbers at.0 0 ≡ mark = get_or_default numbers at.0 0 mark at.1 ∙ at.2 in
          let marked : Contains c.args.marks.now (get_or numbers at.0 0) = subst (λ (m : ℕ). Contains c.args.marks.now m) (sym same) there in
          c.if-not-has.ensures.1 (subst (λ (m : ℕ). Contains c.loop-number.given m) same (c.loop-number.invariant.each at.0 (omega (arith, at.1, c.loop-number-test.false)) marked)),
    )

pub returns : goal.returns
returns c = (
  λ is. subst (λ (l : List ℕ). AreAmong l c.args.numbers.now) c.as_slice-mark-items.ensures
      (each_there c.as_slice-mark-items.result.now c.args.numbers.now (λ k low. c.loop-mark.invariant k (omega (arith, low, c.loop-mark-test.false)))),
  λ among. refl,
)
