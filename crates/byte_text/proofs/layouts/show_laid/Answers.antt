use Rattle.std.proofs.Common.{◌≡◌, ◌++◌, ◌∷◌, ◌+◌, ℕ, List, true, false, drop, get_or, length, sym, subst}
use Rattle.std.proofs.lemmas.List.{drop_more}
use Rattle.byte_text.specs.Layouts.{fits, laid, left_by}
use Rattle.byte_text.specs.declared.layouts.Kind.{Kind}
use Rattle.byte_text.specs.declared.layouts.Kind.TheVariants as kinds
use Rattle.byte_text.specs.declared.layouts.Number.TheVariants.{U8}
use Rattle.byte_text.proofs.Laid.{fits_part, shows_part}
use Rattle.byte_text.proofs.layouts.show_laid.Goals as goal

pub loop-kind-preserved : goal.loop-kind-preserved
loop-kind-preserved g c =
    let before = c.loop-kind.invariant in
    let i = c.loop-kind.kind-index in
    let all = c.args.kinds.now in
    let left = c.loop-kind.left.now in
    let kind = get_or all i (kinds.Number U8) in
    let rest = drop (i + 1) all in
    let whole = c.args.text.now.items ++ laid false all c.args.bytes.now in
    let step : drop i all ≡ kind ∷ rest = drop_more all i (kinds.Number U8) c.loop-kind-test.true in
    let fit = subst (λ (ks : List Kind). fits ks (length left) ≡ true) step before.fit in
    let shown = subst (λ (ks : List Kind). c.loop-kind.text.items ++ laid c.loop-kind.behind ks left ≡ whole) step before.shown in
    let after : c.in_ok-left.left.now ≡ left_by kind left = c.in_ok-left.ensures.left in
    record {
      fit = subst (λ (bs : List ℕ). fits rest (length bs) ≡ true) (sym after) (fits_part kind rest left fit);
      shown = subst (λ (bs : List ℕ). c.show_part.new.text.items ++ laid true rest bs ≡ whole) (sym after)
          (shows_part c.loop-kind.behind kind rest left c.loop-kind.text.items c.show_part.new.text.items whole shown c.in_ok-left.ensures.text);
    }
