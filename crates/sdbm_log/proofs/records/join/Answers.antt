use Rattle.std.proofs.Common.{◌≡◌, List, ℕ, ◌-◌, ◌++◌, length, take, drop, ◌∙◌, ap, arith, length-drop}
use Rattle.std.proofs.lemmas.List.{take_all}
use Rattle.sdbm_log.proofs.records.join.Goals as goal

pub returns : goal.returns
returns g c =
    let next = c.args.next.now in
    let tail : take (length next - 28) (drop 28 next) ≡ drop 28 next = take_all (length next - 28) (drop 28 next) (omega (arith, length-drop 28 next)) in
    c.in_ok-extend_from_slice.ensures.items ∙ ap (λ (l : List ℕ). c.write_head.new.plan.items ++ l) tail ∙ ap (λ (l : List ℕ). l ++ drop 28 next) c.write_head.ensures
