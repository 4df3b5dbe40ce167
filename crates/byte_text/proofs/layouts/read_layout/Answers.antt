use Rattle.std.proofs.Common.{◌≡◌, ◌∙◌, ◌++◌, ◌∷◌, [], ℕ, List, Option, Some, None, cond, is_none, option_map, ap, sym, rules}
use Rattle.byte_text.specs.Text.{parts_left}
use Rattle.byte_text.specs.Layouts.{kind_named, kinds_of, number_named, with_kind}
use Rattle.byte_text.specs.declared.layouts.Kind.{Kind}
use Rattle.byte_text.specs.declared.layouts.Kind.TheVariants as kinds
use Rattle.byte_text.proofs.Steps.{kinds_step, more_kinds}
use Rattle.byte_text.proofs.layouts.read_layout.Goals as goal

pub returns-in_default-kind_at : goal.returns-in_default-kind_at
returns-in_default-kind_at g c =
    let name = c.first_part.result.0.now in
    let after = c.first_part.result.1 in
    let left : parts_left c.loop-rest.rest ≡ name ∷ parts_left after = ap parts_left c.in-Some.is ∙ c.first_part.ensures in
    let kind : None ≡ cond (is_none after) (kind_named name) (option_map kinds.Number (number_named name)) = search rules in
    sym (c.loop-rest.invariant ∙ ap (λ (parts : List (List ℕ)). option_map (λ (others : List Kind). c.loop-rest.kinds.items ++ others) (kinds_of parts)) left
    ∙ ap (option_map (λ (others : List Kind). c.loop-rest.kinds.items ++ others)) (kinds_step name after ∙ ap (λ (k : Option Kind). with_kind k (kinds_of (parts_left after))) (sym kind)))

pub loop-rest-preserved : goal.loop-rest-preserved
loop-rest-preserved g c =
    let name = c.first_part.result.0.now in
    let after = c.first_part.result.1 in
    let left : parts_left c.loop-rest.rest ≡ name ∷ parts_left after = ap parts_left c.in-Some.is ∙ c.first_part.ensures in
    let kind : Some c.in-Some-kind_at.kind ≡ cond (is_none after) (kind_named name) (option_map kinds.Number (number_named name)) = search rules in
    let pushed : c.push.new.self.items ≡ c.loop-rest.kinds.items ++ (c.in-Some-kind_at.kind ∷ []) = search rules in
    c.loop-rest.invariant ∙ ap (λ (parts : List (List ℕ)). option_map (λ (others : List Kind). c.loop-rest.kinds.items ++ others) (kinds_of parts)) left
    ∙ ap (option_map (λ (others : List Kind). c.loop-rest.kinds.items ++ others)) (kinds_step name after ∙ ap (λ (k : Option Kind). with_kind k (kinds_of (parts_left after))) (sym kind))
    ∙ more_kinds c.loop-rest.kinds.items c.in-Some-kind_at.kind (kinds_of (parts_left after))
    ∙ ap (λ (front : List Kind). option_map (λ (others : List Kind). front ++ others) (kinds_of (parts_left after))) (sym pushed)
