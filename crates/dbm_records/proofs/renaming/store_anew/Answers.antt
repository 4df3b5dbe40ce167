use Rattle.std.proofs.Common.{◌≡◌, codes, inl, inr, refl, rules, true}
use Rattle.dbm_records.specs.Rename.{is_stored}
use Rattle.dbm_records.proofs.NewKeys.{true_false}
use Rattle.dbm_records.proofs.renaming.store_anew.Goals as goal

pub returns-then-is_same : goal.returns-then-is_same
returns-then-is_same c =
    let stores : is_stored c.in_ok-answer.answer ≡ true = search rules in
    let text : c.in_ok-text.text.items ≡ codes "renamed\n" = search rules in (
      c.in_ok-answer.answer,
      (
        c.answer_command.new.image,
        inr (stores, (c.in_ok-answer.ensures.answer, record { left = inl (c.eq-is_same.ensures.exact.0 c.if-is_same.true, refl); text_is = text; status_is = refl })),
      ),
    )

pub returns : goal.returns
returns c =
    let stores : is_stored c.in_ok-answer.answer ≡ true = search rules in
    let text : c.in_ok-text.text.items ≡ codes "renamed\n" = search rules in (
      c.in_ok-answer.answer,
      (
        c.answer_command.new.image,
        inr (
          stores,
          (
            c.in_ok-answer.ensures.answer,
            record {
              left = inr ((λ same. true_false c.eq-is_same.result (c.eq-is_same.ensures.exact.1 same) c.if-is_same.false), (c.in_ok-_gone._gone, c.in_ok-_gone.ensures.answer));
              text_is = text;
              status_is = refl;
            },
          ),
        ),
      ),
    )
