use Rattle.std.proofs.Common.{◌≡◌, false, inl, inr, refl, rules, true}
use Rattle.std.proofs.lemmas.Result.{IfOk-weaker}
use Rattle.dbm_databases.specs.Playing.{has_bad_line}
use Rattle.dbm_script.specs.Shorthand.{spelled_text}
use Rattle.dbm_script.specs.declared.shorthand.LineKind.TheVariants.{OfScript}
use Rattle.dbm_databases.proofs.playing.play_strictly.Goals as goal

pub returns-then-bad-clause-ok : goal.returns-then-bad-clause-ok
returns-then-bad-clause-ok c =
    let is : has_bad_line c.args.notation.now (spelled_text OfScript c.args.time c.args.script.now) ≡ true = search rules in (
      c.args.image,
      (
        inr (is, record { text_is = search rules; same = refl; status_is = refl }),
        refl,
      ),
    )

pub returns-clause-ok : goal.returns-clause-ok
returns-clause-ok c =
    let is : has_bad_line c.args.notation.now (spelled_text OfScript c.args.time c.args.script.now) ≡ false = search rules in
    IfOk-weaker c.play.result _ _ (λ report played. (played.0, (inl (is, played.1.0), played.1.1))) c.play.ensures.ok
