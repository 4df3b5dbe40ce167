use Rattle.std.proofs.Common.{Some, Err, ap, refl}
use Rattle.dbm_reports.specs.Causes.{IsCaused}
use Rattle.dbm_databases.specs.Playing.{play_causes}
use Rattle.dbm_reports.proofs.Faults.{as_err}
use Rattle.dbm_databases.proofs.Faults.{lines_caused}
use Rattle.dbm_script.specs.Shorthand.{spelled_text}
use Rattle.dbm_script.specs.declared.shorthand.LineKind.TheVariants.{OfScript}
use Rattle.dbm_databases.proofs.playing.play.Goals as goal

pub returns-in_err-image-clause-fault : goal.returns-in_err-image-clause-fault
returns-in_err-image-clause-fault c =
    as_err (IsCaused (play_causes c.args.notation.now c.args.image (Some (spelled_text OfScript c.args.time c.args.script.now)) c.args.most)) _ c.from_residual.ensures.1
    (lines_caused c.args.notation.now c.args.image (spelled_text OfScript c.args.time c.args.script.now) c.args.most _ (λ is. c.in_err-image.ensures.long (ap Err is)))

pub returns-clause-ok : goal.returns-clause-ok
returns-clause-ok c = (
  c.in_ok-image.field-0.image,
  (
    record {
      runs = c.in_ok-image.ensures.runs;
      short = c.in_ok-image.ensures.short;
      kind = c.in_ok-image.ensures.kept.0;
      size = c.in_ok-image.ensures.kept.1;
      status_is = refl;
    },
    refl,
  ),
)
