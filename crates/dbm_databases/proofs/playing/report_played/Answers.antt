use Rattle.std.proofs.Common.{Some, refl}
use Rattle.std.proofs.lemmas.Result.{IfErr-weaker, IfOk-weaker}
use Rattle.dbm_reports.specs.Causes.{IsCaused}
use Rattle.dbm_databases.specs.Playing.{script_causes}
use Rattle.dbm_reports.proofs.Faults.{as_err}
use Rattle.dbm_databases.proofs.Faults.{input_fault, played_fault}
use Rattle.dbm_databases.proofs.Played.{spelled_read, asked_known, overlong_known}
use Rattle.dbm_script.specs.Shorthand.{spelled_text}
use Rattle.dbm_script.specs.declared.shorthand.LineKind.TheVariants.{OfScript}
use Rattle.dbm_databases.proofs.playing.report_played.Goals as goal

pub returns-in_err-script-clause-fault : goal.returns-in_err-script-clause-fault
returns-in_err-script-clause-fault g c =
    as_err (IsCaused (script_causes c.args.notation.now c.args.form c.args.given.now c.args.time (g.R.Read.remaining c.args.reader.now) c.args.most)) _ c.from_residual-in_err-script.ensures.1
    (input_fault c.args.notation.now c.args.form c.args.given.now c.args.time _ c.args.most _ (c.in_ok-image.image, c.in_ok-image.ensures.ok) c.in_err-script.ensures.fault)

pub returns-clause-ok : goal.returns-clause-ok
returns-clause-ok g c =
    IfOk-weaker c.play_as.result _ _
    (λ report played. (
      c.in_ok-image.image,
      (
        c.in_ok-image.ensures.ok,
        (played.0, (asked_known c.args.strict c.args.notation.now c.in_ok-image.image _ (spelled_text OfScript c.args.time c.as_slice.result.now) c.args.most played.0 report (spelled_read c.args.time _ c.as_slice.result.now _ (rw c.as_slice.ensures.value c.in_ok-script.ensures.ok) refl) played.1.0, played.1.1)),
      ),
    ))
    c.play_as.ensures.ok

pub returns-clause-fault : goal.returns-clause-fault
returns-clause-fault g c =
    IfErr-weaker c.play_as.result _ _
    (λ fault h.
    played_fault (script_causes c.args.notation.now c.args.form c.args.given.now c.args.time (g.R.Read.remaining c.args.reader.now) c.args.most) c.args.notation.now c.in_ok-image.image (Some (spelled_text OfScript c.args.time c.as_slice.result.now)) c.args.most fault
    (λ long. (c.in_ok-image.image, (c.in_ok-image.ensures.ok, overlong_known c.args.notation.now c.in_ok-image.image _ (spelled_text OfScript c.args.time c.as_slice.result.now) c.args.most (spelled_read c.args.time _ c.as_slice.result.now _ (rw c.as_slice.ensures.value c.in_ok-script.ensures.ok) refl) long)))
    h)
    c.play_as.ensures.fault
