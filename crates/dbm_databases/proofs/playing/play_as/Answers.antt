use Rattle.std.proofs.Common.{◌≡◌, Bool, IfOk, Some, subst, sym}
use Rattle.sdbm_addr.specs.Database.{Database}
use Rattle.dbm_databases.specs.Playing.{PlaysAs}
use Rattle.dbm_script.specs.Shorthand.{spelled_text}
use Rattle.dbm_script.specs.declared.shorthand.LineKind.TheVariants.{OfScript}
use Rattle.dbm_databases.proofs.playing.play_as.Goals as goal

pub returns-then-strict-clause-ok : goal.returns-then-strict-clause-ok
returns-then-strict-clause-ok c =
    subst (λ (strict : Bool). IfOk c.play_strictly.result (λ report. (after : Database) × (PlaysAs strict c.args.notation.now c.args.image (Some (spelled_text OfScript c.args.time c.args.script.now)) c.args.most after report × (report.database ≡ Some after))))
    (sym c.if-strict.true) c.play_strictly.ensures.ok

pub returns-clause-ok : goal.returns-clause-ok
returns-clause-ok c =
    subst (λ (strict : Bool). IfOk c.play.result (λ report. (after : Database) × (PlaysAs strict c.args.notation.now c.args.image (Some (spelled_text OfScript c.args.time c.args.script.now)) c.args.most after report × (report.database ≡ Some after))))
    (sym c.if-strict.false) c.play.ensures.ok
