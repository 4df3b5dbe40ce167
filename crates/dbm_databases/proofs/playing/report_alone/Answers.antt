use Rattle.std.proofs.Common.{None, Some, ap, refl, subst, ◌∙◌}
use Rattle.sdbm_addr.specs.declared.KeyBytes.{KeyBytes}
use Rattle.sdbm_addr.specs.Database.{Database, empty_database}
use Rattle.dbm_reports.specs.Causes.{IsCaused}
use Rattle.dbm_databases.specs.Playing.{IsOverlong, PlaysAs, alone_causes, spelled_input}
use Rattle.dbm_databases.proofs.Faults.{alone_fault, played_fault}
use Rattle.dbm_reports.proofs.Faults.{as_err}
use Rattle.dbm_databases.proofs.Played.{spelled_read, asked_known, asked_text, overlong_known}
use Rattle.dbm_script.specs.Shorthand.{spelled_text}
use Rattle.dbm_script.specs.declared.shorthand.LineKind.TheVariants.{OfScript}
use Rattle.dbm_databases.proofs.playing.report_alone.Goals as goal

pub returns-in_err-script-clause-fault : goal.returns-in_err-script-clause-fault
returns-in_err-script-clause-fault g c =
    as_err (IsCaused (alone_causes c.args.notation.now c.args.form c.args.time (g.R.Read.remaining c.args.reader.now) c.args.most)) _ c.from_residual.ensures.1
    (alone_fault c.args.notation.now c.args.form c.args.time _ c.args.most _ c.in_err-script.ensures.fault)

pub returns-in_err-text-clause-fault : goal.returns-in_err-text-clause-fault
returns-in_err-text-clause-fault g c =
    let input = g.R.Read.remaining c.args.reader.now in
    let known = spelled_input c.args.time input in
    let empty = c.empty-image.ensures ∙ ap (λ (kind : KeyBytes). empty_database kind c.page_size_of.result) c.key_bytes_of.ensures
    ∙ ap (empty_database _) c.page_size_of.ensures in
    as_err (IsCaused (alone_causes c.args.notation.now c.args.form c.args.time input c.args.most)) _ c.from_residual-in_err-text.ensures.1
    (played_fault (alone_causes c.args.notation.now c.args.form c.args.time input c.args.most) c.args.notation.now c.empty-image.result (Some (spelled_text OfScript c.args.time c.as_slice.result.now)) c.args.most _
    (λ long. subst (λ (db : Database). IsOverlong c.args.notation.now db known c.args.most) empty
    (overlong_known c.args.notation.now c.empty-image.result known (spelled_text OfScript c.args.time c.as_slice.result.now) c.args.most (spelled_read c.args.time _ c.as_slice.result.now _ (rw c.as_slice.ensures.value c.in_ok-script.ensures.ok) refl) long))
    c.in_err-text.ensures.fault)

pub returns-clause-ok : goal.returns-clause-ok
returns-clause-ok g c =
    let played = c.in_ok-text.ensures.ok in
    let input = g.R.Read.remaining c.args.reader.now in
    let known = spelled_input c.args.time input in
    let empty = c.empty-image.ensures ∙ ap (λ (kind : KeyBytes). empty_database kind c.page_size_of.result) c.key_bytes_of.ensures
    ∙ ap (empty_database _) c.page_size_of.ensures in
    let here = asked_known c.args.strict c.args.notation.now c.empty-image.result known (spelled_text OfScript c.args.time c.as_slice.result.now) c.args.most played.0 c.in_ok-text.field-0 (spelled_read c.args.time _ c.as_slice.result.now _ (rw c.as_slice.ensures.value c.in_ok-script.ensures.ok) refl) played.1.0 in (
      played.0,
      (
        subst (λ (db : Database). PlaysAs c.args.strict c.args.notation.now db known c.args.most played.0 (record { text = c.in_ok-text.field-0.text; status = c.in_ok-text.field-0.status; database = None; notes = c.in_ok-text.field-0.notes })) empty
            (asked_text c.args.strict c.args.notation.now c.empty-image.result known c.args.most played.0 c.in_ok-text.field-0 (record { text = c.in_ok-text.field-0.text; status = c.in_ok-text.field-0.status; database = None; notes = c.in_ok-text.field-0.notes }) refl refl here),
        refl,
      ),
    )
