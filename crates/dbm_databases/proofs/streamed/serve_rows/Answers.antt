use Rattle.std.proofs.Common.{List, ℕ, subst}
use Rattle.std.proofs.lemmas.Result.{IfErr-weaker, IfOk-weaker}
use Rattle.dbm_reports.specs.Reports.{OnDatabase}
use Rattle.dbm_reports.proofs.Asked.{within}
use Rattle.dbm_databases.specs.Listings.{Lists, listing_causes}
use Rattle.dbm_reports.specs.Words.{prefix_asked}
use Rattle.dbm_databases.proofs.Streams.{printed_as, unserved_as}
use Rattle.dbm_databases.proofs.streamed.serve_rows.Goals as goal

pub returns-in-Ok-clause-ok : goal.returns-in-Ok-clause-ok
returns-in-Ok-clause-ok g c =
    let n = c.args.notation.now in
    let asked = c.in-Ok in
    IfOk-weaker c.print_rows.result _ _
    (λ served is.
    printed_as _ _ _ _ served.status served.database
    (λ report lists.
    within (prefix_asked n c.args.prefix) asked.begin (λ begin. OnDatabase c.args.form c.args.given.now (Lists n c.args.listing begin report)) asked.ensures.begin
    (asked.image, (asked.ensures.image, subst (λ (begin : List ℕ). Lists n c.args.listing begin report asked.image) c.as_slice-prefix.ensures lists)))
    is)
    c.print_rows.ensures.ok

pub returns-in-Ok-clause-fault : goal.returns-in-Ok-clause-fault
returns-in-Ok-clause-fault g c =
    let n = c.args.notation.now in
    let asked = c.in-Ok in
    IfErr-weaker c.print_rows.result _ _
    (λ fault is.
    unserved_as _ _ (listing_causes n c.args.form c.args.given.now c.args.prefix) _ _ fault
    (λ report lists.
    within (prefix_asked n c.args.prefix) asked.begin (λ begin. OnDatabase c.args.form c.args.given.now (Lists n c.args.listing begin report)) asked.ensures.begin
    (asked.image, (asked.ensures.image, subst (λ (begin : List ℕ). Lists n c.args.listing begin report asked.image) c.as_slice-prefix.ensures lists)))
    is)
    c.print_rows.ensures.fault
