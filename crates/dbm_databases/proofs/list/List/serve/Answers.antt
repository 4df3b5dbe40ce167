use Rattle.std.proofs.Common.{IfErr, IfOk, IsSomeAnd, subst}
use Rattle.dbm_reports.specs.Causes.{IsCaused}
use Rattle.dbm_reports.specs.Reports.{OnDatabase}
use Rattle.dbm_reports.specs.Served.{IsPrinted, IsUnserved}
use Rattle.dbm_databases.specs.Listings.{Lists, listing_causes}
use Rattle.dbm_reports.specs.Words.{prefix_asked}
use Rattle.dbm_databases.specs.declared.rows.Listing.{Listing}
use Rattle.dbm_databases.proofs.list.List.serve.Goals as goal

pub returns-clause-ok : goal.returns-clause-ok
returns-clause-ok g c =
    let n = c.args.notation.now in
    let self = c.args.self.now in
    subst
    (λ (listing : Listing).
    IfOk c.serve_rows.result
    (λ served.
    IsPrinted (λ report. IsSomeAnd (prefix_asked n self.prefix) (λ begin. OnDatabase self.form c.args.given.now (Lists n listing begin report))) (g.W.Write.contents c.args.writer.now) (g.W.Write.contents c.serve_rows.new.writer) served.status served.database))
    c.pairs_listing-listing.ensures c.serve_rows.ensures.ok

pub returns-clause-fault : goal.returns-clause-fault
returns-clause-fault g c =
    let n = c.args.notation.now in
    let self = c.args.self.now in
    subst
    (λ (listing : Listing).
    IfErr c.serve_rows.result
    (IsUnserved (λ report. IsSomeAnd (prefix_asked n self.prefix) (λ begin. OnDatabase self.form c.args.given.now (Lists n listing begin report))) (IsCaused (listing_causes n self.form c.args.given.now self.prefix)) (g.W.Write.contents c.args.writer.now) (g.W.Write.contents c.serve_rows.new.writer)))
    c.pairs_listing-listing.ensures c.serve_rows.ensures.fault
