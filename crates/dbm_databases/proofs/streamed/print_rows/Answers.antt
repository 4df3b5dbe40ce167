use Rattle.std.proofs.Common.{◌≡◌, List, ℕ, ap, subst, ◌∙◌}
use Rattle.std.specs.FinMap as map
use Rattle.std.specs.Borrow.{Bor}
use Rattle.sdbm_addr.specs.Database.{map_of}
use Rattle.sdbm_files.specs.Lent.{pairs_lent}
use Rattle.dbm_reports.specs.Reports.{Prints}
use Rattle.dbm_reports.specs.Served.{IsUnserved}
use Rattle.dbm_reports.specs.declared.fault.ReportFault.{ReportFault}
use Rattle.dbm_reports.specs.declared.fault.ReportFault.TheVariants.{NoMemory}
use Rattle.dbm_databases.specs.Rows.{rows}
use Rattle.dbm_databases.proofs.Streams.{printed_text}
use Rattle.dbm_databases.proofs.streamed.print_rows.Goals as goal

pub returns-in-Ok-write_rows-clause-ok : goal.returns-in-Ok-write_rows-clause-ok
returns-in-Ok-write_rows-clause-ok g c =
    let n = c.args.notation.now in
    let begin = c.args.prefix.now in
    let text : List ℕ = rows n c.args.listing begin (pairs_lent c.as_slice-lent.result.now) in
    let all : List ℕ = rows n c.args.listing begin (map.entries (map_of c.args.image.now)) in
    let is : text ≡ all =
    ap (λ (lent : List (Bor (List ℕ) × Bor (List ℕ))). rows n c.args.listing begin (pairs_lent lent)) c.as_slice-lent.ensures.value ∙ ap (rows n c.args.listing begin) c.in-Ok.ensures.pairs in
    printed_text c.in-Ok-measured_room.room text all _ _ c.in-Ok-measured_room.ensures.small is c.in-Ok-write_rows.ensures.ok

pub returns-clause-fault : goal.returns-clause-fault
returns-clause-fault g c =
    let n = c.args.notation.now in
    let begin = c.args.prefix.now in
    let text : List ℕ = rows n c.args.listing begin (pairs_lent c.as_slice-lent.result.now) in
    let all : List ℕ = rows n c.args.listing begin (map.entries (map_of c.args.image.now)) in
    let is : text ≡ all =
    ap (λ (lent : List (Bor (List ℕ) × Bor (List ℕ))). rows n c.args.listing begin (pairs_lent lent)) c.as_slice-lent.ensures.value ∙ ap (rows n c.args.listing begin) c.in-Ok.ensures.pairs in
    subst (λ (t : List ℕ). IsUnserved {F = ReportFault} (Prints t) (λ (f : ReportFault). f ≡ NoMemory) (g.W.Write.contents c.args.writer.now) (g.W.Write.contents c.write_rows.new.writer) c.in-Err.fault) is
    c.in-Err.ensures.fault
