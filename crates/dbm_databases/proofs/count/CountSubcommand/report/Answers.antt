use Rattle.std.proofs.Common.{◌≡◌, ◌∙◌, ℕ, List, length, ap}
use Rattle.std.specs.FinMap as map
use Rattle.std.specs.Global.{Vec}
use Rattle.sdbm_addr.specs.Database.{map_of}
use Rattle.dbm_reports.specs.Reports.{OnDatabase}
use Rattle.dbm_reports.proofs.Asked.{within}
use Rattle.dbm_databases.specs.Count.{CountsChosen, count_line}
use Rattle.dbm_databases.specs.Rows.{chosen}
use Rattle.dbm_reports.specs.Words.{prefix_asked}
use Rattle.dbm_databases.proofs.count.CountSubcommand.report.Goals as goal

pub returns-clause-ok : goal.returns-clause-ok
returns-clause-ok g c =
    let begin : List ℕ = c.in_ok-begin.begin in
    let image = c.in_ok-begin.image in
    let count_is : c.in_ok-count.count ≡ length (chosen begin (map.entries (map_of image))) = c.in_ok-count.ensures ∙ ap (λ (prefix : List ℕ). length (chosen prefix (map.entries (map_of image)))) c.as_slice.ensures in
    let text_is : c.printed.result.text.items ≡ count_line (length (chosen begin (map.entries (map_of image)))) =
    ap (λ (text : Vec ℕ). text.items) c.printed.ensures.text ∙ c.in_ok-show_named.ensures ∙ ap count_line count_is in
    within (prefix_asked c.args.notation.now c.args.self.now.prefix) begin (λ prefix. OnDatabase c.args.self.now.form c.args.given.now (CountsChosen prefix c.printed.result)) c.in_ok-begin.ensures.begin
    (image, (c.in_ok-begin.ensures.image, record { text_is = text_is; status_is = c.printed.ensures.status; written = c.printed.ensures.database }))
