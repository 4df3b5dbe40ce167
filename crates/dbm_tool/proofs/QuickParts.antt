-- Requests for one page, and the knowledge that a plan has of files with only one page read.
use Rattle.std.proofs.Common.{◌≡◌, ℕ, ◌+◌, ◌*◌, ◌<◌, ◌≤◌, List, length, get_or, Option, Some, None, Result, Ok, Err, IfOk, IfSome, sym, subst}
use Rattle.std.specs.Global.{Vec}
use Rattle.std.specs.declared.alloc.Global.{Global}
use Rattle.sdbm_addr.specs.declared.PageSize.{PageSize}
use Rattle.sdbm_addr.specs.Pairs.{page_bytes}
use Rattle.sdbm_saves.specs.Redo.{IsPlan, Knows}
use Rattle.sdbm_saves.specs.Recording.{part_pages}
use Rattle.sdbm_saves.specs.Parts.{IsReadSo}
use Rattle.sdbm_saves.specs.declared.part.Part.{Part}
use Rattle.sdbm_saves.proofs.PartRead.{part_is_read}
use Rattle.dbm_script.specs.declared.notations.Notation.{Notation}
use Rattle.dbm_args.specs.declared.options.Form.{Form}
use Rattle.dbm_reports.specs.declared.databases.Given.{Given}
use Rattle.dbm_reports.specs.declared.report.Report.{Report}
use Rattle.dbm_reports.specs.declared.fault.ReportFault.{ReportFault}
use Rattle.dbm_records.specs.declared.page_request.PageRequest.{PageRequest}
use Rattle.dbm_records.specs.PageRequests.{IsMeant}

-- an equivalent result of the words can be used instead
pub meant_by : (form : Form) (file : List ℕ) (n : Notation Global) (one other : Given → Report → Type 0) (asked : PageRequest) → ((given : Given) (report : Report) → one given report → other given report)
    → IsMeant form file n one asked → IsMeant form file n other asked
meant_by form file n one other asked to means = record { keyed = means.keyed; same = λ given db report file_is opened told. to given report (means.same given db report file_is opened told) }

-- the request, if there is one
pub meant_where : (form : Form) (file : List ℕ) (n : Notation Global) (one other : Given → Report → Type 0) (found : Option (Form × PageRequest)) (asked : Result (Option PageRequest) ReportFault)
    → ((given : Given) (report : Report) → one given report → other given report) → IfSome found (λ m. (m.0 ≡ form) × (asked ≡ Ok (Some m.1)))
    → IfOk asked (λ o. IfSome o (λ a. (f : List ℕ) → IsMeant form f n one a)) → IfSome found (λ m. IsMeant m.0 file n other m.1)
meant_where form file n one other None asked to is means = tt
meant_where form file n one other (Some m) asked to is means =
    let there : (f : List ℕ) → IsMeant form f n one m.1 = subst (λ (r : Result (Option PageRequest) ReportFault). IfOk r (λ o. IfSome o (λ a. (f : List ℕ) → IsMeant form f n one a))) is.1 means in
    subst (λ (f : Form). IsMeant f file n other m.1) (sym is.0) (meant_by form file n one other m.1 to (there file))

-- a plan that knows every file that was read this way knows the file of this page and zeros
pub knows_part : (part : Part) (size : PageSize) (numbers : List ℕ) (plan : Option (Vec ℕ)) → length part.page.now ≡ page_bytes size
    → ((i : ℕ) → i < page_bytes size → part.len ≤ part.number * page_bytes size + i → get_or part.page.now i 0 ≡ 0)
    → IfSome plan (λ p. IsPlan p.items × ((pag : List ℕ) → IsReadSo part numbers size pag → Knows p.items (pag, part.directory.now)))
    → IfSome plan (λ p. IsPlan p.items × Knows p.items (part_pages part size, part.directory.now))
knows_part part size numbers None long past knows = tt
knows_part part size numbers (Some p) long past knows = (knows.0, knows.1 (part_pages part size) (part_is_read part size long past numbers))
