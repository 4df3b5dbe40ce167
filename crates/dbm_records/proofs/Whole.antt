-- The result, on the whole files, of a command on the page of its key.
use Rattle.std.proofs.Common.{◌≡◌, ◌≢◌, ◌⊎◌, inl, inr, ℕ, List, [], Option, Some, None, Bool, true, false, refl, sym, ap, ◌∙◌, subst, Contains}
use Rattle.std.specs.Global.{Vec}
use Rattle.std.specs.declared.alloc.Global.{Global}
use Rattle.sdbm_addr.specs.declared.KeyBytes.{KeyBytes}
use Rattle.sdbm_addr.specs.declared.PageSize.{PageSize}
use Rattle.sdbm_addr.specs.Database.{Database, IsDatabase}
use Rattle.sdbm_saves.specs.Saves.{AreFilesFor, IsSaving}
use Rattle.sdbm_saves.specs.Parts.{IsPartOf}
use Rattle.sdbm_saves.specs.declared.part.Part.{Part}
use Rattle.store_cmd.specs.declared.Command.{Command}
use Rattle.store_moves.specs.Leads.{IsPlaceOf}
use Rattle.store_moves.proofs.Parts.{IsAlikeAt, IsChangedAlike}
use Rattle.dbm_script.specs.declared.notations.Notation.{Notation}
use Rattle.dbm_reports.specs.declared.report.Report.{Report}
use Rattle.dbm_records.specs.Fetch.{FetchShows}
use Rattle.dbm_records.specs.declared.page_request.PageRequest.{PageRequest}
use Rattle.dbm_records.specs.declared.page_request.PageRequest.TheVariants as asked
use Rattle.dbm_records.specs.PageRequests.{AnswersRequest, IsKeyed, request_key}
use Rattle.store_parts.specs.Parts.{AreWhole, IsOpenedPart, IsPlannedPart}
use Rattle.dbm_records.specs.PageResults.{PageComesTo, IsPageResult}
use Rattle.dbm_records.proofs.Alike.{IsReportedAlike, report_on, alike_answers}
use Rattle.store_parts.proofs.PartOf.{alike_of, part_of}
use Rattle.store_parts.proofs.Saved.{saves_by, some_of}

shows_none : (raw : Bool) (n : Notation Global) (db : Database) (command : Command Global) (report : Report) → FetchShows raw n db command report → report.database ≡ None
shows_none false n db command report (mid, (told, none)) = none
shows_none true n db command report told = told.written

-- a database that has to be saved keeps its page size
pub size_after : (n : Notation Global) (asked : PageRequest) (db : Database) (report : Report) → AnswersRequest n asked db report → (after : Database) → report.database ≡ Some after → after.size ≡ db.size
size_after n (asked.Fetch command raw) db report told after is = absurd (let clash : None ≡ Some after = sym (shows_none raw n db command report told) ∙ is in cc)
size_after n (asked.Change command) db report (mid, (told, some)) after is = let both : Some mid ≡ Some after = sym some ∙ is in let same : mid ≡ after = cc in ap (λ (d : Database). d.size) (sym same) ∙ told.size
size_after n (asked.Run words program expect) db report (inl (p, (of, (mid, (told, some))))) after is = let both : Some mid ≡ Some after = sym some ∙ is in let same : mid ≡ after = cc in ap (λ (d : Database). d.size) (sym same) ∙ told.size
size_after n (asked.Run words program expect) db report (inr (fault, (denies, refuses))) after is = let both : Some db ≡ Some after = sym refuses.written ∙ is in let same : db ≡ after = cc in ap (λ (d : Database). d.size) (sym same)

module _ (n : Notation Global) (asked : PageRequest) (keyed : IsKeyed asked) (part : Part) (kind : KeyBytes) (size : PageSize) (image : Database) (key : List ℕ) (key_is : key ≡ request_key asked) (opened : IsOpenedPart key part kind size image) (report : Report) (told : AnswersRequest n asked image report) where
  module _ (numbers : List ℕ) (db : Database) (pag : List ℕ) (kinds : db.kind ≡ kind) (sizes : db.size ≡ size) (whole : AreWhole part numbers db pag) where
    opened_in : IsOpenedPart key part db.kind db.size image
    opened_in = subst (λ (k : KeyBytes). IsOpenedPart key part k db.size image) (sym kinds) (subst (λ (z : PageSize). IsOpenedPart key part kind z image) (sym sizes) opened)

    both : ((report.database ≡ None) × AnswersRequest n asked db report) ⊎ IsReportedAlike part.number image db (AnswersRequest n asked db) report
    both =
        alike_answers n image db whole.spells.database part.number (alike_of key part numbers image db pag opened_in whole) asked keyed opened.place
        (subst (λ (k : List ℕ). IsPlaceOf image k opened.place) key_is opened.leads) opened.here report told

    changed_in : (after : Database) (r : IsReportedAlike part.number image db (AnswersRequest n asked db) report) → report.database ≡ Some after → IsChangedAlike part.number image db after r.after
    changed_in after r is =
        let both : Some r.part' ≡ Some after = sym r.is ∙ is in
        let same : r.part' ≡ after = cc in
        subst (λ (d : Database). IsChangedAlike part.number image db d r.after) same r.changed

  pub looked : report.database ≡ None → (numbers : Vec ℕ) → IsPageResult n asked part kind size (record { text = report.text; status = report.status; notes = report.notes; numbers = numbers; plan = None })
  looked none numbers db pag kinds sizes whole = at (both numbers.items db pag kinds sizes whole)
    where
      at : ((report.database ≡ None) × AnswersRequest n asked db report) ⊎ IsReportedAlike part.number image db (AnswersRequest n asked db) report
          → PageComesTo n asked (record { text = report.text; status = report.status; notes = report.notes; numbers = numbers; plan = None }) db pag part.directory.now
      at (inl (is, answers)) = record { after = None; answers = subst (λ (o : Option Database). AnswersRequest n asked db (report_on report o)) is answers; saves = λ files. refl }
      at (inr r) = absurd (let clash : None ≡ Some r.part' = sym none ∙ r.is in cc)

  pub changed_so : (after : Database) → report.database ≡ Some after → (numbers : Vec ℕ) (plan : Option (Vec ℕ)) → IsPlannedPart part after numbers.items plan
      → IsPageResult n asked part kind size (record { text = report.text; status = report.status; notes = report.notes; numbers = numbers; plan = plan })
  changed_so after some numbers plan planned db pag kinds sizes whole = at (both numbers.items db pag kinds sizes whole)
    where
      at : ((report.database ≡ None) × AnswersRequest n asked db report) ⊎ IsReportedAlike part.number image db (AnswersRequest n asked db) report
          → PageComesTo n asked (record { text = report.text; status = report.status; notes = report.notes; numbers = numbers; plan = plan }) db pag part.directory.now
      at (inl (none, answers)) = absurd (let clash : None ≡ Some after = sym none ∙ some in cc)
      at (inr r) = record {
        after = Some r.after;
        answers = r.reports;
        saves = λ files.
            let is_part : IsPartOf part numbers.items after r.after pag =
            part_of key part numbers.items image db after r.after pag (opened_in numbers.items db pag kinds sizes whole) whole files (changed_in numbers.items db pag kinds sizes whole after r some) planned.named planned.covers planned.ends in
            saves_by r.after pag part.directory.now plan
            (some_of (λ p. (other : Database) (file : List ℕ) → IsPartOf part numbers.items after other file → IsSaving other p.items file part.directory.now) (λ p. IsSaving r.after p.items pag part.directory.now) plan (λ p saves. saves r.after pag is_part) planned.saves)
            (λ no_plan. planned.none no_plan r.after pag is_part);
      }
