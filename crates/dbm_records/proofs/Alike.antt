-- The result of a command on a part of a database, and on the whole database.
use Rattle.std.proofs.Common.{◌≡◌, ℕ, List, [], ◌∷◌, ◌++◌, ◌⊎◌, inl, inr, Option, Some, None, Bool, true, false, refl, sym, ap, ◌∙◌, subst}
use Rattle.std.specs.declared.alloc.Global.{Global}
use Rattle.sdbm_addr.specs.declared.KeyBytes.{KeyBytes}
use Rattle.sdbm_addr.specs.declared.PageSize.{PageSize}
use Rattle.sdbm_addr.specs.Database.{Database, IsDatabase}
use Rattle.sdbm_dir.specs.declared.Place.{Place}
use Rattle.store_cmd.specs.declared.Command.{Command}
use Rattle.store_cmd.specs.declared.Command.TheVariants as command
use Rattle.store_cmd.specs.Command.{IsSmall, IsSizeFault}
use Rattle.store_moves.specs.Works.{key_of, HasKey}
use Rattle.store_moves.specs.Leads.{IsPlaceOf}
use Rattle.store_moves.proofs.Parts.{IsAlikeAt, IsChangedAlike, acts_alike, unchanged_alike}
use Rattle.dbm_script.specs.declared.notations.Notation.{Notation}
use Rattle.dbm_script.specs.declared.answers.Answer.{Answer}
use Rattle.dbm_script.specs.declared.answers.Answer.TheVariants.{Replied, Refused}
use Rattle.dbm_script.specs.Answers.{IsAnswerTo}
use Rattle.dbm_reports.specs.declared.report.Report.{Report}
use Rattle.dbm_reports.specs.Reports.{ChangesFiles, Looks, IsCommandReport}
use Rattle.dbm_records.specs.Fetch.{FetchShows, ShowsValue}
use Rattle.dbm_records.specs.Running.{RunsImage}
use Rattle.dbm_records.specs.declared.page_request.PageRequest.{PageRequest}
use Rattle.dbm_records.specs.declared.page_request.PageRequest.TheVariants as asked
use Rattle.dbm_records.specs.PageRequests.{AnswersRequest, IsKeyed, request_key}
use Rattle.store_parts.proofs.PartOf.{changed_kind, changed_size}

-- the same report, with another database
abbrev pub report_on : Report → Option Database → Report
report_on report after = record { text = report.text; status = report.status; database = after; notes = report.notes }

-- an answer on the part is one on the whole
pub record IsAnsweredAlike (number : ℕ) (part db : Database) (command : Command Global) (answer : Answer Global) (part' : Database) : Type 0 where
  pub after : Database
  pub answers : IsAnswerTo Global db command answer after
  pub changed : IsChangedAlike number part db part' after

-- the same for a report after which the files are written
pub record IsReportedAlike (number : ℕ) (part db : Database) (answers : Report → Type 0) (report : Report) : Type 0 where
  pub part' : Database
  pub is : report.database ≡ Some part'
  pub after : Database
  pub reports : answers (report_on report (Some after))
  pub changed : IsChangedAlike number part db part' after

module _ (n : Notation Global) (part db : Database) (ok : IsDatabase db) (number : ℕ) (alike : IsAlikeAt number part db) where
  answered : (command : Command Global) → HasKey command → (place : Place) → IsPlaceOf part (key_of command) place → place.page ≡ number
      → (answer : Answer Global) (part' : Database) → IsAnswerTo Global part command answer part' → IsAnsweredAlike number part db command answer part'
  answered command keyed place leads page (Replied entry) part' (small, (session, (is, acts))) =
      let done = acts_alike part db ok number alike entry part' (subst HasKey (sym is) keyed) place (subst (λ (c : Command Global). IsPlaceOf part (key_of c) place) (sym is) leads) page acts in
      record { after = done.0; answers = (subst (λ (z : PageSize). IsSmall z command) alike.size small, (session, (is, done.1.0))); changed = done.1.1 }
  answered command keyed place leads page (Refused fault) part' (is, same) = record {
    after = db;
    answers = (subst (λ (z : PageSize). IsSizeFault z command fault) alike.size is, refl);
    changed = subst (λ (d : Database). IsChangedAlike number part db d db) (sym same) (unchanged_alike number part db);
  }

  kind_of : (part' after : Database) → IsChangedAlike number part db part' after → after.kind ≡ db.kind
  kind_of part' after changed = ap (λ (d : Database). d.kind) changed.db_is ∙ changed_kind number db changed.change

  size_of : (part' after : Database) → IsChangedAlike number part db part' after → after.size ≡ db.size
  size_of part' after changed = ap (λ (d : Database). d.size) changed.db_is ∙ changed_size number db changed.change

  changes : (command : Command Global) → HasKey command → (place : Place) → IsPlaceOf part (key_of command) place → place.page ≡ number
      → (expect : Option ℕ) (report : Report) → ChangesFiles n part command expect report → IsReportedAlike number part db (ChangesFiles n db command expect) report
  changes command keyed place leads page expect report (part', (told, is)) =
      let done = answered command keyed place leads page told.answer part' told.answers in
      record {
        part' = part';
        is = is;
        after = done.after;
        reports = (
          done.after,
          (
            record {
              answer = told.answer;
              answers = done.answers;
              kind = kind_of part' done.after done.changed;
              size = size_of part' done.after done.changed;
              text_is = told.text_is;
              status_is = told.status_is;
            },
            refl,
          ),
        );
        changed = done.changed;
      }

  shows : (raw : Bool) (command : Command Global) → HasKey command → (place : Place) → IsPlaceOf part (key_of command) place → place.page ≡ number
      → (report : Report) → FetchShows raw n part command report → (report.database ≡ None) × FetchShows raw n db command report
  shows false command keyed place leads page report (part', (told, none)) =
      let done = answered command keyed place leads page told.answer part' told.answers in (
        none,
        (
          done.after,
          (
            record {
              answer = told.answer;
              answers = done.answers;
              kind = kind_of part' done.after done.changed;
              size = size_of part' done.after done.changed;
              text_is = told.text_is;
              status_is = told.status_is;
            },
            none,
          ),
        ),
      )
  shows true command keyed place leads page report told =
      let done = answered command keyed place leads page told.answer told.after told.answers in (
        told.written,
        record {
          answer = told.answer;
          after = done.after;
          answers = done.answers;
          text_is = told.text_is;
          status_is = told.status_is;
          written = told.written;
        },
      )

  -- a result on the part is also the result on the whole
  pub alike_answers : (asked : PageRequest) → IsKeyed asked → (place : Place) → IsPlaceOf part (request_key asked) place → place.page ≡ number → (report : Report) → AnswersRequest n asked part report
      → ((report.database ≡ None) × AnswersRequest n asked db report) ⊎ IsReportedAlike number part db (AnswersRequest n asked db) report
  alike_answers (asked.Fetch command raw) keyed place leads page report told = inl (shows raw command keyed place leads page report told)
  alike_answers (asked.Change command) keyed place leads page report told = inr (changes command keyed place leads page None report told)
  alike_answers (asked.Run words program expect) keyed place leads page report (inl (p, (is, told))) =
      let done = changes (command.Run words.key p.code words.arg words.blank words.now) tt place leads page expect report told in
      inr (record { part' = done.part'; is = done.is; after = done.after; reports = inl (p, (is, done.reports)); changed = done.changed })
  alike_answers (asked.Run words program expect) keyed place leads page report (inr (fault, (denies, refuses))) = inr (record {
    part' = part;
    is = refuses.written;
    after = db;
    reports = inr (fault, (denies, record { text_is = refuses.text_is; status_is = refuses.status_is; written = refl }));
    changed = unchanged_alike number part db;
  })
