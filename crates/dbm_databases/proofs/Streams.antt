-- Writing rows in parts.
use Rattle.std.proofs.Common.{◌≡◌, ◌∙◌, ap, sym, subst, ℕ, ◌+◌, ◌<◌, ◌^◌, List, Option, None, Bool, true, false, cond, ◌++◌, length, take, append_assoc, arith, length-append, refl}
use Rattle.std.proofs.lemmas.List.{take-append-le}
use Rattle.std.proofs.Math.Seq.{take-append-add}
use Rattle.std.proofs.KnownBytes.{Appends-nil, Appends-trans}
use Rattle.std.specs.Io.KnownBytes.{Appends, Keeps}
use Rattle.std.specs.Global.{Vec}
use Rattle.sdbm_addr.specs.Database.{Database}
use Rattle.dbm_reports.specs.Causes.{Causes, IsCaused}
use Rattle.dbm_reports.specs.Reports.{Prints}
use Rattle.dbm_reports.specs.Served.{IsPrinted, IsUnserved, WasCutShort}
use Rattle.dbm_reports.specs.declared.fault.ReportFault.{ReportFault}
use Rattle.dbm_reports.specs.declared.fault.ReportFault.TheVariants.{NoMemory}
use Rattle.dbm_reports.specs.declared.serving.Unserved.{Unserved}
use Rattle.dbm_reports.specs.declared.serving.Unserved.TheVariants.{Unreported, Write, TooLong}
use Rattle.dbm_reports.specs.declared.report.Report.{Report}
use Rattle.byte_text.specs.Writing.{WritesPart}
use Rattle.dbm_databases.specs.Streams.{IsSplit}

pub appends_both : (a b c : Option (List ℕ)) (x y z : List ℕ) → Appends a b x → Appends b c y → z ≡ x ++ y → Appends a c z
appends_both a b c x y z p q e = subst (Appends a c) (sym e) (Appends-trans a b c x y p q)

-- a part of a text, after a text that was written
pub part_behind : (a b c : Option (List ℕ)) (t u v : List ℕ) → Appends a b t → WritesPart b c u → v ≡ t ++ u → WritesPart a c v
part_behind a b c t u v p q e =
    subst (WritesPart a c) (sym e)
    (record {
      count = length t + q.count;
      within = let h = q.within in omega (arith, h, length-append t u);
      appends = appends_both a b c t (take q.count u) _ p q.appends (take-append-add t u q.count);
    })

-- a part of a prefix is a part of the text
pub part_within : (a c : Option (List ℕ)) (u w v : List ℕ) → WritesPart a c u → v ≡ u ++ w → WritesPart a c v
part_within a c u w v q e =
    subst (WritesPart a c) (sym e)
    (record {
      count = q.count;
      within = let h = q.within in omega (arith, h, length-append u w);
      appends = subst (Appends a c) (sym (take-append-le q.count u w (omega (arith, q.within)))) q.appends;
    })

-- nothing of a nonempty text was written
pub nothing_part : (a : Option (List ℕ)) (text : List ℕ) → 0 < length text → WritesPart a a text
nothing_part a text some = record { count = 0; within = some; appends = Appends-nil a }

-- writing more text
pub split_more : (a b c : Option (List ℕ)) (room more made left text all : List ℕ) → IsSplit a b room text → made ≡ room ++ more → all ≡ text ++ more → IsSplit b c left made → IsSplit a c left all
split_more a b c room more made left text all before is_made is_all after = record {
  written = before.written ++ after.written;
  appends = Appends-trans a b c before.written after.written before.appends after.appends;
  together = is_all ∙ ap (λ (xs : List ℕ). xs ++ more) before.together ∙ append_assoc before.written room more ∙ ap (λ (xs : List ℕ). before.written ++ xs) (sym is_made ∙ after.together) ∙ sym (append_assoc before.written after.written left);
}

-- a row was added to the buffer, and writing the buffer failed
pub part_of_step : (old mid new : Option (List ℕ)) (room row made first rest all : List ℕ) → IsSplit old mid room first → made ≡ room ++ row → all ≡ (first ++ row) ++ rest → WritesPart mid new made → WritesPart old new all
part_of_step old mid new room row made first rest all before is_made is_all part =
    let together : first ++ row ≡ before.written ++ made =
    ap (λ (xs : List ℕ). xs ++ row) before.together ∙ append_assoc before.written room row ∙ ap (λ (xs : List ℕ). before.written ++ xs) (sym is_made) in
    part_within old new (first ++ row) rest all (part_behind old mid new before.written made (first ++ row) before.appends part together) is_all

-- allocation failed for a row
pub part_of_want : (old mid : Option (List ℕ)) (room row first rest all : List ℕ) → IsSplit old mid room first → all ≡ (first ++ row) ++ rest → 0 < length row → WritesPart old mid all
part_of_want old mid room row first rest all before is_all some =
    part_of_step old mid mid room row (room ++ row) first rest all before refl is_all (nothing_part mid (room ++ row) (omega (arith, some, length-append room row)))

-- ---- reports

-- a report with this text
abbrev pub report_of : Vec ℕ → (text : List ℕ) → length text < 2 ^ 63 → Report
report_of v text small = record {
  text = record { ptr = v.ptr; len = length text; cap = length text; alloc = v.alloc; items = text; ok = (refl, omega arith); small = small };
  status = 0;
  database = None;
  notes = record { bad_lines = record { first = 0; count = 0 }; refuses_program = false };
}

pub cut_short : (v : Vec ℕ) (text : List ℕ) (old new : Option (List ℕ)) → length text < 2 ^ 63 → WritesPart old new text → WasCutShort (Prints text) old new
cut_short v text old new small part = record {
  report = report_of v text small;
  comes = record { text_is = refl; status_is = refl; written = refl };
  part = record { count = part.count; within = part.within; appends = part.appends };
}

pub printed_text : (v : Vec ℕ) (text all : List ℕ) (old new : Option (List ℕ)) → length text < 2 ^ 63 → text ≡ all → Appends old new text → IsPrinted (Prints all) old new 0 None
printed_text v text all old new small is printed = record {
  report = report_of v text small;
  comes = record { text_is = is; status_is = refl; written = refl };
  printed = printed;
  status_is = refl;
  database_is = refl;
  short = tt;
}

-- the fault if allocation fails for a row
pub wanting : (text : List ℕ) (old new : Option (List ℕ)) (is_written : Bool) → (is_written ≡ false → Keeps old new) → WasCutShort (Prints text) old new
    → IsUnserved {F = ReportFault} (Prints text) (λ fault. fault ≡ NoMemory) old new (cond is_written Write (Unreported NoMemory))
wanting text old new true kept cut = cut
wanting text old new false kept cut = (refl, kept refl)

pub printed_as : (P Q : Report → Type 0) (old new : Option (List ℕ)) (status : ℕ) (database : Option Database) → ((report : Report) → P report → Q report) → IsPrinted P old new status database → IsPrinted Q old new status database
printed_as P Q old new status database f is = record {
  report = is.report;
  comes = f is.report is.comes;
  printed = is.printed;
  status_is = is.status_is;
  database_is = is.database_is;
  short = is.short;
}

pub unserved_as : (P Q : Report → Type 0) (causes : Causes) (old new : Option (List ℕ)) (fault : Unserved ReportFault) → ((report : Report) → P report → Q report) → IsUnserved P (λ (f : ReportFault). f ≡ NoMemory) old new fault → IsUnserved Q (IsCaused causes) old new fault
unserved_as P Q causes old new (Unreported fault) f is = (subst (IsCaused causes) (sym is.0) tt, is.1)
unserved_as P Q causes old new Write f is = record { report = is.report; comes = f is.report is.comes; part = is.part }
unserved_as P Q causes old new TooLong f is = record {
  report = is.report;
  comes = f is.report is.comes;
  printed = is.printed;
  database = is.database;
  is = is.is;
  sound = is.sound;
  long = is.long;
}
