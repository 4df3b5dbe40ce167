-- The faults and the program of a run, from those of its steps.
use Rattle.std.proofs.Common.{◌≡◌, ◌≢◌, ℕ, ◌++◌, ◌∷◌, [], List, Bool, true, false, Option, Some, None, option_map, inl, inr, refl, subst, sym, ap, ◌∙◌, length, is_some}
use Rattle.std.specs.Prelude.{slice_get}
use Rattle.std.specs.declared.alloc.Global.{Global}
use Rattle.std.proofs.lemmas.Option.{same_Some}
use Rattle.sdbm_addr.specs.Database.{Database}
use Rattle.store_cmd.specs.declared.Command.{Command}
use Rattle.store_cmd.specs.declared.Command.TheVariants.{Run}
use Rattle.dbm_script.specs.Script.{run_command}
use Rattle.bpf_verify.specs.Verified.{Accepted}
use Rattle.prog_registry.specs.Judged.{IsProgramOf}
use Rattle.prog_registry.specs.Programs.{StandsAt}
use Rattle.prog_registry.specs.Registry.{Registered, GivesNumber, RefusesImage}
use Rattle.prog_registry.specs.declared.fault.RegFault.{RegFault}
use Rattle.prog_registry.specs.declared.fault.RegFault.TheVariants as reg
use Rattle.dbm_script.specs.Images.{Denies}
use Rattle.dbm_args.specs.declared.options.Form.{Form}
use Rattle.dbm_reports.specs.declared.databases.Given.{Given}
use Rattle.dbm_reports.specs.declared.fault.ReportFault.{ReportFault}
use Rattle.dbm_reports.specs.declared.fault.ReportFault.TheVariants.{BadHex, BadText, BadLayout, BadNumber, Open, NotText, Assemble, Decode, Read, TooLong, OutputTooLong, NoMemory}
use Rattle.dbm_reports.specs.Databases.{IsOpened, CanBeOpened}
use Rattle.dbm_reports.specs.Causes.{Causes, IsCaused, no_causes, file_causes}
use Rattle.dbm_records.specs.Running.{program_causes, RunsImage}
use Rattle.dbm_script.specs.declared.notations.Notation.{Notation}
use Rattle.dbm_reports.specs.declared.report.Report.{Report}
use Rattle.dbm_script.specs.declared.run_words.RunWords.{RunWords}

-- no cause except a failed allocation
no_fault : (causes : Causes) (fault : ReportFault) → IsCaused no_causes fault → IsCaused causes fault
no_fault causes BadHex h = absurd h
no_fault causes BadText h = absurd h
no_fault causes BadLayout h = absurd h
no_fault causes BadNumber h = absurd h
no_fault causes (Open reason) h = absurd h
no_fault causes NotText h = absurd h
no_fault causes (Assemble fault) h = absurd h
no_fault causes (Decode fault) h = absurd h
no_fault causes Read h = absurd h
no_fault causes TooLong h = absurd h
no_fault causes OutputTooLong h = absurd h
no_fault causes NoMemory h = h

-- the program's file, after the opening
pub opened_fault : (form : Form) (given : Given) (is_image : Bool) (fault : ReportFault) → CanBeOpened form given → IsCaused (file_causes is_image given.file.items) fault → IsCaused (program_causes form given is_image) fault
opened_fault form given true fault opens h = no_fault (program_causes form given true) fault h
opened_fault form given false BadHex opens h = h
opened_fault form given false BadText opens h = h
opened_fault form given false BadLayout opens h = h
opened_fault form given false BadNumber opens h = h
opened_fault form given false (Open reason) opens h = absurd h
opened_fault form given false NotText opens h = (opens, h)
opened_fault form given false (Assemble fault) opens h = (opens, h)
opened_fault form given false (Decode fault) opens h = h
opened_fault form given false Read opens h = h
opened_fault form given false TooLong opens h = h
opened_fault form given false OutputTooLong opens h = h
opened_fault form given false NoMemory opens h = h

-- the same database, with any program file
pub same_opened : (form : Form) (given other : Given) (db : Database) → other.dir ≡ given.dir → other.pag ≡ given.pag → IsOpened form other db → IsOpened form given db
same_opened form given other db dir pag o = record {
  spells = rw (← dir, ← pag) o.spells;
  kind = o.kind;
  size = o.size;
  only = λ db' kind size spells. o.only db' kind size (rw (dir, pag) spells);
}

-- the program that gets the first number in an empty registry
pub given_program : (old new : Registered) (image : List ℕ) (id : ℕ) → old.programs ≡ [] → GivesNumber old image id new → (p : Accepted) × (IsProgramOf image p × (slice_get new.programs id ≡ Some p))
given_program old new image id empty (inl there) = absurd (nothing_there id (subst (λ (programs : List Accepted). StandsAt programs image id) empty there.0))
  where
    nothing_there : (id : ℕ) → StandsAt [] image id → ⊥
    nothing_there id h = cc
given_program old new image id empty (inr adds) = (
  adds.program,
  (
    adds.is,
    subst (λ (n : ℕ). slice_get new.programs n ≡ Some adds.program) (sym (adds.next ∙ ap length empty))
        (subst (λ (programs : List Accepted). slice_get programs 0 ≡ Some adds.program) (sym (adds.programs ∙ ap (λ (programs : List Accepted). programs ++ adds.program ∷ []) empty)) refl),
  ),
)

-- the program of a command that runs one
pub ran_program : (programs : List Accepted) (key : List ℕ) (prog : ℕ) (arg : List ℕ) (blank : Option ℕ) (now : ℕ) (command : Command Global) → Some command ≡ run_command programs key prog arg blank now
    → (p : Accepted) × ((slice_get programs prog ≡ Some p) × (command ≡ Run key p.code arg blank now))
ran_program programs key prog arg blank now command is = by_program (slice_get programs prog) refl is
  where
    by_program : (o : Option Accepted) → slice_get programs prog ≡ o → Some command ≡ option_map (λ p. Run key p.code arg blank now) o
        → (p : Accepted) × ((slice_get programs prog ≡ Some p) × (command ≡ Run key p.code arg blank now))
    by_program None at e = let f : ⊥ = cc in absurd f
    by_program (Some p) at e = (p, (at, same_Some command (Run key p.code arg blank now) e))

-- why an empty registry refuses an image
pub denied : (old new : Registered) (image : List ℕ) (fault : RegFault) → old.programs ≡ [] → fault ≢ reg.NoMemory → RefusesImage old image fault new → Denies [] image fault
denied old new image reg.NoMemory empty told refuses = absurd (told refl)
denied old new image (reg.Decode fault) empty told refuses = refuses.1.0
denied old new image (reg.Verify fault) empty told refuses = refuses.1.0
denied old new image reg.Full empty told refuses = (refuses.1.0, ap length (sym empty) ∙ refuses.1.1.0)

-- after a run a database has to be written
pub ran_on : (n : Notation Global) (before : Database) (words : RunWords Global) (expect : Option ℕ) (image : List ℕ) (report : Report) → RunsImage n before words expect image report → is_some report.database ≡ true
ran_on n before words expect image report (inl h) = ap (λ (db : Option Database). is_some db) h.1.1.1.1
ran_on n before words expect image report (inr h) = ap (λ (db : Option Database). is_some db) h.1.1.written
