-- The result of a batch and its faults, from those of its steps.
use Rattle.std.proofs.Common.{◌≡◌, inl, inr, ℕ, List, Bool, Option, Some, IfSome, IsSome, subst, sym}
use Rattle.std.specs.FinMap as fin_map
use Rattle.std.specs.Prelude.{◌⊎◌, map}
use Rattle.std.specs.Borrow.{Bor}
use Rattle.std.specs.declared.alloc.Global.{Global}
use Rattle.sdbm_addr.specs.Database.{Database, map_of}
use Rattle.sdbm_addr.specs.Pairs.{Map, key_cmp}
use Rattle.sdbm_addr.proofs.MapLemmas.{from_entries-entries}
use Rattle.store_cmd.specs.declared.Entry.{Entry}
use Rattle.store_cmd.specs.History.{History}
use Rattle.store_shared.specs.Shared.{CallsState, Opened, opened_by}
use Rattle.store_shared.specs.Closed.{IsRefusedClose}
use Rattle.store_shared.specs.declared.close.CloseFault.{CloseFault}
use Rattle.worker_pool.specs.Pool.{IsPoolFault}
use Rattle.worker_pool.specs.declared.task.PoolFault.{PoolFault}
use Rattle.worker_pool.specs.declared.task.PoolFault.TheVariants as jobs
use Rattle.worker_pool.specs.declared.task.Task.{Task}
use Rattle.dbm_batches.specs.declared.batch.Batch.{Batch}
use Rattle.dbm_messages.specs.declared.fault.ServeFault.{ServeFault}
use Rattle.dbm_messages.specs.declared.fault.ServeFault.TheVariants.{NotText, ReadFile, FileTooLong, WriteFile, BadRedo, Unsafe, OtherSize, ReadClock, BadBase, Absent, Exists, NoStock, Locked, Moved, Changed, Report, Dump, Submit, BadLine, CutLine, Pool, Close, Write, Saved, NoMemory}
use Rattle.dbm_script.specs.declared.notations.Notation.{Notation}
use Rattle.dbm_script.specs.declared.run_words.RunWords.{RunWords}
use Rattle.dbm_script.specs.declared.shorthand.TimeOfDay.{TimeOfDay}
use Rattle.dbm_script.proofs.Runs.{known_read}
use Rattle.dbm_args.specs.declared.options.Form.{Form}
use Rattle.dbm_reports.specs.declared.databases.Given.{Given}
use Rattle.dbm_batches.specs.Batches.{AreLeft, AreShortTasks, HasBadLine, IsBatchReady, OnTasks, batch_causes, doing_causes, ready_causes, submit_causes, task_causes, task_for, workers_of}
use Rattle.dbm_reports.specs.declared.fault.ReportFault.{ReportFault}
use Rattle.dbm_reports.specs.declared.fault.ReportFault.TheVariants as reports
use Rattle.dbm_reports.specs.Causes.{Causes, IsCaused, input_causes, no_causes}
use Rattle.dbm_records.specs.Running.{program_causes}
use Rattle.dbm_messages.specs.Faults.{pool_fault, report_fault}
use Rattle.dbm_batches.specs.Causes.{HasWishCause, HasReportCause}
use Rattle.dbm_reports.specs.Databases.{CanBeOpened}
use Rattle.dbm_reports.specs.Reports.{IsFileImage}

-- a history from the pairs at the opening of a store is a history from its database
pub legal_from : (store : Opened) (before after : Database) (entries : List (Entry Global)) → store ≡ opened_by before
    → History store.size store.kind (fin_map.from_entries {R = key_cmp} store.opening) entries (map_of after) → History before.size before.kind (map_of before) entries (map_of after)
legal_from store before after entries is legal =
    subst (λ (m : Map). History before.size before.kind m entries (map_of after)) (sym (from_entries-entries (map_of before)))
    (subst (λ (o : Opened). History o.size o.kind (fin_map.from_entries {R = key_cmp} o.opening) entries (map_of after)) is legal)

-- a store that does not close
pub closing_fault : (batch : Batch) (tasks : List (Task Global)) (store : Opened) (calls : List (CallsState Global)) (fault : ServeFault)
    → store ≡ opened_by batch.database → AreLeft batch tasks calls
    → (reason : CloseFault) × ((fault ≡ Close reason) × IsRefusedClose store calls reason) → HasWishCause (doing_causes batch tasks) fault
closing_fault batch tasks store calls fault is left bad =
    subst (λ (f : ServeFault). HasWishCause (doing_causes batch tasks) f) (sym bad.1.0)
    (calls, (left, subst (λ (o : Opened). IsRefusedClose o calls bad.0) is bad.1.1))

-- tasks that are not all done
pub jobs_fault : (batch : Batch) (tasks : List (Task Global)) (calls : List (CallsState Global)) (fault : PoolFault)
    → IsPoolFault batch.database.size batch.registry.programs tasks batch.workers fault calls → HasWishCause (doing_causes batch tasks) (pool_fault fault)
jobs_fault batch tasks calls jobs.NoWorkers h = (calls, h)
jobs_fault batch tasks calls (jobs.NoProgram task) h = (calls, h)
jobs_fault batch tasks calls jobs.NoSession h = (calls, h)
jobs_fault batch tasks calls (jobs.NoThread worker) h = (calls, h)
jobs_fault batch tasks calls (jobs.Refused task refusal) h = (calls, h)
jobs_fault batch tasks calls jobs.NoMemory h = tt

-- tasks that are not all done, whether the store closes or not
pub undone_fault : (batch : Batch) (tasks : List (Task Global)) (store : Opened) (calls : List (CallsState Global)) (fault : PoolFault) (result : ServeFault)
    → store ≡ opened_by batch.database → IsPoolFault batch.database.size batch.registry.programs tasks batch.workers fault calls
    → (result ≡ pool_fault fault) ⊎ ((reason : CloseFault) × ((result ≡ Close reason) × IsRefusedClose store calls reason)) → HasWishCause (doing_causes batch tasks) result
undone_fault batch tasks store calls fault result is h cases =
    elim cases [
      | inl of_jobs ↦ subst (λ (f : ServeFault). HasWishCause (doing_causes batch tasks) f) (sym of_jobs) (jobs_fault batch tasks calls fault h)
      | inr bad ↦ closing_fault batch tasks store calls result is (inr (fault, h)) bad
    ]

-- no cause at all
no_report : (causes : Causes) (fault : ReportFault) → HasReportCause no_causes fault → HasReportCause causes fault
no_report causes reports.BadHex h = absurd h
no_report causes reports.BadText h = absurd h
no_report causes reports.BadLayout h = absurd h
no_report causes reports.BadNumber h = absurd h
no_report causes (reports.Open reason) h = absurd h
no_report causes reports.NotText h = absurd h
no_report causes (reports.Assemble fault) h = absurd h
no_report causes (reports.Decode fault) h = absurd h
no_report causes reports.Read h = absurd h
no_report causes reports.TooLong h = absurd h
no_report causes reports.OutputTooLong h = absurd h
no_report causes reports.NoMemory h = absurd h

-- the database's files and the program's file are read after the number of workers
pub files_before : (form : Form) (given : Given) (workers : Bor (List ℕ)) (is_image : Bool) (fault : ReportFault)
    → IsSome (workers_of workers.now) → IsCaused (program_causes form given is_image) fault → HasWishCause (ready_causes form given workers is_image) (report_fault fault)
files_before form given workers is_image reports.BadHex number h = absurd h
files_before form given workers is_image reports.BadText number h = absurd h
files_before form given workers is_image reports.BadLayout number h = absurd h
files_before form given workers is_image reports.BadNumber number h = absurd h
files_before form given workers is_image (reports.Open reason) number h = (number, h)
files_before form given workers is_image reports.NotText number h = (number, h)
files_before form given workers is_image (reports.Assemble fault) number h = (number, h)
files_before form given workers is_image (reports.Decode fault) number h = absurd h
files_before form given workers is_image reports.Read number h = absurd h
files_before form given workers is_image reports.TooLong number h = absurd h
files_before form given workers is_image reports.OutputTooLong number h = absurd h
files_before form given workers is_image reports.NoMemory number h = tt

-- an image whose program is refused, after the words and the files
pub submitted_fault : (form : Form) (given : Given) (workers : Bor (List ℕ)) (is_image : Bool) (image : List ℕ) (fault : ServeFault)
    → IsSome (workers_of workers.now) → CanBeOpened form given → IsFileImage is_image given.file.items image → HasWishCause (submit_causes image) fault → HasWishCause (ready_causes form given workers is_image) fault
submitted_fault form given workers is_image image NotText number opens is h = h
submitted_fault form given workers is_image image ReadFile number opens is h = h
submitted_fault form given workers is_image image FileTooLong number opens is h = h
submitted_fault form given workers is_image image WriteFile number opens is h = h
submitted_fault form given workers is_image image BadRedo number opens is h = h
submitted_fault form given workers is_image image Unsafe number opens is h = h
submitted_fault form given workers is_image image OtherSize number opens is h = h
submitted_fault form given workers is_image image ReadClock number opens is h = h
submitted_fault form given workers is_image image BadBase number opens is h = h
submitted_fault form given workers is_image image (CutLine line) number opens is h = h
submitted_fault form given workers is_image image Absent number opens is h = h
submitted_fault form given workers is_image image Exists number opens is h = h
submitted_fault form given workers is_image image NoStock number opens is h = h
submitted_fault form given workers is_image image Locked number opens is h = h
submitted_fault form given workers is_image image (Moved moved) number opens is h = h
submitted_fault form given workers is_image image Changed number opens is h = h
submitted_fault form given workers is_image image (Report fault) number opens is h = no_report (ready_causes form given workers is_image).report fault h
submitted_fault form given workers is_image image (Dump fault) number opens is h = absurd h
submitted_fault form given workers is_image image (Submit fault) number opens is h = (number, (opens, (image, (is, h))))
submitted_fault form given workers is_image image (BadLine number') number opens is h = h
submitted_fault form given workers is_image image (Pool fault) number opens is h = h
submitted_fault form given workers is_image image (Close fault) number opens is h = h
submitted_fault form given workers is_image image Write number opens is h = h
submitted_fault form given workers is_image image Saved number opens is h = h
submitted_fault form given workers is_image image NoMemory number opens is h = h

-- a batch that is not ready
pub unready_fault : (n : Notation Global) (form : Form) (given : Given) (workers : Bor (List ℕ)) (is_image : Bool) (time : Option TimeOfDay) (input : Option (List ℕ)) (fault : ServeFault)
    → HasWishCause (ready_causes form given workers is_image) fault → HasWishCause (batch_causes n form given workers is_image time input) fault
unready_fault n form given workers is_image time input NotText h = h
unready_fault n form given workers is_image time input ReadFile h = h
unready_fault n form given workers is_image time input FileTooLong h = h
unready_fault n form given workers is_image time input WriteFile h = h
unready_fault n form given workers is_image time input BadRedo h = h
unready_fault n form given workers is_image time input Unsafe h = h
unready_fault n form given workers is_image time input OtherSize h = h
unready_fault n form given workers is_image time input ReadClock h = h
unready_fault n form given workers is_image time input BadBase h = h
unready_fault n form given workers is_image time input (CutLine line) h = h
unready_fault n form given workers is_image time input Absent h = h
unready_fault n form given workers is_image time input Exists h = h
unready_fault n form given workers is_image time input NoStock h = h
unready_fault n form given workers is_image time input Locked h = h
unready_fault n form given workers is_image time input (Moved moved) h = h
unready_fault n form given workers is_image time input Changed h = h
unready_fault n form given workers is_image time input (Report reports.BadHex) h = h
unready_fault n form given workers is_image time input (Report reports.BadText) h = h
unready_fault n form given workers is_image time input (Report reports.BadLayout) h = h
unready_fault n form given workers is_image time input (Report reports.BadNumber) h = h
unready_fault n form given workers is_image time input (Report (reports.Open reason)) h = h
unready_fault n form given workers is_image time input (Report reports.NotText) h = h
unready_fault n form given workers is_image time input (Report (reports.Assemble fault)) h = h
unready_fault n form given workers is_image time input (Report (reports.Decode fault)) h = h
unready_fault n form given workers is_image time input (Report reports.Read) h = absurd h
unready_fault n form given workers is_image time input (Report reports.TooLong) h = absurd h
unready_fault n form given workers is_image time input (Report reports.OutputTooLong) h = absurd h
unready_fault n form given workers is_image time input (Report reports.NoMemory) h = absurd h
unready_fault n form given workers is_image time input (Dump fault) h = absurd h
unready_fault n form given workers is_image time input (Submit fault) h = h
unready_fault n form given workers is_image time input (BadLine number) h = absurd h
unready_fault n form given workers is_image time input (Pool fault) h = absurd h
unready_fault n form given workers is_image time input (Close fault) h = absurd h
unready_fault n form given workers is_image time input Write h = h
unready_fault n form given workers is_image time input Saved h = h
unready_fault n form given workers is_image time input NoMemory h = h

-- tasks that are not all done, after the lines were read
pub doing_fault : (n : Notation Global) (time : Option TimeOfDay) (batch : Batch) (input : List ℕ) (words : List (RunWords Global)) (tasks : List (Task Global)) (fault : ServeFault)
    → AreShortTasks n time input words → tasks ≡ map (task_for batch.program) words → HasWishCause (doing_causes batch tasks) fault → HasWishCause (task_causes n time batch (Some input)) fault
doing_fault n time batch input words tasks fault are is h = go fault (subst (λ (ts : List (Task Global)). HasWishCause (doing_causes batch ts) fault) is h)
  where
    go : (fault : ServeFault) → HasWishCause (doing_causes batch (map (task_for batch.program) words)) fault → HasWishCause (task_causes n time batch (Some input)) fault
    go NotText h = absurd h
    go ReadFile h = absurd h
    go FileTooLong h = absurd h
    go WriteFile h = absurd h
    go BadRedo h = absurd h
    go Unsafe h = absurd h
    go OtherSize h = absurd h
    go ReadClock h = absurd h
    go BadBase h = absurd h
    go (CutLine line) h = absurd h
    go Absent h = absurd h
    go Exists h = absurd h
    go NoStock h = absurd h
    go Locked h = absurd h
    go (Moved moved) h = absurd h
    go Changed h = absurd h
    go (Report fault) h = no_report (task_causes n time batch (Some input)).report fault h
    go (Dump fault) h = absurd h
    go (Submit fault) h = absurd h
    go (BadLine number) h = absurd h
    go (Pool fault) h = (words, (are, h))
    go (Close fault) h = (words, (are, h))
    go Write h = absurd h
    go Saved h = absurd h
    go NoMemory h = tt

-- standard input is read once a batch is ready
pub unread_fault : (n : Notation Global) (form : Form) (given : Given) (workers : Bor (List ℕ)) (is_image : Bool) (time : Option TimeOfDay) (input : Option (List ℕ)) (batch : Batch) (fault : ReportFault)
    → IsBatchReady form given workers is_image batch → IsCaused (input_causes input) fault → HasWishCause (batch_causes n form given workers is_image time input) (report_fault fault)
unread_fault n form given workers is_image time input batch reports.BadHex ready h = absurd h
unread_fault n form given workers is_image time input batch reports.BadText ready h = absurd h
unread_fault n form given workers is_image time input batch reports.BadLayout ready h = absurd h
unread_fault n form given workers is_image time input batch reports.BadNumber ready h = absurd h
unread_fault n form given workers is_image time input batch (reports.Open reason) ready h = absurd h
unread_fault n form given workers is_image time input batch reports.NotText ready h = absurd h
unread_fault n form given workers is_image time input batch (reports.Assemble fault) ready h = absurd h
unread_fault n form given workers is_image time input batch (reports.Decode fault) ready h = absurd h
unread_fault n form given workers is_image time input batch reports.Read ready h = (batch, (ready, tt))
unread_fault n form given workers is_image time input batch reports.TooLong ready h = (batch, (ready, h))
unread_fault n form given workers is_image time input batch reports.OutputTooLong ready h = absurd h
unread_fault n form given workers is_image time input batch reports.NoMemory ready h = tt

-- if the input is known, it is what was read
pub known_tasks : (n : Notation Global) (time : Option TimeOfDay) (batch : Batch) (known : Option (List ℕ)) (read : List ℕ) (P : List (Task Global) → Type 0)
    → IfSome known (λ input. read ≡ input) → OnTasks n time batch (Some read) P → OnTasks n time batch known P
known_tasks n time batch known read P is on = (on.0, (known_read known read (λ bytes. AreShortTasks n time bytes on.0) is on.1.0, on.1.1))

-- the lines and the tasks, once a batch is ready
pub ran_fault : (n : Notation Global) (form : Form) (given : Given) (workers : Bor (List ℕ)) (is_image : Bool) (time : Option TimeOfDay) (known : Option (List ℕ)) (read : List ℕ) (batch : Batch) (fault : ServeFault)
    → IfSome known (λ input. read ≡ input) → IsBatchReady form given workers is_image batch → HasWishCause (task_causes n time batch (Some read)) fault
    → HasWishCause (batch_causes n form given workers is_image time known) fault
ran_fault n form given workers is_image time known read batch NotText is ready h = absurd h
ran_fault n form given workers is_image time known read batch ReadFile is ready h = absurd h
ran_fault n form given workers is_image time known read batch FileTooLong is ready h = absurd h
ran_fault n form given workers is_image time known read batch WriteFile is ready h = absurd h
ran_fault n form given workers is_image time known read batch BadRedo is ready h = absurd h
ran_fault n form given workers is_image time known read batch Unsafe is ready h = absurd h
ran_fault n form given workers is_image time known read batch OtherSize is ready h = absurd h
ran_fault n form given workers is_image time known read batch ReadClock is ready h = absurd h
ran_fault n form given workers is_image time known read batch BadBase is ready h = absurd h
ran_fault n form given workers is_image time known read batch (CutLine line) is ready h = absurd h
ran_fault n form given workers is_image time known read batch Absent is ready h = absurd h
ran_fault n form given workers is_image time known read batch Exists is ready h = absurd h
ran_fault n form given workers is_image time known read batch NoStock is ready h = absurd h
ran_fault n form given workers is_image time known read batch Locked is ready h = absurd h
ran_fault n form given workers is_image time known read batch (Moved moved) is ready h = absurd h
ran_fault n form given workers is_image time known read batch Changed is ready h = absurd h
ran_fault n form given workers is_image time known read batch (Report fault) is ready h = no_report (batch_causes n form given workers is_image time known).report fault h
ran_fault n form given workers is_image time known read batch (Dump fault) is ready h = absurd h
ran_fault n form given workers is_image time known read batch (Submit fault) is ready h = absurd h
ran_fault n form given workers is_image time known read batch (BadLine number) is ready h = (batch, (ready, known_read known read (λ bytes. HasBadLine n time bytes number) is h))
ran_fault n form given workers is_image time known read batch (Pool fault) is ready h = (batch, (ready, known_tasks n time batch known read (λ tasks. (doing_causes batch tasks).pool fault) is h))
ran_fault n form given workers is_image time known read batch (Close fault) is ready h = (batch, (ready, known_tasks n time batch known read (λ tasks. (doing_causes batch tasks).closing fault) is h))
ran_fault n form given workers is_image time known read batch Write is ready h = absurd h
ran_fault n form given workers is_image time known read batch Saved is ready h = absurd h
ran_fault n form given workers is_image time known read batch NoMemory is ready h = tt
