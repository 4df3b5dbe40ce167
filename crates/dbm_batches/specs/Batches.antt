-- The result of a batch: workers do tasks on a database. Each task runs the same program.
use Rattle.std.specs.Prelude.{◌≡◌, ◌⊎◌, ℕ, ◌≤◌, ◌++◌, Bool, List, [], ◌∷◌, length, map, Option, Some, None, IfSome, IsSome, ⊤}
use Rattle.std.specs.List.{All, flat_map}
use Rattle.std.specs.Borrow.{Bor}
use Rattle.std.specs.declared.alloc.Global.{Global}
use Rattle.sdbm_addr.specs.Database.{Database, map_of}
use Rattle.store_cmd.specs.declared.Entry.{Entry}
use Rattle.store_cmd.specs.declared.Reply.{Reply}
use Rattle.store_cmd.specs.History.{History}
use Rattle.bpf_verify.specs.Verified.{Accepted}
use Rattle.prog_registry.specs.Judged.{IsProgramOf}
use Rattle.prog_registry.specs.declared.registry.ProgId.{ProgId}
use Rattle.store_shared.specs.Shared.{CallsState, opened_by}
use Rattle.store_shared.specs.Closed.{Agrees, AreDistinct, Covers, IsRefusedClose}
use Rattle.worker_pool.specs.Pool.{AreDone, IsPoolFault}
use Rattle.worker_pool.specs.declared.task.PoolFault.{PoolFault}
use Rattle.worker_pool.specs.declared.task.PoolFault.TheVariants as jobs
use Rattle.worker_pool.specs.declared.task.Task.{Task}
use Rattle.dbm_script.specs.Answers.{reply_text}
use Rattle.dbm_script.specs.Images.{Denies}
use Rattle.dbm_script.specs.Numbers.{number_of}
use Rattle.dbm_script.specs.Shorthand.{spelled_text}
use Rattle.dbm_script.specs.Tasks.{AreTasksOf, IsFirstBad}
use Rattle.dbm_script.specs.declared.shorthand.LineKind.TheVariants.{OfBatch}
use Rattle.dbm_script.specs.declared.shorthand.TimeOfDay.{TimeOfDay}
use Rattle.dbm_script.specs.declared.notations.Notation.{Notation}
use Rattle.dbm_script.specs.declared.run_words.RunWords.{RunWords}
use Rattle.dbm_args.specs.declared.options.Form.{Form}
use Rattle.dbm_batches.specs.declared.batch.Batch.{Batch}
use Rattle.dbm_reports.specs.declared.databases.Given.{Given}
use Rattle.dbm_reports.specs.declared.report.Report.{Report}
use Rattle.dbm_reports.specs.Causes.{IsLongScript, no_causes}
use Rattle.dbm_records.specs.Running.{program_causes}
use Rattle.dbm_batches.specs.Causes.{WishCauses, no_wish_causes, only_report}
use Rattle.dbm_reports.specs.Databases.{IsOpened, IsShut, CanBeOpened}
use Rattle.dbm_reports.specs.Reports.{IsFileImage}

-- ---- before standard input is read

-- the number of workers in a text
abbrev pub workers_of : List ℕ → Option ℕ
workers_of text = number_of 4294967295 text

-- a registry has only the program of the image, with the number 0
pub record IsSubmitted (image : List ℕ) (programs : List Accepted) (id : ProgId) : Type 0 where
  pub program : Accepted
  pub is : IsProgramOf image program
  pub alone : programs ≡ program ∷ []
  pub first : id.0 ≡ 0

-- A batch is ready: its number of workers is valid, the files hold its database, and the program of the file is registered.
pub record IsBatchReady (form : Form) (given : Given) (workers : Bor (List ℕ)) (is_image : Bool) (batch : Batch) : Type 0 where
  pub number : workers_of workers.now ≡ Some batch.workers
  pub opened : IsOpened form given batch.database
  pub image : List ℕ
  pub image_is : IsFileImage is_image given.file.items image
  pub submitted : IsSubmitted image batch.registry.programs batch.program

-- ---- the tasks

-- the task that runs a program with these words
abbrev pub task_for : ProgId → RunWords Global → Task Global
task_for program words = record { key = words.key; prog = program; arg = words.arg; blank = words.blank; now = words.now }

-- the input has at most 16,777,216 bytes; once its shorthand is expanded, its lines are the tasks with these words
pub record AreShortTasks (notation : Notation Global) (time : Option TimeOfDay) (bytes : List ℕ) (words : List (RunWords Global)) : Type 0 where
  pub short : length bytes ≤ 16777216
  pub are : AreTasksOf Global notation (spelled_text OfBatch time bytes) words

-- the input has at most 16,777,216 bytes, and the first line that is not a task has this number
pub record HasBadLine (notation : Notation Global) (time : Option TimeOfDay) (bytes : List ℕ) (number : ℕ) : Type 0 where
  pub short : length bytes ≤ 16777216
  pub is : IsFirstBad Global notation (spelled_text OfBatch time bytes) number

-- P holds for the tasks on standard input; if the input is unknown, for some list of tasks
abbrev pub OnTasks : Notation Global → Option TimeOfDay → Batch → Option (List ℕ) → (List (Task Global) → Type 0) → Type 0
OnTasks notation time batch input P =
    (words : List (RunWords Global)) × (IfSome input (λ bytes. AreShortTasks notation time bytes words) × P (map (task_for batch.program) words))

-- The calls of sessions lead from `before` to `after`: a legal history between the two has exactly these calls, those of each session in
-- order.
pub record IsClosedAfter (before : Database) (calls : List (CallsState Global)) (after : Database) : Type 0 where
  pub entries : List (Entry Global)
  pub legal : History before.size before.kind (map_of before) entries (map_of after)
  pub agree : All (Agrees entries) calls
  pub distinct : AreDistinct calls
  pub covers : Covers entries calls
  pub kind : after.kind ≡ before.kind
  pub size : after.size ≡ before.size

-- All tasks are done, each with its reply, and the calls of the workers lead from the database of the batch to `after`.
pub record TasksLeadTo (batch : Batch) (tasks : List (Task Global)) (replies : List (Reply Global)) (after : Database) : Type 0 where
  pub calls : List (CallsState Global)
  pub done : AreDone batch.database.size batch.registry.programs tasks batch.workers replies calls
  pub closed : IsClosedAfter batch.database calls after

-- a reply as a line
abbrev pub reply_line : Notation Global → Reply Global → List ℕ
reply_line notation reply = reply_text notation reply ++ 10 ∷ []

-- The replies are printed in the order of the tasks, one line each, and the database after the tasks is written.
pub record DoesTasks (notation : Notation Global) (batch : Batch) (tasks : List (Task Global)) (report : Report) : Type 0 where
  pub replies : List (Reply Global)
  pub after : Database
  pub leads : TasksLeadTo batch tasks replies after
  pub text_is : report.text.items ≡ flat_map (reply_line notation) replies
  pub status_is : report.status ≡ 0
  pub written : report.database ≡ Some after

-- a batch is ready, and P holds for it
abbrev pub OnReady : Form → Given → Bor (List ℕ) → Bool → (Batch → Type 0) → Type 0
OnReady form given workers is_image P = (batch : Batch) × (IsBatchReady form given workers is_image batch × P batch)

-- the possible reports of a batch, for its arguments, files and standard input
abbrev pub OnBatch : Notation Global → Form → Given → Bor (List ℕ) → Bool → Option TimeOfDay → Option (List ℕ) → Report → Type 0
OnBatch notation form given workers is_image time input report =
    OnReady form given workers is_image (λ batch. OnTasks notation time batch input (λ tasks. DoesTasks notation batch tasks report))

-- ---- faults

-- the program of an image is refused
abbrev pub submit_causes : List ℕ → WishCauses
submit_causes image = record no_wish_causes { submitting = Denies [] image }

-- the causes of faults before standard input is read: the number of workers is checked first, then the files, then the program's image
abbrev pub ready_causes : Form → Given → Bor (List ℕ) → Bool → WishCauses
ready_causes form given workers is_image = record (only_report (record no_causes {
  numbers = workers_of workers.now ≡ None;
  opening = λ reason. IsSome (workers_of workers.now) × IsShut form given reason;
  no_text = IsSome (workers_of workers.now) × (program_causes form given is_image).no_text;
  assembling = λ fault. IsSome (workers_of workers.now) × (program_causes form given is_image).assembling fault;
})) {
  submitting = λ fault. IsSome (workers_of workers.now) × (CanBeOpened form given × ((image : List ℕ) × (IsFileImage is_image given.file.items image × (submit_causes image).submitting fault)));
}

-- Not all tasks are done. `NoMemory` is left out, since it is a separate fault.
abbrev pub IsUndone : Batch → List (Task Global) → PoolFault → Type 0
IsUndone batch tasks jobs.NoMemory = ⊥
IsUndone batch tasks fault = (calls : List (CallsState Global)) × IsPoolFault batch.database.size batch.registry.programs tasks batch.workers fault calls

-- the workers of a batch return these calls, whether or not all tasks are done
abbrev pub AreLeft : Batch → List (Task Global) → List (CallsState Global) → Type 0
AreLeft batch tasks calls =
    ((replies : List (Reply Global)) × AreDone batch.database.size batch.registry.programs tasks batch.workers replies calls)
    ⊎ ((fault : PoolFault) × IsPoolFault batch.database.size batch.registry.programs tasks batch.workers fault calls)

-- not all tasks are done, or the workers' calls do not match the store's trail
abbrev pub doing_causes : Batch → List (Task Global) → WishCauses
doing_causes batch tasks = record no_wish_causes {
  pool = IsUndone batch tasks;
  closing = λ fault. (calls : List (CallsState Global)) × (AreLeft batch tasks calls × IsRefusedClose (opened_by batch.database) calls fault);
}

-- the causes of faults after the input is read: the lines are checked first, then the tasks are done
abbrev pub task_causes : Notation Global → Option TimeOfDay → Batch → Option (List ℕ) → WishCauses
task_causes notation time batch input = record no_wish_causes {
  bad_line = λ number. IfSome input (λ bytes. HasBadLine notation time bytes number);
  pool = λ fault. OnTasks notation time batch input (λ tasks. (doing_causes batch tasks).pool fault);
  closing = λ fault. OnTasks notation time batch input (λ tasks. (doing_causes batch tasks).closing fault);
}

-- the causes of the faults of a batch; standard input is read only once the batch is ready
abbrev pub batch_causes : Notation Global → Form → Given → Bor (List ℕ) → Bool → Option TimeOfDay → Option (List ℕ) → WishCauses
batch_causes notation form given workers is_image time input = record (ready_causes form given workers is_image) {
  report = record (ready_causes form given workers is_image).report {
    reading = OnReady form given workers is_image (λ batch. ⊤);
    long = OnReady form given workers is_image (λ batch. IsLongScript input);
  };
  bad_line = λ number. OnReady form given workers is_image (λ batch. (task_causes notation time batch input).bad_line number);
  pool = λ fault. OnReady form given workers is_image (λ batch. (task_causes notation time batch input).pool fault);
  closing = λ fault. OnReady form given workers is_image (λ batch. (task_causes notation time batch input).closing fault);
}
