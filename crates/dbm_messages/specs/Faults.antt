-- The fault of a run for each fault of a step.
use Rattle.dbm_places.specs.declared.fault.FilesFault.{FilesFault}
use Rattle.dbm_places.specs.declared.fault.FilesFault.TheVariants as files
use Rattle.dbm_script.specs.declared.tasks.TasksFault.{TasksFault}
use Rattle.dbm_script.specs.declared.tasks.TasksFault.TheVariants as tasks
use Rattle.prog_registry.specs.declared.fault.RegFault.{RegFault}
use Rattle.prog_registry.specs.declared.fault.RegFault.TheVariants as reg
use Rattle.worker_pool.specs.declared.task.PoolFault.{PoolFault}
use Rattle.worker_pool.specs.declared.task.PoolFault.TheVariants as jobs
use Rattle.dbm_dump.specs.declared.copy_fault.CopyFault.{CopyFault}
use Rattle.dbm_dump.specs.declared.copy_fault.CopyFault.TheVariants as dumps
use Rattle.dbm_reports.specs.declared.fault.ReportFault.{ReportFault}
use Rattle.dbm_reports.specs.declared.fault.ReportFault.TheVariants as reports
use Rattle.dbm_messages.specs.declared.fault.ServeFault.{ServeFault}
use Rattle.dbm_messages.specs.declared.fault.ServeFault.TheVariants.{ReadFile, FileTooLong, WriteFile, BadRedo, Unsafe, Locked, Moved, Changed, Report, Dump, Submit, BadLine, Pool, Saved, NoMemory}

-- a fault of a report
abbrev pub report_fault : ReportFault → ServeFault
report_fault reports.NoMemory = NoMemory
report_fault fault = Report fault

-- a fault of `dump` or `load`
abbrev pub copy_fault : CopyFault → ServeFault
copy_fault (dumps.Report fault) = report_fault fault
copy_fault (dumps.Dump fault) = Dump fault

-- a fault of the lines of a batch
abbrev pub tasks_fault : TasksFault → ServeFault
tasks_fault (tasks.BadLine number) = BadLine number
tasks_fault tasks.NoMemory = NoMemory

-- a fault of submitting a program image
abbrev pub submit_fault : RegFault → ServeFault
submit_fault reg.NoMemory = NoMemory
submit_fault (reg.Decode fault) = Submit (reg.Decode fault)
submit_fault (reg.Verify fault) = Submit (reg.Verify fault)
submit_fault reg.Full = Submit reg.Full

-- a fault of the workers
abbrev pub pool_fault : PoolFault → ServeFault
pool_fault jobs.NoWorkers = Pool jobs.NoWorkers
pool_fault (jobs.NoProgram task) = Pool (jobs.NoProgram task)
pool_fault jobs.NoSession = Pool jobs.NoSession
pool_fault (jobs.NoThread worker) = Pool (jobs.NoThread worker)
pool_fault (jobs.Refused task refusal) = Pool (jobs.Refused task refusal)
pool_fault jobs.NoMemory = NoMemory

-- a fault of the files
abbrev pub files_fault : FilesFault → ServeFault
files_fault files.ReadFile = ReadFile
files_fault files.FileTooLong = FileTooLong
files_fault files.WriteFile = WriteFile
files_fault files.BadRedo = BadRedo
files_fault files.Unsafe = Unsafe
files_fault files.Locked = Locked
files_fault (files.Moved file) = Moved file
files_fault files.Changed = Changed
files_fault files.Write = Saved
files_fault files.NoMemory = NoMemory
