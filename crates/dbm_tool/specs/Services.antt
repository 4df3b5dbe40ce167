-- The possible reports of each request, and the conditions of its faults.
use Rattle.std.specs.Prelude.{ℕ, Bool, true, false, List, Option, Some, None}
use Rattle.std.specs.declared.alloc.Global.{Global}
use Rattle.dbm_script.specs.declared.notations.Notation.{Notation}
use Rattle.dbm_command_line.specs.Wishes.{head_of}
use Rattle.dbm_command_line.specs.declared.wish.Wish.{Wish}
use Rattle.dbm_command_line.specs.declared.wish.Wish.TheVariants as wish
use Rattle.dbm_records.specs.declared.batch.Batch.{Batch}
use Rattle.dbm_reports.specs.declared.databases.Given.{Given}
use Rattle.dbm_reports.specs.declared.report.Report.{Report}
use Rattle.dbm_reports.specs.Known.{Known, layout_causes}
use Rattle.dbm_reports.specs.Notations.{notation_by}
use Rattle.dbm_records.specs.Fetch.{fetch_in}
use Rattle.dbm_records.specs.Store.{store_in, takes_input}
use Rattle.dbm_records.specs.Delete.{delete_in}
use Rattle.dbm_records.specs.Rename.{rename_in}
use Rattle.dbm_records.specs.Run.{run_in}
use Rattle.dbm_records.specs.Incr.{incr_in}
use Rattle.dbm_records.specs.Each.{each_in}
use Rattle.dbm_databases.specs.List.{list_in}
use Rattle.dbm_databases.specs.Keys.{keys_in}
use Rattle.dbm_databases.specs.Count.{count_in}
use Rattle.dbm_databases.specs.Check.{check_in}
use Rattle.dbm_databases.specs.Stats.{stats_in}
use Rattle.dbm_databases.specs.Script.{script_in}
use Rattle.dbm_databases.specs.Widen.{widen_in}
use Rattle.dbm_dump.specs.Causes.{DumpKnown}
use Rattle.dbm_dump.specs.Compact.{compact_in}
use Rattle.dbm_dump.specs.Dump.{dump_in}
use Rattle.dbm_dump.specs.Load.{load_in}
use Rattle.dbm_programs.specs.Asm.{asm_in}
use Rattle.dbm_programs.specs.Disasm.{disasm_in}
use Rattle.dbm_programs.specs.Verify.{verify_in}
use Rattle.dbm_batches.specs.Batches.{OnBatch, batch_causes}
use Rattle.dbm_batches.specs.Causes.{WishCauses, only_report}

pub record Service : Type 1 where
  -- the possible reports
  pub reports : Report → Type 0
  -- the conditions of the faults
  pub causes : WishCauses

-- a subcommand whose faults are all inside `Report`
abbrev pub reporting : Known → Service
reporting known = record {
  reports = known.reports;
  causes = only_report known.causes;
}

-- `dump` or `load`
abbrev pub dumping : DumpKnown → Service
dumping known = record {
  reports = known.reports;
  causes = record (only_report known.causes.report) { dump = known.causes.dump };
}

-- a batch
abbrev pub batch_in : Notation Global → Batch → Given → Option (List ℕ) → Service
batch_in n batch given input = record {
  reports = OnBatch n batch.form given batch.workers batch.image batch.time input;
  causes = batch_causes n batch.form given batch.workers batch.image batch.time input;
}

-- The reports and the faults of a request, given its notation, the bytes of its files and standard input.
abbrev pub service_in : Notation Global → Wish → Given → Option (List ℕ) → Service
service_in n (wish.Fetch fetch) given input = reporting (fetch_in n fetch given)
service_in n (wish.Store store) given input = reporting (store_in n store given input)
service_in n (wish.Delete delete) given input = reporting (delete_in n delete given)
service_in n (wish.Rename rename) given input = reporting (rename_in n rename given)
service_in n (wish.Run run) given input = reporting (run_in n run given)
service_in n (wish.Incr incr) given input = reporting (incr_in n incr given)
service_in n (wish.Each each) given input = reporting (each_in n each given)
service_in n (wish.Batch batch) given input = batch_in n batch given input
service_in n (wish.List list) given input = reporting (list_in n list given)
service_in n (wish.Keys keys) given input = reporting (keys_in n keys given)
service_in n (wish.Count count) given input = reporting (count_in n count given)
service_in n (wish.Check check) given input = reporting (check_in check given)
service_in n (wish.Stats stats) given input = reporting (stats_in stats given)
service_in n (wish.Script script) given input = reporting (script_in n script.base script given input)
service_in n (wish.Widen widen) given input = reporting (widen_in widen given)
service_in n (wish.Compact compact) given input = reporting (compact_in compact given)
service_in n (wish.Dump dump) given input = dumping (dump_in n dump given)
service_in n (wish.Load load) given input = dumping (load_in load given input)
service_in n (wish.Asm asm) given input = reporting (asm_in given)
service_in n (wish.Disasm disasm) given input = reporting (disasm_in given)
service_in n (wish.Verify verify) given input = reporting (verify_in verify given)

-- the notation of a request, if its layout is valid
abbrev pub notation_for : Wish → Option (Notation Global)
notation_for wish = notation_by (head_of wish).notation.text (head_of wish).notation.layout

-- the reports and the faults in the notation; with an invalid layout, the only fault is `BadLayout` and no report is possible
abbrev pub noted : Option (Notation Global) → (Notation Global → Service) → Service
noted None known = record {
  reports = λ report. ⊥;
  causes = only_report (layout_causes None);
}
noted (Some n) known = known n

-- The reports and the faults of a request, given the bytes of its files and standard input.
abbrev pub service_for : Wish → Given → Option (List ℕ) → Service
service_for wish given input = noted (notation_for wish) (λ n. service_in n wish given input)

-- the requests that read standard input: a batch, a script, a load, and a store whose value is standard input
abbrev pub reads_input : Wish → Bool
reads_input (wish.Batch batch) = true
reads_input (wish.Script script) = true
reads_input (wish.Load load) = true
reads_input (wish.Store store) = takes_input store
reads_input _ = false
