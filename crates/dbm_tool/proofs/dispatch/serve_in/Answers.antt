use Rattle.std.proofs.Common.{refl}
use Rattle.dbm_dump.specs.Compact.{compact_in}
use Rattle.dbm_dump.specs.Dump.{dump_in}
use Rattle.dbm_dump.specs.Load.{load_in}
use Rattle.dbm_databases.specs.Count.{count_in}
use Rattle.dbm_databases.specs.Check.{check_in}
use Rattle.dbm_databases.specs.Keys.{keys_in}
use Rattle.dbm_databases.specs.List.{list_in}
use Rattle.dbm_databases.specs.Stats.{stats_in}
use Rattle.dbm_records.specs.Delete.{delete_in}
use Rattle.dbm_records.specs.Fetch.{fetch_in}
use Rattle.dbm_records.specs.Store.{store_in}
use Rattle.dbm_programs.specs.Asm.{asm_in}
use Rattle.dbm_programs.specs.Disasm.{disasm_in}
use Rattle.dbm_programs.specs.Verify.{verify_in}
use Rattle.dbm_records.specs.Rename.{rename_in}
use Rattle.dbm_records.specs.Run.{run_in}
use Rattle.dbm_records.specs.Incr.{incr_in}
use Rattle.dbm_records.specs.Each.{each_in}
use Rattle.dbm_databases.specs.Script.{script_in}
use Rattle.dbm_databases.specs.Widen.{widen_in}
use Rattle.dbm_tool.specs.Services.{batch_in}
use Rattle.dbm_tool.proofs.Turns.{batched, dumped, reported}
use Rattle.dbm_tool.proofs.dispatch.serve_in.Goals as goal

pub returns-in-Fetch : goal.returns-in-Fetch
returns-in-Fetch g c = rw (c.in-Fetch.is) (reported (fetch_in c.args.n.now c.in-Fetch.fetch c.args.given.now) _ _ _ _ _ _ c.serve.result c.outcome_of.result c.outcome_of.ensures c.serve.ensures.ok c.serve.ensures.fault c.serve.ensures.database c.serve.ensures.unread)

pub returns-in-Store : goal.returns-in-Store
returns-in-Store g c = rw (c.in-Store.is) (reported (store_in c.args.n.now c.in-Store.store c.args.given.now (g.R.Read.remaining c.args.reader.now)) _ _ _ _ _ _ c.serve-in-Store.result c.outcome_of-in-Store.result c.outcome_of-in-Store.ensures c.serve-in-Store.ensures.ok c.serve-in-Store.ensures.fault c.serve-in-Store.ensures.database c.serve-in-Store.ensures.unread)

pub returns-in-Delete : goal.returns-in-Delete
returns-in-Delete g c = rw (c.in-Delete.is) (reported (delete_in c.args.n.now c.in-Delete.delete c.args.given.now) _ _ _ _ _ _ c.serve-in-Delete.result c.outcome_of-in-Delete.result c.outcome_of-in-Delete.ensures c.serve-in-Delete.ensures.ok c.serve-in-Delete.ensures.fault c.serve-in-Delete.ensures.database c.serve-in-Delete.ensures.unread)

pub returns-in-Rename : goal.returns-in-Rename
returns-in-Rename g c = rw (c.in-Rename.is) (reported (rename_in c.args.n.now c.in-Rename.rename c.args.given.now) _ _ _ _ _ _ c.serve-in-Rename.result c.outcome_of-in-Rename.result c.outcome_of-in-Rename.ensures c.serve-in-Rename.ensures.ok c.serve-in-Rename.ensures.fault c.serve-in-Rename.ensures.database c.serve-in-Rename.ensures.unread)

pub returns-in-Run : goal.returns-in-Run
returns-in-Run g c = rw (c.in-Run.is) (reported (run_in c.args.n.now c.in-Run.asked c.args.given.now) _ _ _ _ _ _ c.serve-in-Run.result c.outcome_of-in-Run.result c.outcome_of-in-Run.ensures c.serve-in-Run.ensures.ok c.serve-in-Run.ensures.fault c.serve-in-Run.ensures.database c.serve-in-Run.ensures.unread)

pub returns-in-Incr : goal.returns-in-Incr
returns-in-Incr g c = rw (c.in-Incr.is) (reported (incr_in c.args.n.now c.in-Incr.incr c.args.given.now) _ _ _ _ _ _ c.serve-in-Incr.result c.outcome_of-in-Incr.result c.outcome_of-in-Incr.ensures c.serve-in-Incr.ensures.ok c.serve-in-Incr.ensures.fault c.serve-in-Incr.ensures.database c.serve-in-Incr.ensures.unread)

pub returns-in-Each : goal.returns-in-Each
returns-in-Each g c = rw (c.in-Each.is) (reported (each_in c.args.n.now c.in-Each.each c.args.given.now) _ _ _ _ _ _ c.serve-in-Each.result c.outcome_of-in-Each.result c.outcome_of-in-Each.ensures c.serve-in-Each.ensures.ok c.serve-in-Each.ensures.fault c.serve-in-Each.ensures.database c.serve-in-Each.ensures.unread)

pub returns-in-List : goal.returns-in-List
returns-in-List g c = rw (c.in-List.is) (reported (list_in c.args.n.now c.in-List.list c.args.given.now) _ _ _ _ _ _ c.serve-in-List.result c.outcome_of-in-List.result c.outcome_of-in-List.ensures c.serve-in-List.ensures.ok c.serve-in-List.ensures.fault c.serve-in-List.ensures.database (λ _. refl))

pub returns-in-Keys : goal.returns-in-Keys
returns-in-Keys g c = rw (c.in-Keys.is) (reported (keys_in c.args.n.now c.in-Keys.keys c.args.given.now) _ _ _ _ _ _ c.serve-in-Keys.result c.outcome_of-in-Keys.result c.outcome_of-in-Keys.ensures c.serve-in-Keys.ensures.ok c.serve-in-Keys.ensures.fault c.serve-in-Keys.ensures.database (λ _. refl))

pub returns-in-Count : goal.returns-in-Count
returns-in-Count g c = rw (c.in-Count.is) (reported (count_in c.args.n.now c.in-Count.count c.args.given.now) _ _ _ _ _ _ c.serve-in-Count.result c.outcome_of-in-Count.result c.outcome_of-in-Count.ensures c.serve-in-Count.ensures.ok c.serve-in-Count.ensures.fault c.serve-in-Count.ensures.database c.serve-in-Count.ensures.unread)

pub returns-in-Check : goal.returns-in-Check
returns-in-Check g c = rw (c.in-Check.is) (reported (check_in c.in-Check.check c.args.given.now) _ _ _ _ _ _ c.serve-in-Check.result c.outcome_of-in-Check.result c.outcome_of-in-Check.ensures c.serve-in-Check.ensures.ok c.serve-in-Check.ensures.fault c.serve-in-Check.ensures.database c.serve-in-Check.ensures.unread)

pub returns-in-Stats : goal.returns-in-Stats
returns-in-Stats g c = rw (c.in-Stats.is) (reported (stats_in c.in-Stats.stats c.args.given.now) _ _ _ _ _ _ c.serve-in-Stats.result c.outcome_of-in-Stats.result c.outcome_of-in-Stats.ensures c.serve-in-Stats.ensures.ok c.serve-in-Stats.ensures.fault c.serve-in-Stats.ensures.database c.serve-in-Stats.ensures.unread)

pub returns-in-Script : goal.returns-in-Script
returns-in-Script g c = rw (c.in-Script.is) (reported (script_in c.args.n.now c.in-Script.script.base c.in-Script.script c.args.given.now (g.R.Read.remaining c.args.reader.now)) _ _ _ _ _ _ c.serve-in-Script.result c.outcome_of-in-Script.result c.outcome_of-in-Script.ensures c.serve-in-Script.ensures.ok c.serve-in-Script.ensures.fault c.serve-in-Script.ensures.database c.serve-in-Script.ensures.unread)

pub returns-in-Widen : goal.returns-in-Widen
returns-in-Widen g c = rw (c.in-Widen.is) (reported (widen_in c.in-Widen.widen c.args.given.now) _ _ _ _ _ _ c.serve-in-Widen.result c.outcome_of-in-Widen.result c.outcome_of-in-Widen.ensures c.serve-in-Widen.ensures.ok c.serve-in-Widen.ensures.fault c.serve-in-Widen.ensures.database c.serve-in-Widen.ensures.unread)

pub returns-in-Compact : goal.returns-in-Compact
returns-in-Compact g c = rw (c.in-Compact.is) (reported (compact_in c.in-Compact.compact c.args.given.now) _ _ _ _ _ _ c.serve-in-Compact.result c.outcome_of-in-Compact.result c.outcome_of-in-Compact.ensures c.serve-in-Compact.ensures.ok c.serve-in-Compact.ensures.fault c.serve-in-Compact.ensures.database c.serve-in-Compact.ensures.unread)

pub returns-in-Dump : goal.returns-in-Dump
returns-in-Dump g c = rw (c.in-Dump.is) (dumped (dump_in c.args.n.now c.in-Dump.dump c.args.given.now) _ _ _ _ _ _ c.serve-in-Dump.result c.outcome_of-in-Dump.result c.outcome_of-in-Dump.ensures c.serve-in-Dump.ensures.ok c.serve-in-Dump.ensures.fault c.serve-in-Dump.ensures.database c.serve-in-Dump.ensures.unread)

pub returns-in-Load : goal.returns-in-Load
returns-in-Load g c = rw (c.in-Load.is) (dumped (load_in c.in-Load.load c.args.given.now (g.R.Read.remaining c.args.reader.now)) _ _ _ _ _ _ c.serve-in-Load.result c.outcome_of-in-Load.result c.outcome_of-in-Load.ensures c.serve-in-Load.ensures.ok c.serve-in-Load.ensures.fault c.serve-in-Load.ensures.database c.serve-in-Load.ensures.unread)

pub returns-in-Asm : goal.returns-in-Asm
returns-in-Asm g c = rw (c.in-Asm.is) (reported (asm_in c.args.given.now) _ _ _ _ _ _ c.serve-in-Asm.result c.outcome_of-in-Asm.result c.outcome_of-in-Asm.ensures c.serve-in-Asm.ensures.ok c.serve-in-Asm.ensures.fault c.serve-in-Asm.ensures.database c.serve-in-Asm.ensures.unread)

pub returns-in-Disasm : goal.returns-in-Disasm
returns-in-Disasm g c = rw (c.in-Disasm.is) (reported (disasm_in c.args.given.now) _ _ _ _ _ _ c.serve-in-Disasm.result c.outcome_of-in-Disasm.result c.outcome_of-in-Disasm.ensures c.serve-in-Disasm.ensures.ok c.serve-in-Disasm.ensures.fault c.serve-in-Disasm.ensures.database c.serve-in-Disasm.ensures.unread)

pub returns-in-Verify : goal.returns-in-Verify
returns-in-Verify g c = rw (c.in-Verify.is) (reported (verify_in c.in-Verify.verify c.args.given.now) _ _ _ _ _ _ c.serve-in-Verify.result c.outcome_of-in-Verify.result c.outcome_of-in-Verify.ensures c.serve-in-Verify.ensures.ok c.serve-in-Verify.ensures.fault c.serve-in-Verify.ensures.database c.serve-in-Verify.ensures.unread)

pub returns-in-Batch : goal.returns-in-Batch
returns-in-Batch g c =
    rw (c.in-Batch.is)
    (batched (batch_in c.args.n.now c.in-Batch.asked c.args.given.now (g.R.Read.remaining c.args.reader.now)) _ _ _ _ _ c.serve_batch.result c.outcome_of-in-Batch.result c.outcome_of-in-Batch.ensures c.serve_batch.ensures.ok c.serve_batch.ensures.fault c.serve_batch.ensures.database)
