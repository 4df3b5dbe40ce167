use Rattle.dbm_records.specs.Fetch.{fetch}
use Rattle.dbm_records.specs.Store.{store}
use Rattle.dbm_records.specs.Delete.{delete}
use Rattle.dbm_records.specs.Rename.{rename}
use Rattle.dbm_databases.specs.List.{list}
use Rattle.dbm_databases.specs.Keys.{keys}
use Rattle.dbm_databases.specs.Count.{count}
use Rattle.dbm_databases.specs.Check.{check}
use Rattle.dbm_databases.specs.Stats.{stats}
use Rattle.dbm_databases.specs.Script.{script}
use Rattle.dbm_databases.specs.Widen.{widen}
use Rattle.dbm_session.specs.Session.{session}
use Rattle.dbm_dump.specs.Backup.{backup}
use Rattle.dbm_dump.specs.Compact.{compact}
use Rattle.dbm_dump.specs.Dump.{dump}
use Rattle.dbm_dump.specs.Load.{load}
use Rattle.dbm_programs.specs.Asm.{asm}
use Rattle.dbm_programs.specs.Disasm.{disasm}
use Rattle.dbm_programs.specs.Programs.{programs}
use Rattle.dbm_programs.specs.Verify.{verify}
use Rattle.dbm_records.specs.Run.{run}
use Rattle.dbm_records.specs.Incr.{incr}
use Rattle.dbm_records.specs.Each.{each}
use Rattle.dbm_records.specs.Batch.{batch}
use Rattle.dbm_command_line.proofs.tool.tool_command.Goals as goal

pub returns : goal.returns
returns c =
    let with_fetch = c.with_subcommand-command.ensures _ fetch c.bare_command-command.ensures c.fetch_command.ensures in
    let with_store = c.with_subcommand-command-2.ensures _ store with_fetch c.store_command.ensures in
    let with_delete = c.with_subcommand-command-3.ensures _ delete with_store c.delete_command.ensures in
    let with_rename = c.with_subcommand-command-4.ensures _ rename with_delete c.rename_command.ensures in
    let with_incr = c.with_subcommand-command-5.ensures _ incr with_rename c.incr_command.ensures in
    let with_list = c.with_subcommand-command-6.ensures _ list with_incr c.list_command.ensures in
    let with_keys = c.with_subcommand-command-7.ensures _ keys with_list c.keys_command.ensures in
    let with_count = c.with_subcommand-command-8.ensures _ count with_keys c.count_command.ensures in
    let with_check = c.with_subcommand-command-9.ensures _ check with_count c.check_command.ensures in
    let with_stats = c.with_subcommand-command-10.ensures _ stats with_check c.stats_command.ensures in
    let with_script = c.with_subcommand-command-11.ensures _ script with_stats c.script_command.ensures in
    let with_session = c.with_subcommand-command-12.ensures _ session with_script c.session_command.ensures in
    let with_widen = c.with_subcommand-command-13.ensures _ widen with_session c.widen_command.ensures in
    let with_compact = c.with_subcommand-command-14.ensures _ compact with_widen c.compact_command.ensures in
    let with_backup = c.with_subcommand-command-15.ensures _ backup with_compact c.backup_command.ensures in
    let with_dump = c.with_subcommand-command-16.ensures _ dump with_backup c.dump_command.ensures in
    let with_load = c.with_subcommand-command-17.ensures _ load with_dump c.load_command.ensures in
    let with_asm = c.with_subcommand-command-18.ensures _ asm with_load c.asm_command.ensures in
    let with_disasm = c.with_subcommand-command-19.ensures _ disasm with_asm c.disasm_command.ensures in
    let with_verify = c.with_subcommand-command-20.ensures _ verify with_disasm c.verify_command.ensures in
    let with_programs = c.with_subcommand-command-21.ensures _ programs with_verify c.programs_command.ensures in
    let with_run = c.with_subcommand-command-22.ensures _ run with_programs c.run_command.ensures in
    let with_each = c.with_subcommand-command-23.ensures _ each with_run c.each_command.ensures in
    c.with_subcommand.ensures _ batch with_each c.batch_command.ensures
