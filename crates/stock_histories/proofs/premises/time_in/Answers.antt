use Rattle.std.proofs.Common.{rules, ◌≡◌, ◌≢◌}
use Rattle.store_cmd.specs.declared.Command.TheVariants.{Run}
use Rattle.store_cmd.specs.declared.Reply.TheVariants.{Ran}
use Rattle.stock_histories.proofs.TrailTests.{other_time, own_time}
use Rattle.stock_histories.proofs.premises.time_in.Goals as goal

pub returns-then-ne : goal.returns-then-ne
returns-then-ne g c =
    let command : c.args.entry.now.command ≡ Run c.in-Run.own c.in-Run.prog c.in-Run.arg c.in-Run.blank c.in-Run.now = search rules in
    let reply : c.args.entry.now.reply ≡ Ran c.in-Ran.code c.in-Ran.word = search rules in
    let apart : c.in-Run.own ≢ c.args.key.now = search rules in
    other_time c.args.key.now c.args.entry.now.session c.args.entry.now.command c.args.entry.now.reply c.in-Run.own c.in-Run.prog c.in-Run.arg c.in-Run.blank
    c.in-Run.now c.in-Ran.code c.in-Ran.word command reply apart

pub returns : goal.returns
returns g c =
    let command : c.args.entry.now.command ≡ Run c.in-Run.own c.in-Run.prog c.in-Run.arg c.in-Run.blank c.in-Run.now = search rules in
    let reply : c.args.entry.now.reply ≡ Ran c.in-Ran.code c.in-Ran.word = search rules in
    let same : c.in-Run.own ≡ c.args.key.now = search rules in
    own_time c.args.key.now c.args.entry.now.session c.args.entry.now.command c.args.entry.now.reply c.in-Run.own c.in-Run.prog c.in-Run.arg c.in-Run.blank
    c.in-Run.now c.in-Ran.code c.in-Ran.word command reply same
