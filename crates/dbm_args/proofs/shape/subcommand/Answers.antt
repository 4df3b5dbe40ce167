use Rattle.std.proofs.Common.{rules}
use Rattle.std.proofs.lemmas.Result.{IfOk-weaker}
use Rattle.clap.specs.Simple.{new_shape}
use Rattle.dbm_args.specs.CommandLine.{IsSubcommand}
use Rattle.dbm_args.proofs.Commands.{grown}
use Rattle.dbm_args.proofs.shape.subcommand.Goals as goal

pub returns : goal.returns
returns c =
    let start : IsSubcommand (new_shape c.args.name.now) c.after_help.result = search rules in
    IfOk-weaker c.args-2.result _ _ (λ r h. grown c.args.args.items c.after_help.result r (new_shape c.args.name.now) h c.requires start) c.args-2.ensures
