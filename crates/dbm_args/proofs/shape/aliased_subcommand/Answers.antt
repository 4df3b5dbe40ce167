use Rattle.std.proofs.Common.{map}
use Rattle.std.proofs.lemmas.Result.{IfOk-weaker}
use Rattle.clap.specs.Words.{rule_of}
use Rattle.dbm_args.specs.CommandLine as spec
use Rattle.dbm_args.proofs.Commands.{named}
use Rattle.dbm_args.proofs.shape.aliased_subcommand.Goals as goal

pub returns : goal.returns
returns c =
    IfOk-weaker c.visible_alias.result _ _
    (λ r h. named _ r c.args.alias (spec.subcommand c.args.name.now (map rule_of c.args.args.items)) h c.in_ok-subcommand.ensures) c.visible_alias.ensures
