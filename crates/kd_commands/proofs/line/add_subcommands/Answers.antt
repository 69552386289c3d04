use Rattle.std.proofs.Common.{◌∙◌, sym}
use Rattle.kd_commands.proofs.Commands.{one_more, subcommand_added}
use Rattle.kd_commands.proofs.line.add_subcommands.Goals as goal

pub loop-subcommand-preserved : goal.loop-subcommand-preserved
loop-subcommand-preserved c =
    subcommand_added _ _ _ _ _ c.in_ok-longer.ensures c.in_ok-build.ensures.local c.loop-subcommand.invariant c.in_ok-build.ensures.app
    ∙ sym (one_more _ c.args.subcommands.now c.loop-subcommand.subcommand-index _ c.loop-subcommand-test.true)
