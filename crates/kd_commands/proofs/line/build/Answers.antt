use Rattle.std.proofs.Common.{◌∙◌, sym}
use Rattle.kd_commands.proofs.Commands.{argument_added, no_more_globals, one_rule_more}
use Rattle.kd_commands.proofs.line.build.Goals as goal

pub loop-argument-preserved : goal.loop-argument-preserved
loop-argument-preserved c =
    let adds = c.in_ok-longer.ensures in
    let local = c.to_arg.ensures.local in (
      argument_added _ _ _ _ _ adds local c.loop-argument.invariant.0 c.to_arg.ensures.rule
          ∙ sym (one_rule_more c.args.subcommand.name.now c.args.subcommand.arguments.now c.loop-argument.argument-index _ c.loop-argument-test.true),
      no_more_globals _ _ _ adds local ∙ c.loop-argument.invariant.1,
    )
