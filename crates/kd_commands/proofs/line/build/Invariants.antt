use Rattle.std.proofs.Common.{◌≡◌, false, map, take}
use Rattle.clap.specs.Words.{app_of}
use Rattle.clap.specs.declared.builder.command.Command.TheViews.{out-Command}
use Rattle.kd_commands.specs.Arguments.{parameter_of}
use Rattle.kd_commands.specs.Order.{subcommand_line}
use Rattle.kd_commands.proofs.line.build.Given as goal

abbrev pub invariant-loop-argument : goal.invariant-loop-argument
invariant-loop-argument l =
    (app_of l.longer ≡ subcommand_line (l.fn.subcommand.name.now, map parameter_of (take l.argument-index l.fn.subcommand.arguments.now)))
    × ((out-Command l.longer).has_globals ≡ false)
