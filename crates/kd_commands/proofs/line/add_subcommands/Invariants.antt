use Rattle.std.proofs.Common.{◌≡◌, fold, map, take}
use Rattle.clap.specs.Words.{app_of}
use Rattle.kd_commands.specs.Arguments.{entry_of}
use Rattle.kd_commands.specs.Order.{with_entry}
use Rattle.kd_commands.proofs.line.add_subcommands.Given as goal

abbrev pub invariant-loop-subcommand : goal.invariant-loop-subcommand
invariant-loop-subcommand l =
    app_of l.longer ≡ fold with_entry (app_of l.fn.line) (map entry_of (take l.subcommand-index l.fn.subcommands))
