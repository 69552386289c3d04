-- The table of the code as the table of `specs/Order.antt`: helpers of private contracts only.
use Rattle.std.specs.Prelude.{List, map}
use Rattle.kd_commands.specs.declared.argument.Argument.{Argument}
use Rattle.kd_commands.specs.declared.argument.Argument.TheVariants.{Text as TextArgument, Flag, Value, RequiredValue}
use Rattle.kd_commands.specs.declared.line.Subcommand.{Subcommand}
use Rattle.clap.specs.Words.{Text}
use Rattle.kd_commands.specs.Order.{Parameter, needs_text, needs_value, takes_flag, takes_value}

-- an argument without its help text
abbrev pub parameter_of : Argument → Parameter
parameter_of (TextArgument name help) = needs_text name.now
parameter_of (Flag name help) = takes_flag name.now
parameter_of (Value name value help) = takes_value name.now
parameter_of (RequiredValue name value help) = needs_value name.now

-- a subcommand without its help texts
abbrev pub entry_of : Subcommand → Text × List Parameter
entry_of subcommand = (subcommand.name.now, map parameter_of subcommand.arguments.now)
