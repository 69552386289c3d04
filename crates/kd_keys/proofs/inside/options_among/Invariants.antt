use Rattle.std.proofs.Common.{◌≡◌, ◌++◌, drop, map}
use Rattle.std.specs.List.{filter}
use Rattle.kd_keys.specs.Options.{is_of_message, option_with, options_by}
use Rattle.kd_keys.proofs.inside.options_among.Given as goal

abbrev pub invariant-loop-entry : goal.invariant-loop-entry
invariant-loop-entry l =
    l.options.items ++ map (option_with l.entries) (filter is_of_message (drop l.entry-index l.entries))
    ≡ options_by l.entries
