use Rattle.std.proofs.Common.{◌≡◌, drop}
use Rattle.kd_keys.specs.Options.{entries_differ}
use Rattle.kd_keys.proofs.options.check_entries.Given as goal

abbrev pub invariant-loop-i : goal.invariant-loop-i
invariant-loop-i l = entries_differ l.entries ≡ entries_differ (drop l.i l.entries)
